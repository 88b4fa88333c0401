-- What the run's own steps hand each other. No promise of a public call rests on this page.
use Rattle.std.specs.Prelude.{ℕ, ◌+◌, ◌<◌, ◌≡◌, List, get_or}
use Rattle.sheet.specs.Table.{Day}
use Rattle.totals.specs.Totals.{Summed}
use Rattle.columns.specs.Columns.{deadlines_from, ColumnsOf}
use Rattle.choice.specs.declared.State.{State}
use Rattle.rules.specs.Rules.{at_hand}

-- the numbers, the state, the columns and the totals are those of a slot of this day
pub record Shows (d : Day) (count capacity charge harvested : ℕ) (s : State) (jobs totals : List ℕ) : Type 0 where
  pub summed : Summed d totals
  pub columns : ColumnsOf d.table jobs
  pub in_day : s.slot < d.table.slots
  pub count_is : count ≡ d.table.count
  pub capacity_is : capacity ≡ d.table.capacity
  pub charge_is : charge ≡ at_hand d s
  pub harvested_is : harvested ≡ get_or totals s.slot 0

-- each call at a number below n may be made
abbrev pub Callable : (ℕ → Type 0) → ℕ → Type 0
Callable pre n = (k : ℕ) → k < n → pre k

-- and answers what f says of that number
abbrev pub Answers : {A : Type 0} → (ℕ → A → Type 0) → (ℕ → A) → ℕ → Type 0
Answers {A} post f n = (k : ℕ) → k < n → (r : A) → post k r → r ≡ f k

-- the deadline of job k, as it is read off columns
abbrev pub deadline_in : List ℕ → ℕ → ℕ
deadline_in jobs k = get_or jobs (deadlines_from + k) 0
