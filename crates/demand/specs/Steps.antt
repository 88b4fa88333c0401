-- What the steps of the search hand to each other. No promise of the paper rests on this page.
use Rattle.std.specs.Prelude.{ℕ, ◌≤◌, ◌<◌, ◌≡◌, List, Option, Some, None, cond, leb, get_or}
use Rattle.sheet.specs.Sums.{most_cost, most_harvest}
use Rattle.sheet.specs.Table.{most_slots, job_of, Day, day_of}
use Rattle.sheet.specs.declared.Table.{Table}
use Rattle.totals.specs.Totals.{Summed}
use Rattle.interval.specs.Demand.{share_of, demand_of}
use Rattle.demand.specs.declared.Demands.{Demands}
use Rattle.demand.specs.declared.Overload.{Overload}
use Rattle.interval.specs.declared.Kind.{Kind}
use Rattle.interval.specs.declared.Kind.TheVariants.{Time, Energy}

-- what is known of the running totals of a day's harvest without the harvest
pub record Totalled (slots : ℕ) (totals : List ℕ) : Type 0 where
  pub short : slots ≤ most_slots
  pub small : (k : ℕ) → get_or totals k 0 ≤ most_harvest
  pub rises : (from to : ℕ) → from ≤ to → to ≤ slots → get_or totals from 0 ≤ get_or totals to 0

-- the most that a job demands of a kind
abbrev pub most_due : Kind → ℕ
most_due Time = 65535
most_due Energy = most_cost

-- what job k demands of a kind where it is due by an end
abbrev pub due_share : Kind → Table → ℕ → ℕ → ℕ
due_share kind t to k = cond (leb (job_of t k).deadline to) (share_of kind (job_of t k)) 0

-- that of each of the first n jobs
pub record DueBy (kind : Kind) (t : Table) (n to : ℕ) (due : List ℕ) : Type 0 where
  pub share : (k : ℕ) → k < n → get_or due k 0 ≡ due_share kind t to k
  pub small : (k : ℕ) → k < n → get_or due k 0 ≤ most_due kind

-- the demands of an interval, which no harvest changes
pub record DemandsOf (t : Table) (from to : ℕ) (r : Demands) : Type 0 where
  pub time : (harvest : List ℕ) → r.time ≡ demand_of Time (day_of t harvest) from to
  pub energy : (harvest : List ℕ) → r.energy ≡ demand_of Energy (day_of t harvest) from to

-- what is found, by the running totals, is what is to be found, by any harvest that has them
abbrev pub Finds : Table → List ℕ → (Day → Option Overload) → Option Overload → Type 0
Finds t totals wanted found = (harvest : List ℕ) → Summed (day_of t harvest) totals → found ≡ wanted (day_of t harvest)

-- the first deadline of a day after a slot
pub record IsNext (t : Table) (after next : ℕ) : Type 0 where
  pub later : after < next
  pub in_day : next ≤ t.slots
  pub is_one : (k : ℕ) × (k < t.count) × ((job_of t k).deadline ≡ next)
  pub none_nearer : (k : ℕ) → k < t.count → after < (job_of t k).deadline → next ≤ (job_of t k).deadline

-- that, or that the day has none
abbrev pub NextDeadline : Table → ℕ → Option ℕ → Type 0
NextDeadline t after (Some next) = IsNext t after next
NextDeadline t after None = (k : ℕ) → k < t.count → after < (job_of t k).deadline → t.slots < (job_of t k).deadline
