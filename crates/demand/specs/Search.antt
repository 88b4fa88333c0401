-- The overload search: "tries intervals from a job's release to a job's deadline. It answers the overloaded one with the smallest end, then the
-- latest start, and there time before energy, with demand and supply." `search_finds` and `search_clear` say in the paper's words what it finds.
use Rattle.std.specs.Prelude.{ℕ, zero, suc, ◌≡◌, Bool, cond, eqb, Option, Some, None, Result, Ok, Err}
use Rattle.std.specs.Option.{option_or}
use Rattle.sheet.specs.HandedIn.{HandedIn, check_says, day_in}
use Rattle.sheet.specs.Paper.{Paper, gives, ◌else◌}
use Rattle.sheet.specs.Refusals.{refusal_says}
use Rattle.sheet.specs.Sums.{some}
use Rattle.sheet.specs.Table.{job_of, Day}
use Rattle.interval.specs.Demand.{kind_number, demand_of, supply_of, overloaded}
use Rattle.interval.specs.declared.Kind.{Kind}
use Rattle.interval.specs.declared.Kind.TheVariants.{Time, Energy}
use Rattle.demand.specs.declared.Overload.{Overload}
use Rattle.sheet.specs.declared.Refusal.{Refusal}

-- an interval of a kind, with its demand and supply
abbrev pub interval_of : Kind → Day → ℕ → ℕ → Overload
interval_of kind d from to = record { kind = kind; from = from; to = to; demand = demand_of kind d from to; supply = supply_of kind d from to }

-- "from a job's release to a job's deadline"
unfoldable pub is_release : Day → ℕ → Bool
is_release d slot = some (λ k. eqb (job_of d.table k).release slot) d.table.count

unfoldable pub is_deadline : Day → ℕ → Bool
is_deadline d slot = some (λ k. eqb (job_of d.table k).deadline slot) d.table.count

-- one interval: "time before energy"
unfoldable pub found_at : Day → ℕ → ℕ → Option Overload
found_at d from to =
    cond (overloaded Time d from to) (Some (interval_of Time d from to))
    (cond (overloaded Energy d from to) (Some (interval_of Energy d from to)) None)

-- "then the latest start": among the releases below n, for one end
unfoldable pub latest_start : Day → ℕ → ℕ → Option Overload
latest_start d to zero = None
latest_start d to (suc n) = option_or (cond (is_release d n) (found_at d n to) None) (latest_start d to n)

-- "the smallest end": among the deadlines up to n, with starts before each
unfoldable pub smallest_end : Day → ℕ → Option Overload
smallest_end d zero = None
smallest_end d (suc n) = option_or (smallest_end d n) (cond (is_deadline d (suc n)) (latest_start d (suc n) (suc n)) None)

-- the search of a whole day
abbrev pub first_overload : Day → Option Overload
first_overload d = smallest_end d d.table.slots

-- ---- the answer, as the paper writes it: an overloaded interval by its kind's number, its slots, demand and supply; or that there is none

pub record Interval : Type 0 where
  pub kind : ℕ
  pub from : ℕ
  pub to : ℕ
  pub demand : ℕ
  pub supply : ℕ

pub data Answer : Type 0 where
  overloaded_is : Interval → Answer
  none_is : Answer

abbrev pub overload_says : Overload → Interval
overload_says o = record { kind = kind_number o.kind; from = o.from; to = o.to; demand = o.demand; supply = o.supply }

unfoldable pub found_says : Option Overload → Answer
found_says (Some o) = overloaded_is (overload_says o)
found_says None = none_is

abbrev pub searched_says : Result (Option Overload) Refusal → Paper Answer
searched_says (Ok found) = gives (found_says found)
searched_says (Err r) = refusal_says r

-- the search of what is checked first, and what it promises
unfoldable pub search_of : HandedIn → Paper Answer
search_of h = check_says h else gives (found_says (first_overload (day_in h)))

pub record Searches (h : HandedIn) (r : Result (Option Overload) Refusal) : Type 0 where
  pub answer : searched_says r ≡ search_of h
