-- An even day, and what it is for such a day to be decided.
use Rattle.std.specs.Prelude.{ℕ, ◌<◌, ◌≤◌, ◌≡◌, List, ◌⊎◌, Result, Ok}
use Rattle.sheet.specs.HandedIn.{HandedIn}
use Rattle.sheet.specs.Sums.{harvest_at}
use Rattle.sheet.specs.Table.{job_of, Day}
use Rattle.interval.specs.Demand.{kind_number}
use Rattle.demand.specs.declared.Overload.{Overload}
use Rattle.planner.specs.declared.Planned.{Planned}
use Rattle.planner.specs.declared.PlannerRefusal.{PlannerRefusal}
use Rattle.planner.specs.declared.Planned.TheVariants.{Overloaded, Met}
use Rattle.judge.specs.Promise.{JudgesPlan, JudgesClaim}
use Rattle.judge.specs.declared.PlanRefusal.{PlanRefusal}
use Rattle.judge.specs.declared.Sums.{Sums}
use Rattle.judge.specs.declared.ClaimRefusal.{ClaimRefusal}

-- "even .. (each busy slot costs 1, each slot harvests 0 or 1)"
pub record EvenDay (d : Day) : Type 0 where
  pub costs_one : (k : ℕ) → k < d.table.count → (job_of d.table k).energy ≡ 1
  pub harvests_at_most_one : (i : ℕ) → i < d.table.slots → harvest_at d.harvest i ≤ 1

-- the judge accepts a plan, or a claim, for what was handed in: that answer meets its promise, and no other does
pub record PlanAccepted (h : HandedIn) (plan : List ℕ) : Type 0 where
  pub answers : JudgesPlan h plan (Ok tt)
  pub nothing_else : (r : Result (Unit {0}) PlanRefusal) → JudgesPlan h plan r → r ≡ Ok tt

pub record ClaimAccepted (h : HandedIn) (number from to : ℕ) : Type 0 where
  pub sums : Sums
  pub answers : JudgesClaim h number from to (Ok sums)
  pub nothing_else : (r : Result Sums ClaimRefusal) → JudgesClaim h number from to r → r ≡ Ok sums

-- the planner, lent `plan`, answered r and left `after`: either it says met, and the judge accepts what it wrote; or it names an interval, leaves the
-- buffer as it was, and the judge accepts that interval
abbrev pub Decided : (h : HandedIn) (plan : List ℕ) → Result Planned PlannerRefusal → (after : List ℕ) → Type 0
Decided h plan r after =
    ((r ≡ Ok Met) × PlanAccepted h after)
    ⊎ ((o : Overload) × (r ≡ Ok (Overloaded o)) × (after ≡ plan) × ClaimAccepted h (kind_number o.kind) o.from o.to)
