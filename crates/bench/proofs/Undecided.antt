-- The job of an undecided day is one of the table's.
use Prim.Native.Nat.{ℕ, ◌<◌}
use mathlib.Core.Path.{◌≡◌, ap}
use mathlib.Core.List.{List}
use native.Mathlib.Omega.{arith}
use Rattle.std.specs.Prelude.{Option, Some, None, Result, Ok}
use Rattle.sheet.specs.HandedIn.{on_sheet, day_in}
use Rattle.sheet.specs.Table.{most_jobs}
use Rattle.demand.specs.Search.{first_overload}
use Rattle.demand.specs.declared.Overload.{Overload}
use Rattle.choice.specs.Choosing.{unfinished}
use Rattle.choice.proofs.Choosing.{chosen_passes}
use Rattle.slot_run.specs.Run.{state_at}
use Rattle.planner.specs.Plan.{undecided, by_found, by_unfinished, verdict_of}
use Rattle.planner.specs.Promise.{planned_says, Plans}
use Rattle.planner.specs.declared.Planned.{Planned}
use Rattle.planner.specs.declared.Planned.TheVariants.{Undecided}
use Rattle.planner.specs.declared.PlannerRefusal.{PlannerRefusal}
use Rattle.planner.proofs.Theorems.{verdict_given}

left_over : (found : Option Overload) (c : Option ℕ) (k : ℕ) → by_found found (by_unfinished c) ≡ undecided k → c ≡ Some k
left_over (Some o) c k e = let z : ◌≡◌ {A = ℕ} 0 1 = cc in absurd (omega arith)
left_over None None k e = let z : ◌≡◌ {A = ℕ} 0 1 = cc in absurd (omega arith)
left_over None (Some m) k e = cc

-- a table has at most 64
pub undecided_few : (s plan : List ℕ) (r : Result Planned PlannerRefusal) (after : List ℕ) → Plans (on_sheet s) plan r after → (k : ℕ) → r ≡ Ok (Undecided k) → k < most_jobs
unfolding verdict_of unfinished
undecided_few s plan r after plans k told =
    let d = day_in (on_sheet s) in
    let given = verdict_given (on_sheet s) plan r after plans (undecided k) (ap planned_says told) in
    let few = given.0.good_day.few_jobs in
    let left = left_over (first_overload d) (unfinished d (state_at d d.table.slots)) k given.1 in
    let below = (chosen_passes _ _ d.table.count k left).below in
    omega arith
