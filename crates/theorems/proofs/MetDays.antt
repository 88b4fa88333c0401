-- What a planner that says met has done: what was handed in is sound, the buffer holds the run's plan, and the run leaves nobody unfinished.
use Prim.Native.Nat.{ℕ}
use mathlib.Core.Path.{◌≡◌, refl, ap}
use mathlib.Core.List.{List}
use native.Mathlib.Omega.{arith}
use Rattle.std.specs.Prelude.{Option, Some, None, Result, Ok}
use Rattle.sheet.specs.HandedIn.{HandedIn, day_in, Sound}
use Rattle.demand.specs.Search.{first_overload}
use Rattle.demand.specs.declared.Overload.{Overload}
use Rattle.choice.specs.Choosing.{unfinished}
use Rattle.slot_run.specs.Run.{state_at, plan_of}
use Rattle.planner.specs.Plan.{met, by_found, by_unfinished, verdict_of}
use Rattle.planner.specs.Promise.{planned_says, Plans}
use Rattle.planner.proofs.Theorems.{verdict_given}
use Rattle.planner.specs.declared.Planned.{Planned}
use Rattle.planner.specs.declared.PlannerRefusal.{PlannerRefusal}
use Rattle.planner.specs.declared.Planned.TheVariants.{Met}

-- a verdict of met comes of nothing found and nobody unfinished
met_run : (found : Option Overload) (left : Option ℕ) → by_found found (by_unfinished left) ≡ met → left ≡ None
met_run (Some o) left e = let z : ◌≡◌ {A = ℕ} 0 1 = cc in absurd (omega arith)
met_run None None e = refl
met_run None (Some k) e = let z : ◌≡◌ {A = ℕ} 0 1 = cc in absurd (omega arith)

pub met_plans : (h : HandedIn) (plan : List ℕ) (r : Result Planned PlannerRefusal) (after : List ℕ) → Plans h plan r after → r ≡ Ok Met
    → Sound h × (after ≡ plan_of (day_in h)) × (unfinished (day_in h) (state_at (day_in h) (day_in h).table.slots) ≡ None)
unfolding verdict_of
met_plans h plan r after planned e =
    let given = verdict_given h plan r after planned met (ap planned_says e) in
    (given.0, given.2, met_run (first_overload (day_in h)) (unfinished (day_in h) (state_at (day_in h) (day_in h).table.slots)) given.1)
