-- What the planner promises, for anything handed in and any plan buffer.
use Rattle.std.specs.Prelude.{ℕ, ◌≡◌, List, Result, Ok, Err}
use Rattle.sheet.specs.HandedIn.{HandedIn}
use Rattle.sheet.specs.Paper.{Paper, gives}
use Rattle.sheet.specs.Refusals.{refusal_says}
use Rattle.demand.specs.Search.{overload_says}
use Rattle.planner.specs.Plan.{Verdict, overloaded, met, undecided, wrong_plan, plan_for, plan_left}
use Rattle.planner.specs.declared.Planned.{Planned}
use Rattle.planner.specs.declared.Planned.TheVariants.{Overloaded, Met, Undecided}
use Rattle.planner.specs.declared.PlannerRefusal.{PlannerRefusal}
use Rattle.planner.specs.declared.PlannerRefusal.TheVariants.{WrongPlan}

-- the planner's answer as the paper writes it
abbrev pub planned_says : Result Planned PlannerRefusal → Paper Verdict
planned_says (Ok (Overloaded o)) = gives (overloaded (overload_says o))
planned_says (Ok Met) = gives met
planned_says (Ok (Undecided k)) = gives (undecided k)
planned_says (Err (PlannerRefusal.HandedIn r)) = refusal_says r
planned_says (Err WrongPlan) = wrong_plan

-- the answer, and every byte of the plan buffer
pub record Plans (h : HandedIn) (plan : List ℕ) (r : Result Planned PlannerRefusal) (after : List ℕ) : Type 0 where
  pub answer : planned_says r ≡ plan_for h plan
  pub buffer : after ≡ plan_left h plan
