-- The refusal of what was handed in, 7 by the buffer's length, or what the search found and the run left.
use mathlib.Core.Path.{subst}
use Rattle.sheet.proofs.Residual.{err_is}
use Rattle.sheet.specs.Checked.{Checks, the_day}
use Rattle.totals.specs.Totals.{Summed}
use Rattle.planner.proofs.Promised.{plan_refused, plans_wrong, plans_overloaded, plans_met, plans_undecided}
use Rattle.planner.proofs.plan_day.Goals.{After-running-totals}
use Rattle.planner.proofs.plan_day.Goals as goal

pub returns-in_err-day : goal.returns-in_err-day
returns-in_err-day c h checks =
    rw (err_is _ c.from_residual.ensures.1) (plan_refused h _ (subst (Checks h) c.in_err-day.was checks) _)

pub returns-then-plan-day : goal.returns-then-plan-day
returns-then-plan-day c h checks =
    plans_wrong h _ _ (subst (Checks h) c.in_ok-day.was checks) c.if-plan-day.true

-- the totals that were made are those of the day
summed : (c : After-running-totals) → Summed (the_day c.in_ok-day.day) c.running-totals.result
summed c = record { good = c.in_ok-day.day.good; totals_are = c.running-totals.ensures }

pub returns-in-Some : goal.returns-in-Some
returns-in-Some c h checks =
    plans_overloaded h _ _ (subst (Checks h) c.in_ok-day.was checks) c.if-plan-day.false _ (c.first_overload.ensures _ (summed (goal.at.returns-in-Some c).After-running-totals)) _ c.in-Some.is

pub returns-in-None : goal.returns-in-None
returns-in-None c h checks =
    let ran = c.whole_run.ensures in
    plans_met h _ _ (subst (Checks h) c.in_ok-day.was checks) c.if-plan-day.false _ (c.first_overload.ensures _ (summed (goal.at.returns-in-None c).After-running-totals)) c.in_default.is _ _ ran.unfinished ran.plan c.in-None.is

pub returns-in-Some-whole_run : goal.returns-in-Some-whole_run
returns-in-Some-whole_run c h checks =
    let ran = c.whole_run.ensures in
    plans_undecided h _ _ (subst (Checks h) c.in_ok-day.was checks) c.if-plan-day.false _ (c.first_overload.ensures _ (summed (goal.at.returns-in-Some-whole_run c).After-running-totals)) c.in_default.is _ _ ran.unfinished ran.plan _ c.in-Some-whole_run.is
