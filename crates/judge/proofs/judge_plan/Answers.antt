-- The refusal of what was handed in, 11 by the plan's length, or what the slots say.
use mathlib.Core.Path.{subst}
use Rattle.sheet.proofs.Residual.{err_is}
use Rattle.sheet.specs.Checked.{Checks}
use Rattle.judge.proofs.Promised.{plan_refused, says_eleven, says_found}
use Rattle.judge.proofs.judge_plan.Goals as goal

pub returns-in_err-day : goal.returns-in_err-day
returns-in_err-day c h checks =
    rw (err_is _ c.from_residual.ensures.1) (plan_refused h _ (subst (Checks h) c.in_err-day.was checks) _)

pub returns-then-plan-day : goal.returns-then-plan-day
returns-then-plan-day c h checks =
    says_eleven h _ _ (subst (Checks h) c.in_ok-day.was checks) c.if-plan-day.true

pub returns-in_err-found : goal.returns-in_err-found
returns-in_err-found c h checks =
    rw (err_is _ c.from_residual-in_err-found.ensures.1) (says_found h _ _ (subst (Checks h) c.in_ok-day.was checks) c.if-plan-day.false _ c.in_err-found.ensures)

pub returns : goal.returns
returns c h checks =
    says_found h _ _ (subst (Checks h) c.in_ok-day.was checks) c.if-plan-day.false _ c.in_ok-found.ensures
