-- The refusal of what was handed in, the day over, or the slot that is taken.
use mathlib.Core.Path.{subst}
use Rattle.sheet.proofs.Residual.{err_is}
use Rattle.sheet.specs.Checked.{Checks}
use Rattle.slot_run.proofs.Promised.{steps_refused, steps_over, steps_decided}
use Rattle.slot_run.proofs.take_step.Goals as goal

pub returns-in_err-day : goal.returns-in_err-day
returns-in_err-day c h checks =
    rw (err_is _ c.from_residual.ensures.1) (steps_refused h _ _ (subst (Checks h) c.in_err-day.was checks))

pub returns-then-day-s : goal.returns-then-day-s
returns-then-day-s c h checks =
    steps_over h _ _ (subst (Checks h) c.in_ok-day.was checks) c.if-day-s.true

pub returns : goal.returns
returns c h checks =
    let took = c.take_slot.ensures in
    steps_decided h _ _ (subst (Checks h) c.in_ok-day.was checks) _ _ c.if-day-s.false took.decides took.next
