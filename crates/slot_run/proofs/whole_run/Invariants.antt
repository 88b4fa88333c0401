-- The loop keeps what a run keeps.
use Rattle.sheet.specs.Checked.{the_day}
use Rattle.slot_run.proofs.Running.{RunTo}
use Rattle.slot_run.proofs.whole_run.Given as goal

abbrev pub invariant-loop-n : goal.invariant-loop-n
invariant-loop-n l = RunTo (the_day l.day) l.initial.plan l.n l.s l.plan
