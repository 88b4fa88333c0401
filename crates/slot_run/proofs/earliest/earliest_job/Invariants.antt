-- The loop keeps: what is held is the choice among the jobs before k, whatever the test says of them.
use Rattle.slot_run.specs.Steps.{deadline_in}
use Rattle.slot_run.proofs.Asking.{ChosenTo}
use Rattle.slot_run.proofs.earliest.earliest_job.Given as goal

abbrev pub invariant-loop-k : goal.invariant-loop-k
invariant-loop-k g l = ChosenTo (goal.F-post g l.test) (deadline_in l.jobs) l.k l.so_far
