-- The loop keeps: what is held is the choice among the jobs before k, whatever the test says of them.
use Rattle.std.proofs.Common.{sym, ◌∙◌}
use Rattle.choice.proofs.Choosing.{earliest_none}
use Rattle.slot_run.proofs.Asking.{chosen_more, chosen_past}
use Rattle.slot_run.proofs.earliest.earliest_job.Goals.{then-test, else-test}
use Rattle.slot_run.proofs.earliest.earliest_job.Goals as goal

pub loop-k-init : goal.loop-k-init
loop-k-init g c = (tt, λ passes all. sym (earliest_none _ _))

pub loop-k-preserved : goal.loop-k-preserved
loop-k-preserved g c = elim c.if-test.branch [
  | then-test w ↦ chosen_more _ _ _ _ c.loop-k.invariant _ c.test.ensures _ w.if-test.true (w.so_far-is ∙ w.beside-so_far.ensures)
  | else-test w ↦ chosen_past _ _ _ _ c.loop-k.invariant _ c.test.ensures _ w.if-test.false w.so_far-is
]
