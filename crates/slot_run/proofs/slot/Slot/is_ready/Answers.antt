-- The job's numbers are what its columns say.
use Rattle.std.proofs.Common.{◌∙◌}
use Rattle.choice.specs.Choosing.{ready}
use Rattle.slot_run.proofs.Slots.{reads}
use Rattle.slot_run.proofs.slot.Slot.is_ready.Goals as goal

pub returns : goal.returns
unfolding ready
returns c = λ d w. let job = reads d c.args.self.now w c.args.k c.requires in c.passes_test.ensures ∙ rw (job.release, job.deadline)
