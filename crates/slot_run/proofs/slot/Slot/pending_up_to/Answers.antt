-- The sum of what each job counts for.
use Rattle.std.proofs.Common.{◌∙◌, ap, rules}
use Rattle.sheet.specs.Sums.{total}
use Rattle.slacks.specs.Slack.{pending}
use Rattle.slot_run.proofs.slot.Slot.pending_up_to.Goals as goal

pub returns : goal.returns
unfolding pending
returns c = λ d w. c.sum_over.ensures _ (λ k h r p. search rules) ∙ ap (total _) w.count_is
