-- Slack energy is below the chosen job's energy where some job by itself leaves less.
use Rattle.std.proofs.Common.{◌∙◌, ap, rules}
use Rattle.sheet.specs.Sums.{some}
use Rattle.slacks.proofs.SlackTests.{saving_by}
use Rattle.slot_run.proofs.slot.Slot.needs_charge.Goals as goal

pub returns : goal.returns
returns c = λ d w. c.some_job.ensures _ (λ k h r p. search rules) ∙ ap (some _) w.count_is ∙ saving_by d _ _ _
