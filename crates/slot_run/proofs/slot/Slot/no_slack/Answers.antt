-- Slack time is 0 or less where some job by itself leaves none.
use Rattle.std.proofs.Common.{◌∙◌, ap, rules}
use Rattle.sheet.specs.Sums.{some}
use Rattle.slacks.proofs.SlackTests.{no_slack_by_lem}
use Rattle.slot_run.proofs.slot.Slot.no_slack.Goals as goal

pub returns : goal.returns
returns c = λ d w. c.some_job.ensures _ (λ k h r p. search rules) ∙ ap (some _) w.count_is ∙ no_slack_by_lem d _
