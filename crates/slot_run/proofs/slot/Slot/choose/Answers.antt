-- Each test says which jobs are ready on the slot's day, and each column holds their deadlines.
use Rattle.std.proofs.Common.{◌∙◌, ap, rules, refl}
use Rattle.choice.specs.Choosing.{earliest, ready, chosen, deadline_of}
use Rattle.choice.proofs.Choosing.{earliest_same}
use Rattle.slot_run.proofs.Slots.{reads}
use Rattle.slot_run.proofs.slot.Slot.choose.Goals as goal

pub returns : goal.returns
unfolding chosen
returns c =
    λ d w.
    c.earliest_job.ensures (ready d c.args.self.now.state.now) (λ k h r p. search rules)
    ∙ earliest_same _ _ _ (deadline_of d) _ (λ k h. refl) (λ k h. (reads d c.args.self.now w k h).deadline)
    ∙ ap (earliest _ _) w.count_is
