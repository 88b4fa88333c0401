-- The unfinished job is the earliest of those that still want slots.
use Rattle.std.proofs.Common.{◌∙◌, ap, sym, ltb, refl, rules, get_or, arith}
use Rattle.choice.specs.Choosing.{earliest, deadline_of, unfinished}
use Rattle.choice.proofs.Choosing.{earliest_same}
use Rattle.slot_run.proofs.earliest.find_unfinished.Goals as goal

pub returns : goal.returns
unfolding unfinished
returns c =
    λ d s columns count left.
    c.earliest_job.ensures (λ k. ltb 0 (get_or c.args.left.now k 0)) (λ k h r p. search rules)
    ∙ earliest_same _ _ _ (deadline_of d) _ (λ k h. refl) (λ k h. columns.deadline k (omega arith) (omega (arith, c.requires)))
    ∙ ap (earliest _ _) (sym count)
    ∙ ap (λ l. earliest (λ k. ltb 0 (get_or l k 0)) (deadline_of d) d.table.count) (sym left)
