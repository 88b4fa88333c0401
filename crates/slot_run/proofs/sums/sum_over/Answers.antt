-- The loop keeps: the sum is that of the jobs before k, whatever each counts for, and small.
use Rattle.std.proofs.Common.{◌≤◌, sym, ap₂, ◌∙◌, arith, ◌+◌}
use Rattle.sheet.specs.Sums.{most_cost}
use Rattle.sheet.proofs.Sums.{total_none, total_more}
use Rattle.slot_run.proofs.Asking.{fewer}
use Rattle.slot_run.proofs.sums.sum_over.Goals as goal

pub loop-k-init : goal.loop-k-init
loop-k-init g c = (omega arith, λ f all. sym (total_none f))

pub loop-k-preserved : goal.loop-k-preserved
loop-k-preserved g c =
    let k = c.loop-k.k in
    let small : c.part-sum.result ≤ most_cost = c.requires.small k _ c.loop-k-test.true c.part-sum.ensures in (
      omega arith,
      λ f all. ap₂ ◌+◌ (c.loop-k.invariant.1 f (fewer _ f k all)) (all k (omega arith) _ c.part-sum.ensures) ∙ sym (total_more f k),
    )
