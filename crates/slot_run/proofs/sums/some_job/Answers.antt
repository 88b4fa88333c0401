-- The loop keeps: no job before k passes, whatever the test says of them.
use Rattle.std.proofs.Common.{sym, ◌∙◌, arith}
use Rattle.sheet.proofs.Sums.{some_none, some_clear, some_here}
use Rattle.slot_run.proofs.Asking.{fewer}
use Rattle.slot_run.proofs.sums.some_job.Goals as goal

pub loop-k-init : goal.loop-k-init
loop-k-init g c = λ f all. some_none f

pub loop-k-preserved : goal.loop-k-preserved
loop-k-preserved g c = let k = c.loop-k.k in λ f all. some_clear f k (c.loop-k.invariant f (fewer _ f k all)) (sym (all k (omega arith) _ c.test.ensures) ∙ c.if-test.false)

pub returns-then-test : goal.returns-then-test
returns-then-test g c = let k = c.loop-k.k in λ f all. sym (some_here f _ k c.loop-k-test.true (sym (all k c.loop-k-test.true _ c.test.ensures) ∙ c.if-test.true))
