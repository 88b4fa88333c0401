-- The first job that lacks slots is the answer.
use native.Mathlib.Omega.{arith}
use mathlib.Core.Path.{◌≡◌, sym, ap, ◌∙◌}
use borrow.Author.Tests.{lt-ltb, le-ltb}
use Rattle.sheet.specs.Paper.{in_order}
use Rattle.sheet.proofs.Order.{in_order_none, in_order_clear, in_order_first}
use Rattle.plan_slots.specs.Steps.{end_by, ends_by}
use Rattle.plan_slots.proofs.judge_ends.Goals as goal

pub loop-k-init : goal.loop-k-init
loop-k-init c = in_order_none _

pub returns-then-got-k : goal.returns-then-got-k
unfolding ends_by
returns-then-got-k c =
    let lacks = lt-ltb _ _ c.if-got-k.true in
    sym (in_order_first (end_by c.args.day.table.now c.args.got.now) _ _ c.loop-k-test.true c.loop-k.invariant (rw lacks tt) ∙ rw lacks)

pub loop-k-preserved : goal.loop-k-preserved
loop-k-preserved c =
    in_order_clear (end_by c.args.day.table.now c.args.got.now) _ c.loop-k.invariant (rw (le-ltb _ _ c.if-got-k.false))

pub returns : goal.returns
unfolding ends_by
returns c =
    let at_end : c.args.day.table.now.count ≡ c.loop-k.k = omega arith in
    sym (ap (in_order (end_by c.args.day.table.now c.args.got.now)) at_end ∙ c.loop-k.invariant)
