-- Each slot leaves what is kept as the next begins, or the answer.
use Prim.Native.Nat.{◌+◌}
use mathlib.Core.Path.{◌≡◌, refl, ap₂, ◌∙◌}
use native.Mathlib.Omega.{arith}
use lib.ListN.{get_or}
use Rattle.sheet.proofs.Residual.{err_is}
use Rattle.sheet.specs.Checked.{the_day}
use Rattle.plan_slots.proofs.Keeping.{kept_first, SlotRead, kept_idle, refused_stranger, refused_job, kept_busy, kept_decides}
use Rattle.plan_slots.proofs.judge_slots.Goals as goal
use Rattle.plan_slots.proofs.judge_slots.Goals.{After-from-in-loop-i}

-- the slot as it is read
slot_read : (c : After-from-in-loop-i)
    → SlotRead (the_day c.args.day) c.args.plan.now c.loop-i.got c.loop-i.level c.loop-i.i (get_or c.args.plan.now c.loop-i.i 0)
    (c.from.result + c.from-in-loop-i.result)
slot_read c =
    record {
      few_jobs = c.args.day.good.few_jobs;
      kept = c.loop-i.invariant.1;
      in_day = omega arith;
      in_plan = omega arith;
      byte_is = refl;
      charge_is = ap₂ ◌+◌ c.from.ensures (c.from-in-loop-i.ensures ∙ c.counted.ensures.0);
    }

pub loop-i-init : goal.loop-i-init
loop-i-init c = (omega arith, kept_first (the_day c.args.day) c.args.plan.now)

pub loop-i-preserved-then-byte : goal.loop-i-preserved-then-byte
loop-i-preserved-then-byte c =
    let read = slot_read (goal.at.loop-i-preserved-then-byte c).After-from-in-loop-i in
    (omega arith, kept_idle read _ c.if-byte.true c.cut-level.ensures)

pub returns-then-table-k : goal.returns-then-table-k
returns-then-table-k c =
    let read = slot_read (goal.at.returns-then-table-k c).After-from-in-loop-i in
    refused_stranger read c.if-byte.false c.if-table-k.true

pub returns-in_err-level : goal.returns-in_err-level
returns-in_err-level c =
    let read = slot_read (goal.at.returns-in_err-level c).After-from-in-loop-i in
    rw (err_is _ c.from_residual.ensures.1) (refused_job read c.if-table-k.false _ c.in_err-level.ensures)

pub loop-i-preserved : goal.loop-i-preserved
loop-i-preserved c =
    let read = slot_read (goal.at.loop-i-preserved c).After-from-in-loop-i in
    (omega arith, kept_busy read c.if-table-k.false _ _ c.in_ok-level.ensures)

pub returns : goal.returns
returns c =
    let at_slots : c.loop-i.i ≡ c.args.day.table.now.slots = omega arith in
    c.judge_ends.ensures ∙ kept_decides c.loop-i.invariant.1 at_slots
