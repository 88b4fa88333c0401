-- The loop keeps: the level, a number of 16 bits, and the slots that each job got are those of the plan as slot i begins, and no slot before i is refused.
use Prim.Native.Nat.{◌<◌}
use Rattle.sheet.specs.Checked.{the_day}
use Rattle.plan_slots.proofs.Keeping.{Kept}
use Rattle.plan_slots.proofs.judge_slots.Given as goal

abbrev pub invariant-loop-i : goal.invariant-loop-i
invariant-loop-i l = (l.level < 65536) × Kept (the_day l.day) l.plan l.got l.level l.i
