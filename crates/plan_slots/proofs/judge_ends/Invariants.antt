-- The loop keeps: no job before k lacks slots.
use mathlib.Core.Path.{◌≡◌}
use Rattle.sheet.specs.Paper.{gives, in_order}
use Rattle.plan_slots.specs.Steps.{end_by}
use Rattle.plan_slots.proofs.judge_ends.Given as goal

abbrev pub invariant-loop-k : goal.invariant-loop-k
invariant-loop-k l = in_order (end_by l.day.table.now l.got) l.k ≡ gives tt
