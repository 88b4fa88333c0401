-- The loop keeps: the sum is that of the jobs before k, whatever each counts for, and small.
use Rattle.std.proofs.Common.{◌≡◌, ℕ, ◌*◌, ◌≤◌}
use Rattle.sheet.specs.Sums.{total, most_cost}
use Rattle.slot_run.specs.Steps.{Answers}
use Rattle.slot_run.proofs.sums.sum_over.Given as goal

abbrev pub invariant-loop-k : goal.invariant-loop-k
invariant-loop-k g l = (l.sum ≤ most_cost * l.k) × ((f : ℕ → ℕ) → Answers (goal.F-post g l.part) f l.k → l.sum ≡ total f l.k)
