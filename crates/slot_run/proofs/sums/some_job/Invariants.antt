-- The loop keeps: no job before k passes, whatever the test says of them.
use Rattle.std.proofs.Common.{◌≡◌, ℕ, Bool, false}
use Rattle.sheet.specs.Sums.{some}
use Rattle.slot_run.specs.Steps.{Answers}
use Rattle.slot_run.proofs.sums.some_job.Given as goal

abbrev pub invariant-loop-k : goal.invariant-loop-k
invariant-loop-k g l = (f : ℕ → Bool) → Answers (goal.F-post g l.test) f l.k → some f l.k ≡ false
