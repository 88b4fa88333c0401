-- The loop keeps: the jobs before k want all their slots, and zeros stand in the other places.
use mathlib.Core.Path.{◌≡◌}
use Rattle.sheet.specs.Lists.{filled}
use Rattle.sheet.specs.Table.{most_jobs, job_of}
use Rattle.slot_run.proofs.first_state.Given as goal

abbrev pub invariant-loop-k : goal.invariant-loop-k
invariant-loop-k l = l.left ≡ filled (λ i. (job_of l.day.table.now i).wanted) 0 most_jobs l.k
