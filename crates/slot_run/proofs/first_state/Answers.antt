-- The loop keeps: the jobs before k want all their slots, and zeros stand in the other places.
use mathlib.Core.Path.{◌≡◌, sym}
use native.Mathlib.Omega.{arith}
use Rattle.sheet.specs.Table.{most_jobs, job_of}
use Rattle.sheet.proofs.Lists.{filled_none, filled_more}
use Rattle.slot_run.specs.Run.{first_state}
use Rattle.slot_run.proofs.first_state.Goals as goal

pub loop-k-init : goal.loop-k-init
loop-k-init c = sym (filled_none _ 0 most_jobs)

pub loop-k-preserved : goal.loop-k-preserved
loop-k-preserved c = rw c.loop-k.invariant (filled_more (λ i. (job_of c.args.day.table.now i).wanted) 0 most_jobs c.loop-k.k (omega arith))

pub returns : goal.returns
unfolding first_state
returns c = let at_end : c.loop-k.k ≡ c.args.day.table.now.count = omega arith in rw (c.loop-k.invariant, at_end)
