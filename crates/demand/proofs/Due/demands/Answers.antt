-- The loop keeps the demands of the jobs before k.
use mathlib.Core.Path.{◌≡◌, sym}
use native.Mathlib.Omega.{arith}
use Rattle.sheet.proofs.Sums.{total_none}
use Rattle.interval.specs.Demand.{demand_of}
use Rattle.interval.specs.declared.Kind.TheVariants.{Time, Energy}
use Rattle.demand.proofs.Loops.{demand_more}
use Rattle.demand.proofs.Due.demands.Goals as goal

pub loop-k-init : goal.loop-k-init
loop-k-init c = (omega arith, omega arith, sym (total_none _), sym (total_none _))

pub loop-k-preserved : goal.loop-k-preserved
loop-k-preserved c =
    let k = c.loop-k.k in
    let due = c.args.self.now in
    let release = due.day.by_columns.release k (omega arith) (omega arith) in
    let time = due.time.small k (omega arith) in
    let energy = due.energy.small k (omega arith) in
    let time-more = demand_more Time due.day.table.now c.args.from due.to k _ _ _ release (due.time.share k (omega arith)) c.counted_if-time.ensures.0 in
    let energy-more = demand_more Energy due.day.table.now c.args.from due.to k _ _ _ release (due.energy.share k (omega arith)) c.counted_if-energy.ensures.0 in
    (omega arith, omega arith, omega arith, omega arith)

pub returns : goal.returns
unfolding demand_of
returns c =
    let at_end : c.loop-k.k ≡ c.args.self.now.day.table.now.count = omega arith in
    let sums = c.loop-k.invariant in
    record { time = λ harvest. rw at_end at sums.2; energy = λ harvest. rw at_end at sums.3 }
