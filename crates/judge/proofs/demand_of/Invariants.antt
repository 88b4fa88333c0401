-- The loop keeps: the demand is the sum of what the jobs passed so far add to it.
use Rattle.std.proofs.Common.{◌≤◌, ◌*◌, ◌≡◌}
use Rattle.sheet.specs.Sums.{total, most_cost}
use Rattle.judge.proofs.Weighing.{part_of}
use Rattle.judge.proofs.demand_of.Given as goal

abbrev pub invariant-loop-job : goal.invariant-loop-job
invariant-loop-job l =
    (l.demand ≡ total (part_of l.fn.claim.kind l.fn.day.table.now l.fn.claim.from l.fn.claim.to) l.job-index) × (l.demand ≤ most_cost * l.job-index)
