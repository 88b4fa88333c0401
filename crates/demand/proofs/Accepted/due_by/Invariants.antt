-- The loop keeps: what is due of the jobs before k is set.
use mathlib.Core.Path.{◌≡◌}
use lib.ListN.{length}
use Rattle.sheet.specs.Table.{most_jobs}
use Rattle.demand.specs.Steps.{DueBy}
use Rattle.interval.specs.declared.Kind.TheVariants.{Time, Energy}
use Rattle.demand.proofs.Accepted.due_by.Given as goal

abbrev pub invariant-loop-k : goal.invariant-loop-k
invariant-loop-k l =
    (length l.shares.time ≡ most_jobs) × (length l.shares.energy ≡ most_jobs)
    × DueBy Time l.self.table.now l.k l.to l.shares.time × DueBy Energy l.self.table.now l.k l.to l.shares.energy
