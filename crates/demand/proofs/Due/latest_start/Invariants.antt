-- The loop keeps: what is found so far has the latest start among the releases of the jobs before k.
use Prim.Native.Nat.{ℕ}
use mathlib.Core.List.{List}
use Rattle.sheet.specs.Table.{day_of}
use Rattle.totals.specs.Totals.{Summed}
use Rattle.demand.proofs.Loops.{LatestSoFar}
use Rattle.demand.proofs.Due.latest_start.Given as goal

abbrev pub invariant-loop-from : goal.invariant-loop-from
invariant-loop-from l =
    (harvest : List ℕ) → Summed (day_of l.self.day.table.now harvest) l.self.day.totals.now
    → LatestSoFar (day_of l.self.day.table.now harvest) l.self.to l.from-index l.latest l.earliest
