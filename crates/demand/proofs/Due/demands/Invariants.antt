-- The loop keeps the demands of the jobs before k.
use Prim.Native.Nat.{◌*◌, ◌≤◌}
use mathlib.Core.Path.{◌≡◌}
use Rattle.sheet.specs.Sums.{most_cost}
use Rattle.interval.specs.declared.Kind.TheVariants.{Time, Energy}
use Rattle.demand.proofs.Loops.{demand_up_to}
use Rattle.demand.proofs.Due.demands.Given as goal

abbrev pub invariant-loop-k : goal.invariant-loop-k
invariant-loop-k l =
    (l.time ≤ 65535 * l.k) × (l.energy ≤ most_cost * l.k)
    × (l.time ≡ demand_up_to Time l.self.day.table.now l.from l.self.to l.k) × (l.energy ≡ demand_up_to Energy l.self.day.table.now l.from l.self.to l.k)
