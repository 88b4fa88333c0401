-- The loop keeps: nothing is found up to the slot `after`.
use Prim.Native.Nat.{ℕ, ◌-◌, ◌≤◌}
use mathlib.Core.Path.{◌≡◌}
use mathlib.Core.List.{List}
use Rattle.std.specs.Prelude.{None}
use Rattle.sheet.specs.Table.{day_of}
use Rattle.totals.specs.Totals.{Summed}
use Rattle.demand.specs.Search.{smallest_end}
use Rattle.demand.proofs.first_overload.Given as goal

abbrev pub invariant-loop-to : goal.invariant-loop-to
invariant-loop-to l =
    (l.after ≤ l.fn.t.slots)
    × ((harvest : List ℕ) → Summed (day_of l.fn.t harvest) l.totals → smallest_end (day_of l.fn.t harvest) l.after ≡ None)

abbrev pub decreases-loop-to : goal.decreases-loop-to
decreases-loop-to l = l.fn.t.slots - l.after
