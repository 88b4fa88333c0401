-- Running totals as they are read.
use Prim.Native.Nat.{ℕ, ◌+◌, ◌≤◌}
use mathlib.Core.Path.{◌≡◌}
use mathlib.Core.List.{List}
use native.Mathlib.Omega.{arith}
use lib.ListN.{get_or}
use Rattle.sheet.specs.Sums.{harvest_of}
use Rattle.sheet.specs.Table.{Day}
use Rattle.sheet.proofs.Sums.{harvest_split}
use Rattle.totals.specs.Totals.{Summed}

-- the harvest of the slots from .. to - 1 is the difference of two
pub harvest_read_lem : (d : Day) (totals : List ℕ) → Summed d totals → (from to : ℕ) → from ≤ to → to ≤ d.table.slots
    → get_or totals to 0 ≡ get_or totals from 0 + harvest_of d.harvest from to
harvest_read_lem d totals summed from to h l =
    let fits = summed.good.harvest_fits in
    let few = summed.good.few_slots in
    let is = summed.totals_are in
    let before = is.entry from (omega arith) (omega arith) in
    let behind = is.entry to (omega arith) (omega arith) in
    let split = harvest_split d.harvest from to h in
    omega arith
