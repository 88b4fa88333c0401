-- Each return follows the tests that led to it, since the numbers that are compared are the interval's own.
use Prim.Native.Nat.{ℕ, ◌+◌, ◌-◌, ◌≤◌, ◌<◌}
use mathlib.Core.Path.{◌≡◌}
use mathlib.Core.List.{List}
use native.Mathlib.Omega.{arith}
use lib.ListN.{get_or}
use borrow.Author.Tests.{lt-ltb, le-ltb}
use Rattle.std.specs.Prelude.{Some, None}
use Rattle.sheet.specs.Table.{Day, day_of}
use Rattle.totals.specs.Totals.{Summed}
use Rattle.totals.proofs.Entries.{harvest_read_lem}
use Rattle.interval.specs.Demand.{demand_of, supply_of, overloaded}
use Rattle.interval.specs.declared.Kind.TheVariants.{Time, Energy}
use Rattle.demand.specs.Search.{found_at}
use Rattle.demand.proofs.Due.found_at.Goals.{After-from-3}
use Rattle.demand.proofs.Due.found_at.Goals as goal

-- the demands and the supplies of both kinds
own : (c : After-from-3) (harvest : List ℕ)
    → let due = c.args.self.now in
    let d = day_of due.day.table.now harvest in
    let from = c.args.from in
    let totals = due.day.totals.now in
    Summed d totals
    → (c.demands-sums.result.time ≡ demand_of Time d from due.to)
    × (c.from-slots.result ≡ supply_of Time d from due.to)
    × (c.demands-sums.result.energy ≡ demand_of Energy d from due.to)
    × (c.from.result + get_or totals c.from-2.result 0 - get_or totals c.from-3.result 0 ≡ supply_of Energy d from due.to)
own c harvest summed =
    let due = c.args.self.now in
    let demands = c.demands-sums.ensures in
    let read = harvest_read_lem (day_of due.day.table.now harvest) _ summed c.args.from due.to (omega arith) due.in_day in
    (demands.time harvest, c.from-slots.ensures, demands.energy harvest, rw (c.from-2.ensures, c.from-3.ensures) (omega arith))

-- one interval by its demands and supplies: time before energy
module _ (d : Day) (from to time slots energy supply : ℕ) (time-is : time ≡ demand_of Time d from to) (slots_are : slots ≡ supply_of Time d from to)
    (energy-is : energy ≡ demand_of Energy d from to) (supply_is : supply ≡ supply_of Energy d from to) where
  in_time : slots < time → Some (record { kind = Time; from = from; to = to; demand = time; supply = slots }) ≡ found_at d from to
  unfolding found_at overloaded
  in_time h = rw (← time-is, ← slots_are, lt-ltb _ _ h)

  in_energy : time ≤ slots → supply < energy → Some (record { kind = Energy; from = from; to = to; demand = energy; supply = supply }) ≡ found_at d from to
  unfolding found_at overloaded
  in_energy h l = rw (← time-is, ← slots_are, ← energy-is, ← supply_is, le-ltb _ _ h, lt-ltb _ _ l)

  in_neither : time ≤ slots → energy ≤ supply → None ≡ found_at d from to
  unfolding found_at overloaded
  in_neither h l = rw (← time-is, ← slots_are, ← energy-is, ← supply_is, le-ltb _ _ h, le-ltb _ _ l)

pub returns-then-slots-sums : goal.returns-then-slots-sums
returns-then-slots-sums c harvest summed =
    let is = own (goal.at.returns-then-slots-sums c).After-from-3 harvest summed in in_time _ _ _ _ _ _ _ is.0 is.1 is.2 is.3 c.if-slots-sums.true

pub returns-then-supply-sums : goal.returns-then-supply-sums
returns-then-supply-sums c harvest summed =
    let is = own (goal.at.returns-then-supply-sums c).After-from-3 harvest summed in
    in_energy _ _ _ _ _ _ _ is.0 is.1 is.2 is.3 c.if-slots-sums.false c.if-supply-sums.true

pub returns : goal.returns
returns c harvest summed =
    let is = own (goal.at.returns c).After-from-3 harvest summed in
    in_neither _ _ _ _ _ _ _ is.0 is.1 is.2 is.3 c.if-slots-sums.false c.if-supply-sums.false
