-- "Demand and overload", for the slots from < to of a day.
use Rattle.std.specs.Prelude.{ℕ, ◌+◌, ◌-◌, ◌<◌, Bool, ◌&&◌, ltb, leb}
use Rattle.sheet.specs.Sums.{total_of, harvest_of}
use Rattle.sheet.specs.Table.{job_of, cost_of, Day}
use Rattle.sheet.specs.declared.Job.{Job}
use Rattle.interval.specs.declared.Kind.{Kind}
use Rattle.interval.specs.declared.Kind.TheVariants.{Time, Energy}

-- the two kinds, by the paper's numbers: "kind .. 0 (time) .. 1 (energy)"
abbrev pub kind_number : Kind → ℕ
kind_number Time = 0
kind_number Energy = 1

-- "an interval's jobs are those with release at or after t1 and deadline at or before t2"
abbrev pub within : ℕ → ℕ → Job → Bool
within from to j = leb from j.release && leb j.deadline to

-- "Time demand is their slots wanted"; "Energy demand is the sum of slots wanted × energy": what one of them adds
abbrev pub share_of : Kind → Job → ℕ
share_of Time j = j.wanted
share_of Energy j = cost_of j

unfoldable pub demand_of : Kind → Day → ℕ → ℕ → ℕ
demand_of kind d from to = total_of (λ k. within from to (job_of d.table k)) (λ k. share_of kind (job_of d.table k)) d.table.count

-- "time supply is t2 − t1"; "energy supply is capacity plus the harvest of slots t1 to t2 − 1"
abbrev pub supply_of : Kind → Day → ℕ → ℕ → ℕ
supply_of Time d from to = to - from
supply_of Energy d from to = d.table.capacity + harvest_of d.harvest from to

-- "Overloaded in a kind: demand above supply", and the same as a test
abbrev pub Overloaded : Kind → Day → ℕ → ℕ → Type 0
Overloaded kind d from to = supply_of kind d from to < demand_of kind d from to

unfoldable pub overloaded : Kind → Day → ℕ → ℕ → Bool
overloaded kind d from to = ltb (supply_of kind d from to) (demand_of kind d from to)
