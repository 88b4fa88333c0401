-- When each refusal of a plan and of a claim is stated, and whose turn comes when. `proofs/Theorems.antt` shows that each is given exactly when it is
-- stated and nothing earlier is.
use Rattle.std.specs.Prelude.{ℕ, ◌+◌, ◌*◌, ◌≤◌, ◌<◌, ◌≡◌, List, ◌⊎◌, length}
use Rattle.sheet.specs.Sums.{harvest_at}
use Rattle.sheet.specs.Table.{idle_byte, job_of, Day}
use Rattle.plan_slots.specs.Plan.{byte_of, slots_got, level_at}
use Rattle.plan_slots.specs.declared.PlanFault.{PlanFault}
use Rattle.plan_slots.specs.declared.PlanFault.TheVariants.{WrongLength, NoJob, OutsideWindow, HasAllSlots, LacksCharge, LacksSlots}
use Rattle.interval.specs.Demand.{kind_number, demand_of, supply_of}
use Rattle.interval.specs.declared.Kind.{Kind}
use Rattle.interval.specs.declared.Kind.TheVariants.{Time, Energy}
use Rattle.judge.specs.declared.Sums.{Sums}

-- slot i of the day is job k's
abbrev pub RunsIn : Day → List ℕ → ℕ → ℕ → Type 0
RunsIn d plan k i = (i < d.table.slots) × (k < d.table.count) × (byte_of plan i ≡ k)

-- 11 to 16, each by itself
abbrev pub PlanStates : Day → List ℕ → PlanFault → Type 0
PlanStates d plan WrongLength = length plan ≡ d.table.slots → ⊥
PlanStates d plan (NoJob i) = (i < d.table.slots) × (byte_of plan i ≡ idle_byte → ⊥) × (d.table.count ≤ byte_of plan i)
PlanStates d plan (OutsideWindow i) =
    (k : ℕ) × RunsIn d plan k i × ((i < (job_of d.table k).release) ⊎ ((job_of d.table k).deadline ≤ i))
PlanStates d plan (HasAllSlots i) = (k : ℕ) × RunsIn d plan k i × ((job_of d.table k).wanted ≤ slots_got plan k i)
PlanStates d plan (LacksCharge i) =
    (k : ℕ) × RunsIn d plan k i × (level_at d plan i + harvest_at d.harvest i < (job_of d.table k).energy)
PlanStates d plan (LacksSlots k) = (k < d.table.count) × (slots_got plan k d.table.slots < (job_of d.table k).wanted)

-- "11, then slot by slot 12, 13, 14, 15, then 16"
abbrev pub plan_turn : Day → PlanFault → ℕ
plan_turn d WrongLength = 0
plan_turn d (NoJob i) = 4 * i + 1
plan_turn d (OutsideWindow i) = 4 * i + 2
plan_turn d (HasAllSlots i) = 4 * i + 3
plan_turn d (LacksCharge i) = 4 * i + 4
plan_turn d (LacksSlots k) = 4 * d.table.slots + 1 + k

-- stated, and nothing earlier is
abbrev pub PlanGivenFirst : Day → List ℕ → PlanFault → Type 0
PlanGivenFirst d plan f =
    PlanStates d plan f × ((g : PlanFault) → plan_turn d g < plan_turn d f → PlanStates d plan g → ⊥)

-- 17: claim's kind neither 0 (time) nor 1 (energy), start not below end, or end above slots
abbrev pub ClaimStated : ℕ → ℕ → ℕ → ℕ → Type 0
ClaimStated slots number from to =
    ((number ≡ kind_number Time → ⊥) × (number ≡ kind_number Energy → ⊥)) ⊎ ((to ≤ from) ⊎ (slots < to))

-- 18: claimed interval is not overloaded in the claimed kind
pub record NotOverloadedStated (d : Day) (number from to : ℕ) : Type 0 where
  pub kind : Kind
  pub kind_is : kind_number kind ≡ number
  pub within_supply : demand_of kind d from to ≤ supply_of kind d from to

-- the sums that are told of a claim are its interval's demand and supply, in the claimed kind
pub record SumsAre (d : Day) (number from to : ℕ) (sums : Sums) : Type 0 where
  pub kind : Kind
  pub kind_is : kind_number kind ≡ number
  pub demand_is : sums.demand ≡ demand_of kind d from to
  pub supply_is : sums.supply ≡ supply_of kind d from to
