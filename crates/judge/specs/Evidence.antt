-- Demand 3: what evidence must be to be accepted, a plan or an interval, whoever brings it. Nothing here knows of the run or the planner.
use Rattle.std.specs.Prelude.{ℕ, ◌+◌, ◌≤◌, ◌<◌, ◌≡◌, List, ◌⊎◌, length}
use Rattle.sheet.specs.Sums.{harvest_at}
use Rattle.sheet.specs.Table.{idle_byte, job_of, Day}
use Rattle.plan_slots.specs.Plan.{byte_of, slots_got, level_at}
use Rattle.interval.specs.Demand.{kind_number, Overloaded}
use Rattle.interval.specs.declared.Kind.{Kind}

-- ---- a plan: one byte a slot, the job's number or 255 for idle

-- "every job gets its slots inside its window, no more and no fewer, every slot is idle or names a job, and no busy slot lacks charge, the reservoir
-- starting full"
pub record AcceptablePlan (d : Day) (plan : List ℕ) : Type 0 where
  pub byte_a_slot : length plan ≡ d.table.slots
  pub idle_or_job : (i : ℕ) → i < d.table.slots → (byte_of plan i ≡ idle_byte) ⊎ (byte_of plan i < d.table.count)
  pub inside_window : (i k : ℕ) → i < d.table.slots → k < d.table.count → byte_of plan i ≡ k → ((job_of d.table k).release ≤ i) × (i < (job_of d.table k).deadline)
  pub gets_its_slots : (k : ℕ) → k < d.table.count → slots_got plan k d.table.slots ≡ (job_of d.table k).wanted
  pub has_charge : (i k : ℕ) → i < d.table.slots → k < d.table.count → byte_of plan i ≡ k → (job_of d.table k).energy ≤ level_at d plan i + harvest_at d.harvest i

-- ---- a claim: a kind's number, a start and an end

-- "an interval of the day, claimed for work or for charge, exactly when that demand in it exceeds what it can supply"
pub record AcceptableClaim (d : Day) (number from to : ℕ) : Type 0 where
  pub kind : Kind
  pub kind_is : kind_number kind ≡ number
  pub in_order : from < to
  pub in_day : to ≤ d.table.slots
  pub overloaded : Overloaded kind d from to
