-- What the words for a plan's refusal name.
use Rattle.std.specs.Prelude.{ℕ, ◌≤◌, ◌<◌, List, length, get_or}
use Rattle.sheet.specs.Table.{most_jobs, job_of}
use Rattle.sheet.specs.declared.Table.{Table}
use Rattle.plan_slots.specs.declared.PlanFault.{PlanFault}
use Rattle.plan_slots.specs.declared.PlanFault.TheVariants.{WrongLength, NoJob, OutsideWindow, HasAllSlots, LacksCharge, LacksSlots}

-- the jobs of a table that was read
pub record GoodJobs (t : Table) : Type 0 where
  pub few : t.count ≤ most_jobs
  pub windows : (k : ℕ) → k < t.count → 0 < (job_of t k).deadline

-- slot i of the plan is a job's
pub record IsJobs (t : Table) (plan : List ℕ) (i : ℕ) : Type 0 where
  pub in_plan : i < length plan
  pub in_table : get_or plan i 0 < t.count

-- what a refusal names stands in the plan and the table
abbrev pub Stands : Table → List ℕ → PlanFault → Type 0
Stands t plan WrongLength = Unit {0}
Stands t plan (NoJob i) = i < length plan
Stands t plan (OutsideWindow i) = IsJobs t plan i
Stands t plan (HasAllSlots i) = IsJobs t plan i
Stands t plan (LacksCharge i) = IsJobs t plan i
Stands t plan (LacksSlots k) = k < t.count
