-- A table and a harvest: the day, what a harvest byte counts for, and which refusals apply.
use Rattle.std.specs.Prelude.{ℕ, ◌*◌, List, Bool, false, not, ◌||◌, ltb, eqb, length, get_or}
use Rattle.sheet.specs.Paper.{Check}
use Rattle.sheet.specs.Refusals.{Faults, in_turn}
use Rattle.sheet.specs.declared.Job.{Job}
use Rattle.sheet.specs.declared.Table.{Table}

-- "Jobs 0 to 64. Slots 1 to 1,440."
abbrev pub most_jobs : ℕ
most_jobs = 64

abbrev pub most_slots : ℕ
most_slots = 1440

-- what stands in a place that holds no job
abbrev pub no_job : Job
no_job = record { release = 0; deadline = 0; wanted = 0; energy = 0 }

-- the job of number k: its number is its position from 0
abbrev pub job_of : Table → ℕ → Job
job_of t k = get_or t.jobs k no_job

-- what all the slots that a job wants cost: slots wanted × energy
abbrev pub cost_of : Job → ℕ
cost_of j = j.wanted * j.energy

-- "The level starts at capacity"
abbrev pub start_level : Table → ℕ
start_level t = t.capacity

-- "one byte a slot, the job's number or 255 for idle": a plan's byte for an idle slot
abbrev pub idle_byte : ℕ
idle_byte = 255

-- what a slot's harvest byte counts for, and the most that it does; known elsewhere by the laws in `proofs/HarvestBytes.antt`
unfoldable pub counted_as : ℕ → ℕ
counted_as byte = byte

abbrev pub most_counted : ℕ
most_counted = 255

-- a day: a table with its harvest
pub record Day : Type 0 where
  pub table : Table
  pub harvest : List ℕ

abbrev pub day_of : Table → List ℕ → Day
day_of t harvest = record { table = t; harvest = harvest }

-- 3: more than 64 jobs, or slots 0 or above 1,440
unfoldable pub counts_fault : ℕ → ℕ → Bool
counts_fault jobs slots = ltb most_jobs jobs || eqb slots 0 || ltb most_slots slots

-- 5: a job's release is not below its deadline, or its deadline is above slots
unfoldable pub window_fault : ℕ → Job → Bool
window_fault slots j = not (ltb j.release j.deadline) || ltb slots j.deadline

-- 6: slots wanted 0 or above 1,440, energy 0, or last byte not zero
unfoldable pub work_fault : Job → ℕ → Bool
work_fault j last = eqb j.wanted 0 || ltb most_slots j.wanted || eqb j.energy 0 || not (eqb last 0)

-- a table and a harvest in place of a sheet: 3, then 4 (harvest length is not slots), then records; a table has no last byte to check
unfoldable pub table_faults : Day → Faults
table_faults d =
    record {
      short = false;
      mark = false;
      counts = counts_fault d.table.count d.table.slots;
      layout = not (eqb (length d.harvest) d.table.slots);
      records = d.table.count;
      window = λ k. window_fault d.table.slots (job_of d.table k);
      work = λ k. work_fault (job_of d.table k) 0;
    }

unfoldable pub table_says : Day → Check
unfolding in_turn table_faults
table_says d = in_turn (table_faults d)
