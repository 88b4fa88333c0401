-- "Well formed" and "stated", in words: what a good table and a good sheet are, and when each refusal is stated.
-- That the checks say precisely this is proved in `proofs/Theorems.antt` of the crates `sheet`, for tables, and `reader`, for sheets.
use Rattle.std.specs.Prelude.{ℕ, ◌+◌, ◌-◌, ◌*◌, ◌≤◌, ◌<◌, ◌≡◌, List, ◌⊎◌, length, get_or}
use Rattle.sheet.specs.Table.{most_jobs, most_slots, job_of, Day, day_of}
use Rattle.sheet.specs.Sheet.{trailer_length, record_length, sheet_length, mark_first, mark_second, harvest_back, first_job_back, jobs_in, slots_in, job_in, last_byte_in, table_in, harvest_in}
use Rattle.sheet.specs.declared.Job.{Job}
use Rattle.sheet.specs.declared.Table.{Table}
use Rattle.sheet.specs.declared.Refusal.{Refusal}
use Rattle.sheet.specs.declared.Refusal.TheVariants.{Short, Mark, Counts, Layout, Window, Work}

-- ---- well formed

-- a job of a day of so many slots
pub record GoodJob (slots : ℕ) (j : Job) : Type 0 where
  pub window : j.release < j.deadline
  pub in_day : j.deadline ≤ slots
  pub wants : 1 ≤ j.wanted
  pub wants_at_most : j.wanted ≤ most_slots
  pub costs : 1 ≤ j.energy

-- a table with its harvest
pub record GoodDay (d : Day) : Type 0 where
  pub few_jobs : d.table.count ≤ most_jobs
  pub some_slots : 1 ≤ d.table.slots
  pub few_slots : d.table.slots ≤ most_slots
  pub harvest_fits : length d.harvest ≡ d.table.slots
  pub good_jobs : (k : ℕ) → k < d.table.count → GoodJob d.table.slots (job_of d.table k)

-- the bytes of a sheet
pub record WellFormed (s : List ℕ) : Type 0 where
  pub long_enough : trailer_length ≤ length s
  pub marked : (get_or s (length s - 2) 0 ≡ mark_first) × (get_or s (length s - 1) 0 ≡ mark_second)
  pub harvest_back_is : harvest_back s ≡ slots_in s
  pub first_job_back_is : first_job_back s ≡ slots_in s + record_length * jobs_in s
  pub length_fits : length s ≡ sheet_length (jobs_in s) (slots_in s)
  pub zero_bytes : (k : ℕ) → k < jobs_in s → last_byte_in s k ≡ 0
  pub good_day : GoodDay (day_of (table_in s) (harvest_in s))

-- "A table is its jobs in order, its slots and its capacity; two are the same when these agree"
pub record SameTable (t u : Table) : Type 0 where
  pub as_many : t.count ≡ u.count
  pub jobs : (k : ℕ) → k < t.count → job_of t k ≡ job_of u k
  pub slots : t.slots ≡ u.slots
  pub capacity : t.capacity ≡ u.capacity

-- every element is a byte, as every element of a byte slice is
abbrev pub Bytes : List ℕ → Type 0
Bytes s = (i : ℕ) → get_or s i 0 < 256

-- ---- "Given when"

-- 3: more than 64 jobs, or slots 0 or above 1,440
abbrev pub CountsStated : ℕ → ℕ → Type 0
CountsStated jobs slots = (most_jobs < jobs) ⊎ ((slots ≡ 0) ⊎ (most_slots < slots))

-- 5: a job's release is not below its deadline, or its deadline is above slots
abbrev pub WindowStated : ℕ → Job → Type 0
WindowStated slots j = (j.deadline ≤ j.release) ⊎ (slots < j.deadline)

-- 6: slots wanted 0 or above 1,440, energy 0, or last byte not zero
abbrev pub WorkStated : Job → ℕ → Type 0
WorkStated j last = (j.wanted ≡ 0) ⊎ ((most_slots < j.wanted) ⊎ ((j.energy ≡ 0) ⊎ (last ≡ 0 → ⊥)))

-- when each refusal of a sheet is stated
abbrev pub SheetStates : List ℕ → Refusal → Type 0
SheetStates s Short = length s < trailer_length
SheetStates s Mark = ((get_or s (length s - 2) 0 ≡ mark_first) × (get_or s (length s - 1) 0 ≡ mark_second)) → ⊥
SheetStates s Counts = CountsStated (jobs_in s) (slots_in s)
SheetStates s Layout =
    ((harvest_back s ≡ slots_in s) × (first_job_back s ≡ slots_in s + record_length * jobs_in s) × (length s ≡ sheet_length (jobs_in s) (slots_in s))) → ⊥
SheetStates s (Window k) = (k < jobs_in s) × WindowStated (slots_in s) (job_in s k)
SheetStates s (Work k) = (k < jobs_in s) × WorkStated (job_in s k) (last_byte_in s k)

-- when each refusal of a table and a harvest is stated; 1 and 2 never are, and a table has no last byte
abbrev pub TableStates : Day → Refusal → Type 0
TableStates d Short = ⊥
TableStates d Mark = ⊥
TableStates d Counts = CountsStated d.table.count d.table.slots
TableStates d Layout = length d.harvest ≡ d.table.slots → ⊥
TableStates d (Window k) = (k < d.table.count) × WindowStated d.table.slots (job_of d.table k)
TableStates d (Work k) = (k < d.table.count) × WorkStated (job_of d.table k) 0

-- "Order: 1, 2, 3, 4, then records in order with 5 before 6 in each": whose turn comes when
abbrev pub turn_of : Refusal → ℕ
turn_of Short = 1
turn_of Mark = 2
turn_of Counts = 3
turn_of Layout = 4
turn_of (Window k) = 5 + 2 * k
turn_of (Work k) = 6 + 2 * k

-- "Each is given exactly when stated and nothing earlier applies"
abbrev pub GivenFirst : (Refusal → Type 0) → Refusal → Type 0
GivenFirst States r = States r × ((q : Refusal) → turn_of q < turn_of r → States q → ⊥)
