-- "The day sheet": its bytes, what stands in them, and which refusals apply.
use Rattle.std.specs.Prelude.{ℕ, ◌+◌, ◌-◌, ◌*◌, ◌/◌, ◌%◌, List, [], ◌∷◌, ◌++◌, Bool, not, ◌&&◌, ltb, eqb, length, get_or, take, drop}
use Rattle.sheet.specs.Paper.{Check}
use Rattle.sheet.specs.Lists.{joined, filled}
use Rattle.sheet.specs.Refusals.{Faults, in_turn}
use Rattle.sheet.specs.Table.{most_jobs, no_job, job_of, counts_fault, window_fault, work_fault}
use Rattle.sheet.specs.declared.Job.{Job}
use Rattle.sheet.specs.declared.Table.{Table}

-- ---- what a sheet is made of

-- "Numbers are little-endian": a u16 is two bytes, the lower first
abbrev pub u16 : ℕ → List ℕ
u16 n = n % 256 ∷ n / 256 % 256 ∷ []

-- "Job record: release u16, deadline u16, slots wanted u16, energy per busy slot u8, zero u8"
unfoldable pub record_bytes : Job → List ℕ
record_bytes j = u16 j.release ++ u16 j.deadline ++ u16 j.wanted ++ j.energy ∷ 0 ∷ []

abbrev pub record_length : ℕ
record_length = 8

-- the mark at a sheet's end
abbrev pub mark_first : ℕ
mark_first = 0x45

abbrev pub mark_second : ℕ
mark_second = 0x48

-- "Trailer: bytes back from the trailer's start to the harvest u16, bytes back to the first job u16, jobs u16, slots u16, capacity u16, then 45 48 (hex)"
unfoldable pub trailer_bytes : Table → List ℕ
trailer_bytes t =
    u16 t.slots ++ u16 (t.slots + record_length * t.count) ++ u16 t.count ++ u16 t.slots ++ u16 t.capacity
    ++ mark_first ∷ mark_second ∷ []

abbrev pub trailer_length : ℕ
trailer_length = 12

-- "From the front: job records of 8 bytes, then one harvest byte per slot, then a trailer"
unfoldable pub sheet_bytes : Table → List ℕ → List ℕ
sheet_bytes t harvest = joined (λ k. record_bytes (job_of t k)) t.count ++ harvest ++ trailer_bytes t

-- "slots + 8 × jobs + 12"
abbrev pub sheet_length : ℕ → ℕ → ℕ
sheet_length jobs slots = slots + record_length * jobs + trailer_length

-- ---- what stands in the bytes of a sheet

abbrev pub u16_at : List ℕ → ℕ → ℕ
u16_at s i = get_or s i 0 + 256 * get_or s (i + 1) 0

abbrev pub trailer_at : List ℕ → ℕ
trailer_at s = length s - trailer_length

abbrev pub harvest_back : List ℕ → ℕ
harvest_back s = u16_at s (trailer_at s)

abbrev pub first_job_back : List ℕ → ℕ
first_job_back s = u16_at s (trailer_at s + 2)

abbrev pub jobs_in : List ℕ → ℕ
jobs_in s = u16_at s (trailer_at s + 4)

abbrev pub slots_in : List ℕ → ℕ
slots_in s = u16_at s (trailer_at s + 6)

abbrev pub capacity_in : List ℕ → ℕ
capacity_in s = u16_at s (trailer_at s + 8)

-- the job in record k, and that record's last byte
abbrev pub job_in : List ℕ → ℕ → Job
job_in s k =
    record {
      release = u16_at s (record_length * k);
      deadline = u16_at s (record_length * k + 2);
      wanted = u16_at s (record_length * k + 4);
      energy = get_or s (record_length * k + 6) 0;
    }

abbrev pub last_byte_in : List ℕ → ℕ → ℕ
last_byte_in s k = get_or s (record_length * k + 7) 0

-- the table: its jobs in order, zeros in the places beyond the last; slots and capacity
unfoldable pub table_in : List ℕ → Table
table_in s =
    record {
      jobs = filled (job_in s) no_job most_jobs (jobs_in s);
      count = jobs_in s;
      slots = slots_in s;
      capacity = capacity_in s;
    }

-- the harvest: the stretch of slots bytes behind the records
unfoldable pub harvest_in : List ℕ → List ℕ
harvest_in s = take (slots_in s) (drop (record_length * jobs_in s) s)

-- ---- which refusals apply

-- 2: last two bytes are not 45 48
unfoldable pub mark_fault : List ℕ → Bool
mark_fault s = not (eqb (get_or s (length s - 2) 0) mark_first && eqb (get_or s (length s - 1) 0) mark_second)

-- 4: back distances are not slots and slots + 8 × jobs, or the length is not slots + 8 × jobs + 12
unfoldable pub layout_fault : List ℕ → Bool
layout_fault s =
    not
    (eqb (harvest_back s) (slots_in s)
    && eqb (first_job_back s) (slots_in s + record_length * jobs_in s)
    && eqb (length s) (sheet_length (jobs_in s) (slots_in s)))

unfoldable pub sheet_faults : List ℕ → Faults
sheet_faults s =
    record {
      short = ltb (length s) trailer_length;
      mark = mark_fault s;
      counts = counts_fault (jobs_in s) (slots_in s);
      layout = layout_fault s;
      records = jobs_in s;
      window = λ k. window_fault (slots_in s) (job_in s k);
      work = λ k. work_fault (job_in s k) (last_byte_in s k);
    }

unfoldable pub sheet_says : List ℕ → Check
unfolding in_turn sheet_faults
sheet_says s = in_turn (sheet_faults s)
