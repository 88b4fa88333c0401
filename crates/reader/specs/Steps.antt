-- What the reader's own steps hand each other. No promise of a public call rests on this page.
use Rattle.std.specs.Prelude.{ℕ, ◌*◌, ◌≤◌, ◌≡◌, List, length, Result, Ok, Err}
use Rattle.sheet.specs.Lists.{filled}
use Rattle.sheet.specs.Paper.{Check, gives, in_order}
use Rattle.sheet.specs.Refusals.{refusal_says, record_says}
use Rattle.sheet.specs.Table.{most_jobs, no_job, window_fault, work_fault}
use Rattle.sheet.specs.Sheet.{record_length, job_in, last_byte_in, sheet_says, table_in}
use Rattle.sheet.specs.declared.Refusal.{Refusal}
use Rattle.sheet.specs.declared.Table.{Table}
use Rattle.reader.specs.Promise.{no_table}
use Rattle.reader.specs.declared.Trailer.{Trailer}

-- record k, on a day of so many slots
abbrev pub record_in : List ℕ → ℕ → ℕ → Check
record_in s slots k = record_says (window_fault slots (job_in s k)) (work_fault (job_in s k) (last_byte_in s k)) k

-- the numbers of a trailer that is not refused: the records decide, and the bytes hold so many
pub record Decided (s : List ℕ) (t : Trailer) : Type 0 where
  pub says : sheet_says s ≡ in_order (record_in s t.slots) t.count
  pub table : table_in s ≡ record { jobs = filled (job_in s) no_job most_jobs t.count; count = t.count; slots = t.slots; capacity = t.capacity }
  pub few : t.count ≤ most_jobs
  pub fit : record_length * t.count ≤ length s

abbrev pub ReadsTrailer : List ℕ → Result Trailer Refusal → Type 0
ReadsTrailer s (Ok t) = Decided s t
ReadsTrailer s (Err why) = sheet_says s ≡ refusal_says why

-- what stands in the table where the sheet is not refused
abbrev pub Fills : List ℕ → Result (Unit {0}) Refusal → Table → Type 0
Fills s (Ok leave) t = (sheet_says s ≡ gives tt) × (t ≡ table_in s)
Fills s (Err why) t = sheet_says s ≡ refusal_says why

-- and the empty table where it is
abbrev pub ReadsInto : List ℕ → Result (Unit {0}) Refusal → Table → Type 0
ReadsInto s (Ok leave) t = (sheet_says s ≡ gives tt) × (t ≡ table_in s)
ReadsInto s (Err why) t = (sheet_says s ≡ refusal_says why) × (t ≡ no_table)
