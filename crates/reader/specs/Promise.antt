-- What the reader promises, for any bytes.
use Rattle.std.specs.Prelude.{ℕ, ◌+◌, ◌*◌, ◌≡◌, List, [], cond, ◌&&◌, leb, length, take, drop, replicate, Result, Ok, Err}
use Rattle.sheet.specs.Checked.{the_day}
use Rattle.sheet.specs.Paper.{where_given}
use Rattle.sheet.specs.Refusals.{outcome_says}
use Rattle.sheet.specs.Table.{most_jobs, no_job, day_of}
use Rattle.sheet.specs.Sheet.{record_length, sheet_says, table_in, harvest_in}
use Rattle.sheet.specs.declared.Refusal.{Refusal}
use Rattle.sheet.specs.declared.Table.{Table}
use Rattle.sheet.specs.declared.day.CheckedDay.{CheckedDay}
use Rattle.reader.specs.declared.Reading.{Reading}
use Rattle.reader.specs.declared.sheet_read.SheetRead.{SheetRead}

-- "the table then has no jobs, slots 0, capacity 0"
abbrev pub no_table : Table
no_table = record { jobs = replicate most_jobs no_job; count = 0; slots = 0; capacity = 0 }

-- the table of an accepted sheet; of a refused one, that
unfoldable pub table_read : List ℕ → Table
table_read s = where_given (sheet_says s) (table_in s) no_table

-- the harvest of an accepted sheet, that stretch of the sheet; of a refused one "an empty stretch"
unfoldable pub harvest_read : List ℕ → List ℕ
harvest_read s = where_given (sheet_says s) (harvest_in s) []

-- the answer, and the table
pub record Reads (s : List ℕ) (r : Reading) : Type 0 where
  pub answer : outcome_says r.outcome ≡ sheet_says s
  pub table : r.table ≡ table_read s

-- and the harvest
pub record ReadsSheet (s : List ℕ) (r : SheetRead) : Type 0 where
  pub answer : outcome_says r.outcome ≡ sheet_says s
  pub table : r.table ≡ table_read s
  pub harvest : r.harvest.now ≡ harvest_read s

-- the day of a sheet that was read and not refused; or its refusal
abbrev pub HandsOn : SheetRead → Result CheckedDay Refusal → Type 0
HandsOn r (Ok d) = (r.outcome ≡ Ok tt) × (the_day d ≡ day_of r.table r.harvest.now)
HandsOn r (Err why) = r.outcome ≡ Err why

-- the stretch of slots bytes behind so many records; an empty stretch where they are more than 64 or the bytes do not hold them
unfoldable pub harvest_behind : List ℕ → ℕ → ℕ → List ℕ
harvest_behind s jobs slots =
    cond (leb jobs most_jobs && leb (record_length * jobs + slots) (length s))
    (take slots (drop (record_length * jobs) s))
    []
