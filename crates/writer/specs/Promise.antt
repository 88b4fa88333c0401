-- What the writer promises, for any table, harvest and buffer.
use Rattle.std.specs.Prelude.{ℕ, ◌≡◌, List, ◌++◌, ltb, length, drop, Result, Ok, Err}
use Rattle.sheet.specs.HandedIn.{HandedIn, check_says, day_in}
use Rattle.sheet.specs.Paper.{Paper, gives, refuses, ◌when◌, ◌else◌, where_given}
use Rattle.sheet.specs.Refusals.{refusal_says}
use Rattle.sheet.specs.Sheet.{sheet_bytes, sheet_length}
use Rattle.sheet.specs.Table.{Day}
use Rattle.writer.specs.declared.WriteRefusal.{WriteRefusal}

-- 8: writer's buffer is too short
abbrev pub no_room : {A : Type 0} → Paper A
no_room = refuses 8

-- the length of a day's sheet
abbrev pub length_for : Day → ℕ
length_for d = sheet_length d.table.count d.table.slots

-- the check, then 8; otherwise the sheet's length
unfoldable pub write_says : HandedIn → List ℕ → Paper ℕ
write_says h out = check_says h else no_room when ltb (length out) (length_for (day_in h)) else gives (length_for (day_in h))

-- the sheet at the front and the bytes behind it as they were; after a refusal every byte as it was
unfoldable pub buffer_written : HandedIn → List ℕ → List ℕ
buffer_written h out =
    where_given (write_says h out) (sheet_bytes (day_in h).table (day_in h).harvest ++ drop (length_for (day_in h)) out) out

-- the writer's answer as the paper writes it: the length, or a refusal's number
abbrev pub written_says : Result ℕ WriteRefusal → Paper ℕ
written_says (Ok n) = gives n
written_says (Err (WriteRefusal.HandedIn r)) = refusal_says r
written_says (Err WriteRefusal.NoRoom) = no_room

-- the answer, and every byte of the buffer
pub record Writes (h : HandedIn) (out : List ℕ) (r : Result ℕ WriteRefusal) (after : List ℕ) : Type 0 where
  pub answer : written_says r ≡ write_says h out
  pub buffer : after ≡ buffer_written h out
