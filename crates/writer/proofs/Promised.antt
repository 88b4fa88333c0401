-- The promise at each of the writer's three answers.
use Prim.Native.Nat.{ℕ, ◌≤◌, ◌<◌}
use mathlib.Core.Path.{◌≡◌, sym, ◌∙◌}
use mathlib.Core.List.{List}
use lib.ListN.{length}
use borrow.Author.Tests.{lt-ltb, le-ltb}
use Rattle.std.specs.Prelude.{Ok, Err}
use Rattle.sheet.specs.Checked.{Checks, the_day}
use Rattle.sheet.specs.HandedIn.{HandedIn}
use Rattle.sheet.specs.Refusals.{refusal_says}
use Rattle.sheet.specs.Sheet.{sheet_bytes}
use Rattle.sheet.specs.declared.Refusal.{Refusal}
use Rattle.sheet.specs.declared.day.CheckedDay.{CheckedDay}
use Rattle.sheet.proofs.HandedIn.{hands_on}
use Rattle.sheet.proofs.Parts.{sheet_length_lem}
use Rattle.sheet.proofs.Refusals.{refusal_gives_nothing}
use Rattle.writer.specs.declared.WriteRefusal.TheVariants as WriteRefusal
use Rattle.writer.specs.Laid.{Laid}
use Rattle.writer.specs.Promise.{length_for, Writes, write_says, buffer_written}
use Rattle.writer.proofs.Laying.{laid_front}

module _ (h : HandedIn) (out : List ℕ) where
  -- what was handed in is refused: its refusal, and the buffer as it was
  pub writes_refused : (r : Refusal) → Checks h (Err r) → Writes h out (Err (WriteRefusal.HandedIn r)) out
  unfolding write_says buffer_written
  writes_refused r said =
      let says : write_says h out ≡ refusal_says r = hands_on h _ r said in
      record { answer = sym says; buffer = rw says (sym (refusal_gives_nothing ℕ r _ out)) }

  module _ (d : CheckedDay) (checked : Checks h (Ok d)) (n : ℕ) (same : n ≡ length_for (the_day d)) where
    -- the buffer is too short: 8, and the buffer as it was
    pub writes_no_room : length out < n → Writes h out (Err WriteRefusal.NoRoom) out
    unfolding write_says buffer_written
    writes_no_room short =
        record { answer = rw (checked.0, ← checked.1, ← same, lt-ltb _ _ short); buffer = rw (checked.0, ← checked.1, ← same, lt-ltb _ _ short) }

    -- the sheet is laid at the front: its length, and the bytes behind it as they were
    pub writes_length : (after : List ℕ) → n ≤ length out → Laid out 0 (sheet_bytes d.table.now d.harvest.now) after → Writes h out (Ok n) after
    unfolding write_says buffer_written
    writes_length after room laid =
        record {
          answer = rw (checked.0, ← checked.1, ← same, le-ltb _ _ room);
          buffer = rw (checked.0, ← checked.1, ← same, le-ltb _ _ room) (laid_front n laid (sheet_length_lem d.table.now d.harvest.now d.good.harvest_fits ∙ sym same) room);
        }
