-- The theorems on the writer that are worth quoting, of any answer and buffer that its promise allows. (The round trips stand in the crate `theorems`.)
use Prim.Native.Nat.{ℕ, ◌<◌}
use mathlib.Core.Path.{◌≡◌, refl, sym, ◌∙◌, subst}
use mathlib.Core.List.{List, ◌++◌}
use mathlib.Core.Logic.Iff
use mathlib.Core.Logic.{◌↔◌}
use lib.Dec.{ltb}
use lib.ListN.{length, drop}
use borrow.Author.Tests.{ltb-true, lt-ltb}
use Rattle.std.specs.Prelude.{Result, Ok, Err}
use Rattle.sheet.specs.HandedIn.{HandedIn, day_in, Sound, States}
use Rattle.sheet.specs.Paper.{Paper, gives, refuses, refuses_at}
use Rattle.sheet.specs.Sheet.{sheet_bytes}
use Rattle.sheet.specs.WellFormed.{GivenFirst}
use Rattle.sheet.specs.declared.Refusal.{Refusal}
use Rattle.sheet.proofs.HandedIn.{handed_on_exactly, asked_exactly}
use Rattle.sheet.proofs.Order.{Refuses, where_refused}
use Rattle.sheet.proofs.Refusals.{by_refusal, by_refusal_lem, said_one, said_exactly, refusal_refuses, sheet_has, own_given, own_else}
use Rattle.sheet.proofs.Stated.{with_place}
use Rattle.writer.specs.Promise.{no_room, length_for, write_says, buffer_written, written_says, Writes}
use Rattle.writer.specs.declared.WriteRefusal.{WriteRefusal}

-- ---- any two results that the promise allows are equal: the answer, and every byte of the buffer

refused_by : Refusal → Result ℕ WriteRefusal
refused_by why = Err (WriteRefusal.HandedIn why)

own_meant : Paper ℕ → Result ℕ WriteRefusal
own_meant (gives n) = Ok n
own_meant (refuses n) = Err WriteRefusal.NoRoom
own_meant (refuses_at n k) = Err WriteRefusal.NoRoom

meant : Paper ℕ → Result ℕ WriteRefusal
meant a = by_refusal refused_by (own_meant a) a

back : (r : Result ℕ WriteRefusal) → meant (written_says r) ≡ r
unfolding meant by_refusal own_meant refused_by
back (Ok n) = refl
back (Err (WriteRefusal.HandedIn why)) = by_refusal_lem ℕ refused_by _ why
back (Err WriteRefusal.NoRoom) = refl

pub one_result : {h : HandedIn} {out after after' : List ℕ} {r q : Result ℕ WriteRefusal} → Writes h out r after → Writes h out q after' → (r ≡ q) × (after ≡ after')
one_result {r = r} {q = q} a b = (said_one written_says meant back r q (a.answer ∙ sym b.answer), a.buffer ∙ sym b.buffer)

module _ (h : HandedIn) (out : List ℕ) (r : Result ℕ WriteRefusal) (after : List ℕ) (wrote : Writes h out r after) where
  as_said : (q : Result ℕ WriteRefusal) → (r ≡ q) ↔ (write_says h out ≡ written_says q)
  as_said q = said_exactly written_says meant back r q _ wrote.answer

  -- 3 to 6 are given exactly when each is stated and nothing earlier applies
  pub write_refused_exactly : (why : Refusal) → (r ≡ Err (WriteRefusal.HandedIn why)) ↔ GivenFirst (States h) why
  unfolding write_says sheet_has
  write_refused_exactly why =
      Iff.trans (as_said (Err (WriteRefusal.HandedIn why))) (handed_on_exactly h _ (own_else no_room (ltb (length out) (length_for (day_in h))) _ refl (own_given _)) why)

  -- 8 is given exactly when the table and the harvest are well formed and the buffer is shorter than the sheet
  pub no_room_exactly : (r ≡ Err WriteRefusal.NoRoom) ↔ (Sound h × (length out < length_for (day_in h)))
  unfolding write_says sheet_has
  no_room_exactly =
      Iff.trans (as_said (Err WriteRefusal.NoRoom))
      (Iff.trans (asked_exactly h _ (ltb (length out) (length_for (day_in h))) (gives (length_for (day_in h))) refl (λ e. subst Refuses (sym e) tt))
      (with_place (ltb-true _ _, lt-ltb _ _)))

  -- After a refusal every byte of the buffer is what it was.
  left_as_it_was : Refuses (written_says r) → after ≡ out
  unfolding buffer_written
  left_as_it_was refused =
      wrote.buffer
      ∙ where_refused (write_says h out) (sheet_bytes (day_in h).table (day_in h).harvest ++ drop (length_for (day_in h)) out) out (subst Refuses wrote.answer refused)

  pub refused_write_leaves_the_buffer : (why : Refusal) → r ≡ Err (WriteRefusal.HandedIn why) → after ≡ out
  refused_write_leaves_the_buffer why e = left_as_it_was (rw e (refusal_refuses ℕ why))

  pub no_room_leaves_the_buffer : r ≡ Err WriteRefusal.NoRoom → after ≡ out
  no_room_leaves_the_buffer e = left_as_it_was (rw e tt)
