-- The two round trips, of any results that the reader's and the writer's promises allow: reading what was written, and writing what was read.
use Prim.Native.Nat.{ℕ, zero, suc, ◌+◌, ◌-◌, ◌*◌, ◌/◌, ◌%◌, ◌<◌, ◌≤◌}
use mathlib.Core.Path.{◌≡◌, refl, sym, ap, ap₂, ◌∙◌, subst}
use mathlib.Core.List.{List, [], ◌∷◌, ◌++◌, append_assoc}
use native.Mathlib.Nat.{add-zero, add_assoc, not-suc-le-zero, mul-zero}
use native.Mathlib.Decide.{dec_lt}
use native.Mathlib.Omega.{arith}
use mathlib.Core.Bool.{false}
use lib.Dec.{ltb}
use borrow.Author.Tests.{le-ltb}
use lib.ListN.{length, get_or, take, drop, length-append, length-drop, take-append-drop, get_or-append}
use lib.Seq.{take_at, drop_at, take-add, take_all, drop-drop, get_or-append-add}
use Rattle.sheet.specs.HandedIn.{on_table, check_says}
use Rattle.sheet.specs.Lists.{joined}
use Rattle.sheet.specs.Paper.{gives, ◌when◌, ◌else◌}
use Rattle.sheet.specs.Sheet.{u16, u16_at, record_bytes, record_length, trailer_bytes, trailer_length, trailer_at, sheet_bytes, sheet_length, mark_first, mark_second, harvest_back, first_job_back, jobs_in, slots_in, capacity_in, job_in, last_byte_in, table_in, harvest_in, sheet_says}
use Rattle.sheet.specs.Table.{job_of, day_of}
use Rattle.sheet.specs.WellFormed.{GoodJob, GoodDay, WellFormed, SameTable, Bytes}
use Rattle.sheet.specs.declared.Job.{Job}
use Rattle.sheet.specs.declared.Table.{Table}
use Rattle.sheet.proofs.HandedIn.{check_leaves}
use Rattle.sheet.proofs.Lists.{joined_same, stretch_joined}
use Rattle.sheet.proofs.Order.{else_gave, gives_one, where_given_lem}
use Rattle.sheet.proofs.Parts.{records_of, records_length, sheet_length_lem}
use Rattle.sheet.proofs.Refusals.{outcome_one, says_gives}
use Rattle.sheet.proofs.Stated.{job_in_table, sheet_leaves}
use Rattle.reader.specs.Promise.{harvest_read, Reads}
use Rattle.reader.specs.declared.Reading.{Reading}
use Rattle.reader.proofs.Yielding.{table_given, harvest_given}
use Rattle.writer.specs.Promise.{no_room, length_for, write_says, buffer_written, written_says, Writes}
use Rattle.writer.specs.declared.WriteRefusal.{WriteRefusal}
use Rattle.std.specs.Prelude.{Result, Ok}
use Rattle.writer.proofs.Theorems.{one_result}

-- ---- numbers there and back

pub u16_value : (n : ℕ) → n < 65536 → n % 256 + 256 * (n / 256 % 256) ≡ n
u16_value n h = omega arith

pub u16_back : (a b : ℕ) → a < 256 → b < 256 → u16 (a + 256 * b) ≡ a ∷ b ∷ []
u16_back a b ha hb =
    let low : (a + 256 * b) % 256 ≡ a = omega arith in
    let quotient : (a + 256 * b) / 256 ≡ b = omega arith in
    let small : b % 256 ≡ b = omega arith in
    let high : (a + 256 * b) / 256 % 256 ≡ b = ap (λ (x : ℕ). x % 256) quotient ∙ small in
    ap₂ (λ (x y : ℕ). x ∷ y ∷ []) low high

-- ---- records, one after the other

module _ (jobs : ℕ → Job) where
  -- byte i of record k
  pub records_get : (n k i : ℕ) → k < n → i < record_length → get_or (records_of jobs n) (record_length * k + i) 0 ≡ get_or (record_bytes (jobs k)) i 0
  unfolding joined
  records_get zero k i h l = absurd (not-suc-le-zero h)
  records_get (suc n) k i h l =
      elim (dec_lt k n) [
        | yes m ↦
            get_or-append (records_of jobs n) (record_bytes (jobs n)) 0 (record_length * k + i) (rw (records_length jobs n) (omega arith)) ∙ records_get n k i m l
        | no m ↦
            let same : n ≡ k = omega arith in
            ap (λ (at : ℕ). get_or (records_of jobs (suc n)) (at + i) 0) (ap (λ (j : ℕ). record_length * j) (sym same) ∙ sym (records_length jobs n))
            ∙ get_or-append-add (records_of jobs n) (record_bytes (jobs n)) i 0
            ∙ ap (λ (j : ℕ). get_or (record_bytes (jobs j)) i 0) same
      ]

-- ---- reading what was written

module _ (t : Table) (harvest : List ℕ) (good : GoodDay (day_of t harvest)) (fits : t.capacity < 65536) where
  abbrev written : List ℕ
  written = sheet_bytes t harvest

  abbrev front : List ℕ
  front = records_of (job_of t) t.count

  front_length : length (front ++ harvest) ≡ t.slots + record_length * t.count
  front_length =
      let a : length front ≡ record_length * t.count = records_length (job_of t) t.count in
      let b = good.harvest_fits in
      length-append front harvest ∙ omega arith

  written_length : length written ≡ sheet_length t.count t.slots
  written_length = sheet_length_lem t harvest good.harvest_fits

  trailer_starts : trailer_at written ≡ length (front ++ harvest)
  trailer_starts = let a = written_length in let b = front_length in omega arith

  in_trailer : (i : ℕ) → get_or written (trailer_at written + i) 0 ≡ get_or (trailer_bytes t) i 0
  unfolding sheet_bytes
  in_trailer i = ap (λ (at : ℕ). get_or written (at + i) 0) trailer_starts ∙ get_or-append-add (front ++ harvest) (trailer_bytes t) i 0

  -- the u16 at an even place of the trailer
  field : (i n : ℕ) → n < 65536 → get_or (trailer_bytes t) i 0 ≡ n % 256 → get_or (trailer_bytes t) (i + 1) 0 ≡ n / 256 % 256 → u16_at written (trailer_at written + i) ≡ n
  field i n h low high =
      ap₂ (λ (a b : ℕ). a + 256 * b) (in_trailer i ∙ low) (ap (λ (j : ℕ). get_or written j 0) (add_assoc (trailer_at written) i 1) ∙ in_trailer (i + 1) ∙ high)
      ∙ u16_value n h

  few_slots : t.slots < 65536
  few_slots = let h = good.few_slots in omega arith

  few_jobs : t.count < 65536
  few_jobs = let h = good.few_jobs in omega arith

  back_fits : t.slots + record_length * t.count < 65536
  back_fits = let g = good.few_jobs in let h = good.few_slots in omega arith

  jobs_back : jobs_in written ≡ t.count
  unfolding trailer_bytes
  jobs_back = field 4 t.count few_jobs refl refl

  slots_back : slots_in written ≡ t.slots
  unfolding trailer_bytes
  slots_back = field 6 t.slots few_slots refl refl

  capacity_back : capacity_in written ≡ t.capacity
  unfolding trailer_bytes
  capacity_back = field 8 t.capacity fits refl refl

  harvest_distance : harvest_back written ≡ t.slots
  unfolding trailer_bytes
  harvest_distance = ap (λ (at : ℕ). u16_at written at) (sym (add-zero (trailer_at written))) ∙ field 0 t.slots few_slots refl refl

  jobs_distance : first_job_back written ≡ t.slots + record_length * t.count
  unfolding trailer_bytes
  jobs_distance = field 2 (t.slots + record_length * t.count) back_fits refl refl

  -- byte i of record k
  in_record : (k i : ℕ) → k < t.count → i < record_length → get_or written (record_length * k + i) 0 ≡ get_or (record_bytes (job_of t k)) i 0
  unfolding sheet_bytes
  in_record k i h l =
      let a : length front ≡ record_length * t.count = records_length (job_of t) t.count in
      ap (λ (s : List ℕ). get_or s (record_length * k + i) 0) (append_assoc front harvest (trailer_bytes t))
      ∙ get_or-append front (harvest ++ trailer_bytes t) 0 (record_length * k + i) (omega arith)
      ∙ records_get (job_of t) t.count k i h l

  record_field : (k i n : ℕ) → k < t.count → i + 1 < record_length → n < 65536 → get_or (record_bytes (job_of t k)) i 0 ≡ n % 256
      → get_or (record_bytes (job_of t k)) (i + 1) 0 ≡ n / 256 % 256 → u16_at written (record_length * k + i) ≡ n
  record_field k i n h l f low high =
      ap₂ (λ (a b : ℕ). a + 256 * b)
      (in_record k i h (omega arith) ∙ low)
      (ap (λ (j : ℕ). get_or written j 0) (add_assoc (record_length * k) i 1) ∙ in_record k (i + 1) h l ∙ high)
      ∙ u16_value n f

  job_back : (k : ℕ) → k < t.count → job_in written k ≡ job_of t k
  unfolding record_bytes
  job_back k h =
      let job : Job = job_of t k in
      let g = good.good_jobs k h in
      let day = good.few_slots in
      let ends : job.deadline < 65536 = let a = g.in_day in omega arith in
      let starts : job.release < 65536 = let a = g.window in omega arith in
      let wants : job.wanted < 65536 = let a = g.wants_at_most in omega arith in
      let release : u16_at written (record_length * k) ≡ job.release =
      ap (λ (at : ℕ). u16_at written at) (sym (add-zero (record_length * k))) ∙ record_field k 0 job.release h (omega arith) starts refl refl in
      let deadline = record_field k 2 job.deadline h (omega arith) ends refl refl in
      let wanted = record_field k 4 job.wanted h (omega arith) wants refl refl in
      let energy = in_record k 6 h (omega arith) in
      λ i. record { release = release i; deadline = deadline i; wanted = wanted i; energy = energy i }

  zero_back : (k : ℕ) → k < t.count → last_byte_in written k ≡ 0
  unfolding record_bytes
  zero_back k h = in_record k 7 h (omega arith)

  harvest_back_is : harvest_in written ≡ harvest
  unfolding harvest_in sheet_bytes
  harvest_back_is =
      let a : length front ≡ record_length * jobs_in written = records_length (job_of t) t.count ∙ ap (λ (n : ℕ). record_length * n) (sym jobs_back) in
      ap (λ (s : List ℕ). take (slots_in written) (drop (record_length * jobs_in written) s)) (append_assoc front harvest (trailer_bytes t))
      ∙ ap (take (slots_in written)) (drop_at front (harvest ++ trailer_bytes t) (record_length * jobs_in written) a)
      ∙ take_at harvest (trailer_bytes t) (slots_in written) (good.harvest_fits ∙ sym slots_back)

  mark_back : (get_or written (length written - 2) 0 ≡ mark_first) × (get_or written (length written - 1) 0 ≡ mark_second)
  unfolding trailer_bytes
  mark_back =
      let whole = written_length in (
        ap (λ (at : ℕ). get_or written at 0) (omega arith) ∙ in_trailer 10,
        ap (λ (at : ℕ). get_or written at 0) (omega arith) ∙ in_trailer 11,
      )

  same_table : SameTable (table_in written) t
  unfolding table_in
  same_table =
      record {
        as_many = jobs_back;
        jobs = λ k h. job_in_table written k h ∙ job_back k (omega (arith, jobs_back));
        slots = slots_back;
        capacity = capacity_back;
      }

  written_well_formed : WellFormed written
  unfolding table_in
  written_well_formed =
      let whole = written_length in
      let n = jobs_back in
      let m = slots_back in
      record {
        long_enough = omega arith;
        marked = mark_back;
        harvest_back_is = harvest_distance ∙ sym slots_back;
        first_job_back_is = jobs_distance ∙ ap₂ (λ (a b : ℕ). a + record_length * b) (sym slots_back) (sym jobs_back);
        length_fits = written_length ∙ ap₂ sheet_length (sym jobs_back) (sym slots_back);
        zero_bytes = λ k h. zero_back k (omega arith);
        good_day =
            record {
              few_jobs = let a = good.few_jobs in omega arith;
              some_slots = let a = good.some_slots in omega arith;
              few_slots = let a = good.few_slots in omega arith;
              harvest_fits = ap length harvest_back_is ∙ good.harvest_fits ∙ sym slots_back;
              good_jobs =
                  λ k h.
                  let l : k < t.count = omega arith in
                  subst (GoodJob (slots_in written)) (sym (job_in_table written k h ∙ job_back k l))
                  (subst (λ (d : ℕ). GoodJob d (job_of t k)) (sym slots_back) (good.good_jobs k l));
            };
      }

  says_written : sheet_says written ≡ gives tt
  says_written = (sheet_leaves written).1 written_well_formed

-- ---- writing what was read

-- a record's parts, and a trailer's, put together
record_of : List ℕ → List ℕ → List ℕ → ℕ → ℕ → List ℕ
record_of release deadline wanted energy zero_byte = release ++ deadline ++ wanted ++ energy ∷ zero_byte ∷ []

record_same : {a a' b b' c c' : List ℕ} (e : ℕ) {z z' : ℕ} → a ≡ a' → b ≡ b' → c ≡ c' → z ≡ z' → record_of a b c e z ≡ record_of a' b' c' e z'
record_same e p q r h = cc

trailer_of : List ℕ → List ℕ → List ℕ → List ℕ → List ℕ → ℕ → ℕ → List ℕ
trailer_of a b c d e first second = a ++ b ++ c ++ d ++ e ++ first ∷ second ∷ []

trailer_same : {a a' b b' c c' d d' e e' : List ℕ} {f f' g g' : ℕ}
    → a ≡ a' → b ≡ b' → c ≡ c' → d ≡ d' → e ≡ e' → f ≡ f' → g ≡ g' → trailer_of a b c d e f g ≡ trailer_of a' b' c' d' e' f' g'
trailer_same p q r t u v w = cc

module _ (s : List ℕ) (bytes : Bytes s) (good : WellFormed s) where
  -- the two bytes from a place on, as the number in them is written
  pair : (at i : ℕ) → u16 (u16_at s (at + i)) ≡ get_or s (at + i) 0 ∷ get_or s (at + (i + 1)) 0 ∷ []
  pair at i =
      u16_back (get_or s (at + i) 0) (get_or s (at + i + 1) 0) (bytes (at + i)) (bytes (at + i + 1))
      ∙ ap (λ (j : ℕ). get_or s (at + i) 0 ∷ get_or s j 0 ∷ []) (add_assoc at i 1)

  -- record k, written again
  record_again : (k : ℕ) → k < jobs_in s → record_bytes (job_in s k) ≡ take record_length (drop (record_length * k) s)
  unfolding record_bytes record_of joined
  record_again k h =
      let fits = good.length_fits in
      let at : ℕ = record_length * k in
      record_same (get_or s (at + 6) 0) (ap (λ (j : ℕ). u16 (u16_at s j)) (sym (add-zero at)) ∙ pair at 0) (pair at 2) (pair at 4) (sym (good.zero_bytes k h))
      ∙ sym (stretch_joined 0 s record_length at (omega arith))

  records_again : (n : ℕ) → n ≤ jobs_in s → joined (λ k. record_bytes (job_in s k)) n ≡ take (record_length * n) s
  unfolding joined
  records_again zero h = sym (ap (λ (m : ℕ). take m s) (mul-zero record_length))
  records_again (suc n) h =
      let next : record_length * suc n ≡ record_length * n + record_length = omega arith in
      ap₂ ◌++◌ (records_again n (omega arith)) (record_again n h)
      ∙ sym (ap (λ (m : ℕ). take m s) next ∙ take-add (record_length * n) record_length s)

  trailer_again : trailer_bytes (table_in s) ≡ take trailer_length (drop (trailer_at s) s)
  unfolding trailer_bytes table_in trailer_of joined
  trailer_again =
      let at : ℕ = trailer_at s in
      let long = good.long_enough in
      trailer_same
      (ap u16 (sym good.harvest_back_is) ∙ ap (λ (j : ℕ). u16 (u16_at s j)) (sym (add-zero at)) ∙ pair at 0)
      (ap u16 (sym good.first_job_back_is) ∙ pair at 2)
      (pair at 4)
      (pair at 6)
      (pair at 8)
      (sym good.marked.0 ∙ ap (λ (j : ℕ). get_or s j 0) (omega arith))
      (sym good.marked.1 ∙ ap (λ (j : ℕ). get_or s j 0) (omega arith))
      ∙ sym (stretch_joined 0 s trailer_length at (omega arith))

  sheet_again : sheet_bytes (table_in s) (harvest_in s) ≡ s
  unfolding sheet_bytes harvest_in table_in
  sheet_again =
      let n : ℕ = jobs_in s in
      let fits = good.length_fits in
      let rest : List ℕ = drop (record_length * n) s in
      let at : trailer_at s ≡ record_length * n + slots_in s = omega arith in
      let tail : take trailer_length (drop (trailer_at s) s) ≡ drop (slots_in s) rest =
      take_all trailer_length (drop (trailer_at s) s) (simp length-drop (omega arith)) ∙ ap (λ (j : ℕ). drop j s) at ∙ sym (drop-drop (slots_in s) (record_length * n) s) in
      ap₂ (λ (a b : List ℕ). a ++ harvest_in s ++ b)
      (joined_same (λ k. record_bytes (job_of (table_in s) k)) (λ k. record_bytes (job_in s k)) n (λ k h. ap record_bytes (job_in_table s k h)) ∙ records_again n (omega arith))
      (trailer_again ∙ tail)
      ∙ append_assoc (take (record_length * n) s) (harvest_in s) (drop (slots_in s) rest)
      ∙ ap (λ (l : List ℕ). take (record_length * n) s ++ l) (take-append-drop (slots_in s) rest)
      ∙ take-append-drop (record_length * n) s

  -- given room, the writer writes it
  writes_again : (out : List ℕ) → length s ≤ length out → Writes (on_table (table_in s) (harvest_in s)) out (Ok (length s)) (s ++ drop (length s) out)
  unfolding write_says buffer_written table_in
  writes_again out room =
      let leave = (check_leaves (on_table (table_in s) (harvest_in s))).1 good.good_day in
      let long : sheet_length (jobs_in s) (slots_in s) ≡ length s = sym good.length_fits in
      let fits : ltb (length out) (sheet_length (jobs_in s) (slots_in s)) ≡ false = le-ltb (length out) (sheet_length (jobs_in s) (slots_in s)) (rw long room) in
      let says : write_says (on_table (table_in s) (harvest_in s)) out ≡ gives (length s) = rw (leave, fits) (ap gives long) in
      record { answer = sym says; buffer = rw says (sym (ap₂ ◌++◌ sheet_again (ap (λ (n : ℕ). drop n out) long))) }

-- ---- the round trips

-- what a writer that answered a length has done
wrote : (t : Table) (harvest out after : List ℕ) (w : Result ℕ WriteRefusal) (n : ℕ) → Writes (on_table t harvest) out w after → w ≡ Ok n
    → GoodDay (day_of t harvest) × (take n after ≡ sheet_bytes t harvest)
unfolding write_says buffer_written
wrote t harvest out after w n written e =
    let h = on_table t harvest in
    let long : ℕ = length_for (day_of t harvest) in
    let says : write_says h out ≡ gives n = sym written.answer ∙ ap written_says e in
    let first = else_gave (check_says h) (no_room when ltb (length out) long else gives long) n says in
    let second = else_gave (no_room when ltb (length out) long) (gives long) n first.1 in
    let good : GoodDay (day_of t harvest) = (check_leaves h).0 first.0 in
    let same : long ≡ n = gives_one long n second.1 in (
      good,
      ap (take n) (written.buffer ∙ where_given_lem (write_says h out) n (sheet_bytes t harvest ++ drop long out) out says)
          ∙ take_at (sheet_bytes t harvest) (drop long out) n (sheet_length_lem t harvest good.harvest_fits ∙ same),
    )

-- "Reading what was written from an accepted table gives that table and harvest": where the writer answers a length, the reader accepts so many bytes
-- of its buffer, and the table and the harvest that it hands back are those that were written
pub written_reads_back : (t : Table) (harvest out after : List ℕ) (w : Result ℕ WriteRefusal) (n : ℕ) → t.capacity < 65536 → Writes (on_table t harvest) out w after → w ≡ Ok n
    → (r : Reading) (handed : List ℕ) → Reads (take n after) r → handed ≡ harvest_read (take n after)
    → (r.outcome ≡ Ok tt) × SameTable r.table t × (handed ≡ harvest)
written_reads_back t harvest out after w n fits written e r handed read is =
    let did = wrote t harvest out after w n written e in
    let good = did.0 in
    let front = did.1 in
    let says : sheet_says (take n after) ≡ gives tt = ap sheet_says front ∙ says_written t harvest good fits in (
      outcome_one r.outcome (Ok tt) (read.answer ∙ says),
      subst (λ (u : Table). SameTable u t) (sym (read.table ∙ table_given (take n after) says ∙ ap table_in front)) (same_table t harvest good fits),
      is ∙ harvest_given (take n after) says ∙ ap harvest_in front ∙ harvest_back_is t harvest good fits,
    )

-- "writing what was read from an accepted sheet, given room, gives its bytes": the writer, handed the table and the harvest that the reader handed back,
-- answers the sheet's length, and the sheet stands at the front of its buffer, with the bytes behind it as they were
pub read_writes_back : (s : List ℕ) → Bytes s → (r : Reading) (handed : List ℕ) → Reads s r → r.outcome ≡ Ok tt → handed ≡ harvest_read s
    → (out after : List ℕ) (w : Result ℕ WriteRefusal) → length s ≤ length out → Writes (on_table r.table handed) out w after
    → (w ≡ Ok (length s)) × (after ≡ s ++ drop (length s) out)
read_writes_back s bytes r handed read e is out after w room written =
    let says : sheet_says s ≡ gives tt = says_gives r.outcome (sheet_says s) e read.answer in
    let table_is : r.table ≡ table_in s = read.table ∙ table_given s says in
    let harvest_is : handed ≡ harvest_in s = is ∙ harvest_given s says in
    one_result
    (subst (λ (u : Table). Writes (on_table u (harvest_in s)) out w after) table_is
    (subst (λ (l : List ℕ). Writes (on_table r.table l) out w after) harvest_is written))
    (writes_again s bytes ((sheet_leaves s).0 says) out room)
