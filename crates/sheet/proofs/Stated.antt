-- What the two checks say, in words: leave exactly when all is well formed, and each refusal exactly when it is stated and nothing earlier applies.
use Prim.Native.Nat.{ℕ, ◌*◌, ◌<◌, ◌≤◌}
use mathlib.Core.Path.{◌≡◌, refl, sym, ap, subst}
use mathlib.Core.Bool.{Bool, true, false, not, ◌||◌}
use mathlib.Core.List.{List}
use mathlib.Core.Logic.Iff
use mathlib.Core.Logic.{◌↔◌, ◌⊎◌, inl, inr, ⊎_elim}
use native.Mathlib.Omega.{arith}
use lib.Dec.{ltb, eqb}
use lib.ListN.{length, drop, length-drop}
use lib.Seq.{length-take-le}
use borrow.Author.Tests.{lt-ltb, le-ltb, eq-eqb, ne_eqb, ltb-true, ltb-false, eqb-true, eqb-false, not-true, not-false}
use Rattle.sheet.specs.Paper.{gives}
use Rattle.sheet.specs.Refusals.{refusal_says}
use Rattle.sheet.specs.Table.{most_jobs, most_slots, no_job, job_of, Day, counts_fault, window_fault, work_fault, table_faults, table_says}
use Rattle.sheet.specs.Sheet.{trailer_length, record_length, sheet_length, jobs_in, slots_in, job_in, last_byte_in, sheet_faults, sheet_says, table_in, harvest_in, mark_fault, layout_fault}
use Rattle.sheet.specs.WellFormed.{GoodJob, GoodDay, WellFormed, CountsStated, WindowStated, WorkStated, SheetStates, TableStates, GivenFirst}
use Rattle.sheet.specs.declared.Job.{Job}
use Rattle.sheet.specs.declared.Refusal.{Refusal}
use Rattle.sheet.specs.declared.Refusal.TheVariants.{Short, Mark, Counts, Layout, Window, Work}
use Rattle.sheet.proofs.Exactly.{either, never_both, RefusalApplies, Clear, refused_exactly, accepted_exactly}
use Rattle.sheet.proofs.Lists.{filled_get}
use Rattle.sheet.proofs.Words.{counts_words, mark_words, layout_words, window_words, work_words, GoodWindow, GoodWork}

-- ---- a test that holds, in words

pub not_of : (b : Bool) {G : Type 0} → ((b ≡ false) ↔ G) → (b ≡ true) ↔ (G → ⊥)
not_of b w = ((λ e g. never_both e (w.1 g)), (λ h. ⊎_elim (λ t. t) (λ f. absurd (h (w.0 f))) (either b)))

pub or_of : (a b : Bool) {A B : Type 0} → ((a ≡ true) ↔ A) → ((b ≡ true) ↔ B) → ((a || b) ≡ true) ↔ (A ⊎ B)
or_of true b p q = ((λ e. inl (p.0 refl)), (λ s. refl))
or_of false b p q = ((λ e. inr (q.0 e)), (λ s. ⊎_elim (λ x. absurd (never_both (p.1 x) refl)) (λ y. q.1 y) s))

pub below : (m n : ℕ) → (ltb m n ≡ true) ↔ (m < n)
below m n = (ltb-true m n, lt-ltb m n)

pub same : (m n : ℕ) → (eqb m n ≡ true) ↔ (m ≡ n)
same m n = (eqb-true m n, eq-eqb m n)

pub differs : (m n : ℕ) → (not (eqb m n) ≡ true) ↔ (m ≡ n → ⊥)
differs m n = ((λ e. eqb-false m n (not-true _ e)), (λ h. ap not (ne_eqb m n h)))

pub not_below : (m n : ℕ) → (not (ltb m n) ≡ true) ↔ (n ≤ m)
not_below m n = ((λ e. ltb-false m n (not-true _ e)), (λ h. ap not (le-ltb m n h)))

or_four : {A B C D : Type 0} → (((A ⊎ B) ⊎ C) ⊎ D) ↔ (A ⊎ (B ⊎ (C ⊎ D)))
or_four = (
  ⊎_elim (⊎_elim (⊎_elim inl (λ b. inr (inl b))) (λ c. inr (inr (inl c)))) (λ d. inr (inr (inr d))),
  ⊎_elim (λ a. inl (inl (inl a))) (⊎_elim (λ b. inl (inl (inr b))) (⊎_elim (λ c. inl (inr c)) inr)),
)

or_three : {A B C : Type 0} → ((A ⊎ B) ⊎ C) ↔ (A ⊎ (B ⊎ C))
or_three = (⊎_elim (⊎_elim inl (λ b. inr (inl b))) (λ c. inr (inr c)), ⊎_elim (λ a. inl (inl a)) (⊎_elim (λ b. inl (inr b)) inr))

pub counts_stated : (jobs slots : ℕ) → (counts_fault jobs slots ≡ true) ↔ CountsStated jobs slots
unfolding counts_fault
counts_stated jobs slots =
    Iff.trans (or_of (ltb most_jobs jobs || eqb slots 0) _ (or_of (ltb most_jobs jobs) _ (below most_jobs jobs) (same slots 0)) (below most_slots slots)) or_three

pub window_stated : (slots : ℕ) (j : Job) → (window_fault slots j ≡ true) ↔ WindowStated slots j
unfolding window_fault
window_stated slots j = or_of (not (ltb j.release j.deadline)) _ (not_below j.release j.deadline) (below slots j.deadline)

pub work_stated : (j : Job) (last : ℕ) → (work_fault j last ≡ true) ↔ WorkStated j last
unfolding work_fault
work_stated j last =
    Iff.trans
    (or_of (eqb j.wanted 0 || ltb most_slots j.wanted || eqb j.energy 0) _
    (or_of (eqb j.wanted 0 || ltb most_slots j.wanted) _
    (or_of (eqb j.wanted 0) _ (same j.wanted 0) (below most_slots j.wanted))
    (same j.energy 0))
    (differs last 0))
    or_four

-- ---- "Each is given exactly when stated and nothing earlier applies"

first_same : (p q : Refusal → Type 0) → ((r : Refusal) → p r ↔ q r) → (r : Refusal) → GivenFirst p r ↔ GivenFirst q r
first_same p q e r = (
  (λ g. ((e r).0 g.0, (λ k l a. g.1 k l ((e k).1 a)))),
  (λ g. ((e r).1 g.0, (λ k l a. g.1 k l ((e k).0 a)))),
)

pub with_place : {K A B : Type 0} → (A ↔ B) → (K × A) ↔ (K × B)
with_place e = ((λ p. (p.0, e.0 p.1)), (λ p. (p.0, e.1 p.1)))

sheet_applies : (s : List ℕ) (r : Refusal) → RefusalApplies (sheet_faults s) r ↔ SheetStates s r
unfolding sheet_faults
sheet_applies s Short = below (length s) trailer_length
sheet_applies s Mark = not_of (mark_fault s) (mark_words s)
sheet_applies s Counts = counts_stated (jobs_in s) (slots_in s)
sheet_applies s Layout = not_of (layout_fault s) (layout_words s)
sheet_applies s (Window k) = with_place (window_stated (slots_in s) (job_in s k))
sheet_applies s (Work k) = with_place (work_stated (job_in s k) (last_byte_in s k))

-- a sheet is refused with a number exactly when that refusal is stated and none whose turn is earlier
pub sheet_refuses : (s : List ℕ) (r : Refusal) → (sheet_says s ≡ refusal_says r) ↔ GivenFirst (SheetStates s) r
unfolding sheet_says
sheet_refuses s r = Iff.trans (refused_exactly (sheet_faults s) r) (first_same _ _ (sheet_applies s) r)

never : {b : Bool} → b ≡ false → (b ≡ true) ↔ ⊥
never e = ((λ p. never_both p e), (λ x. absurd x))

table_applies : (d : Day) (r : Refusal) → RefusalApplies (table_faults d) r ↔ TableStates d r
unfolding table_faults
table_applies d Short = never refl
table_applies d Mark = never refl
table_applies d Counts = counts_stated d.table.count d.table.slots
table_applies d Layout = differs (length d.harvest) d.table.slots
table_applies d (Window k) = with_place (window_stated d.table.slots (job_of d.table k))
table_applies d (Work k) = with_place (work_stated (job_of d.table k) 0)

-- and so is a table with a harvest
pub table_refuses : (d : Day) (r : Refusal) → (table_says d ≡ refusal_says r) ↔ GivenFirst (TableStates d) r
unfolding table_says
table_refuses d r = Iff.trans (refused_exactly (table_faults d) r) (first_same _ _ (table_applies d) r)

-- ---- what is accepted

good_job : (slots : ℕ) (j : Job) → GoodWindow slots j → GoodWork j 0 → GoodJob slots j
good_job slots j w v = record { window = w.0; in_day = w.1; wants = v.0; wants_at_most = v.1; costs = v.2 }

-- a table and a harvest are accepted exactly when they are well formed
pub table_leaves : (d : Day) → (table_says d ≡ gives tt) ↔ GoodDay d
unfolding table_says table_faults
table_leaves d = (
  (λ e.
      let c : Clear (table_faults d) = (accepted_exactly (table_faults d)).0 e in
      let counts = (counts_words d.table.count d.table.slots).0 c.2 in
      record {
        few_jobs = counts.0;
        some_slots = counts.1;
        few_slots = counts.2;
        harvest_fits = eqb-true _ _ (not-false _ c.3);
        good_jobs =
            λ k h. good_job _ _ ((window_words _ _).0 (c.4 k h).0) ((work_words _ _).0 (c.4 k h).1);
      }),
  (λ g.
      (accepted_exactly (table_faults d)).1 (
        refl,
        refl,
        (counts_words d.table.count d.table.slots).1 (g.few_jobs, g.some_slots, g.few_slots),
        ap not (eq-eqb _ _ g.harvest_fits),
        (λ k h.
            let j = g.good_jobs k h in
            ((window_words _ _).1 (j.window, j.in_day), (work_words _ _).1 (j.wants, j.wants_at_most, j.costs, refl))),
      )),
)

-- the jobs of the table in a sheet are the jobs in its records
pub job_in_table : (s : List ℕ) (k : ℕ) → k < jobs_in s → job_of (table_in s) k ≡ job_in s k
unfolding table_in
job_in_table s k h = filled_get (job_in s) no_job most_jobs (jobs_in s) k h

pub harvest_length : (s : List ℕ) → length s ≡ sheet_length (jobs_in s) (slots_in s) → length (harvest_in s) ≡ slots_in s
unfolding harvest_in
harvest_length s e = length-take-le (slots_in s) (drop (record_length * jobs_in s) s) (simp length-drop (omega arith))

-- a sheet is accepted exactly when it is well formed
pub sheet_leaves : (s : List ℕ) → (sheet_says s ≡ gives tt) ↔ WellFormed s
unfolding sheet_says sheet_faults table_in
sheet_leaves s = (
  (λ e.
      let c : Clear (sheet_faults s) = (accepted_exactly (sheet_faults s)).0 e in
      let counts = (counts_words (jobs_in s) (slots_in s)).0 c.2 in
      let layout = (layout_words s).0 c.3 in
      let work : (k : ℕ) → k < jobs_in s → GoodWork (job_in s k) (last_byte_in s k) = λ k h. (work_words (job_in s k) (last_byte_in s k)).0 (c.4 k h).1 in
      record {
        long_enough = ltb-false _ _ c.0;
        marked = (mark_words s).0 c.1;
        harvest_back_is = layout.0;
        first_job_back_is = layout.1;
        length_fits = layout.2;
        zero_bytes = λ k h. (work k h).3;
        good_day =
            record {
              few_jobs = counts.0;
              some_slots = counts.1;
              few_slots = counts.2;
              harvest_fits = harvest_length s layout.2;
              good_jobs =
                  λ k h. subst (GoodJob (slots_in s)) (sym (job_in_table s k h))
                  (good_job (slots_in s) (job_in s k) ((window_words _ _).0 (c.4 k h).0) ((work k h).0, (work k h).1, (work k h).2, refl));
            };
      }),
  (λ g.
      let good = g.good_day in
      (accepted_exactly (sheet_faults s)).1 (
        le-ltb _ _ g.long_enough,
        (mark_words s).1 g.marked,
        (counts_words (jobs_in s) (slots_in s)).1 (good.few_jobs, good.some_slots, good.few_slots),
        (layout_words s).1 (g.harvest_back_is, g.first_job_back_is, g.length_fits),
        (λ k h.
            let j = subst (GoodJob (slots_in s)) (job_in_table s k h) (good.good_jobs k h) in (
              (window_words _ _).1 (j.window, j.in_day),
              (work_words _ _).1 (j.wants, j.wants_at_most, j.costs, g.zero_bytes k h),
            )),
      )),
)
