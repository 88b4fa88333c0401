-- Each fault in words: it does not apply exactly when the numbers are as they should be.
use Prim.Native.Nat.{ℕ, ◌+◌, ◌-◌, ◌*◌, ◌≤◌, ◌<◌}
use mathlib.Core.Path.{◌≡◌, ap}
use mathlib.Core.Logic.{◌↔◌}
use mathlib.Core.Bool.{false, not, ◌||◌, ◌&&◌}
use mathlib.Core.List.{List}
use native.Mathlib.Omega.{arith}
use lib.Dec.{ltb, eqb}
use lib.ListN.{length, get_or}
use borrow.Author.Tests.{lt-ltb, le-ltb, eq-eqb, ne_eqb, ltb-true, ltb-false, eqb-true, eqb-false, not-false}
use Rattle.std.proofs.lemmas.Bool.{and_from, and_parts, or_from, or_parts}
use Rattle.sheet.specs.declared.Job.{Job}
use Rattle.sheet.specs.Sheet.{mark_first, mark_second, harvest_back, first_job_back, jobs_in, slots_in, record_length, sheet_length, mark_fault, layout_fault}
use Rattle.sheet.specs.Table.{most_jobs, most_slots, counts_fault, window_fault, work_fault}

above_zero : (n : ℕ) → eqb n 0 ≡ false → 1 ≤ n
above_zero n e = let h : n ≡ 0 → ⊥ = eqb-false n 0 e in omega arith

not_zero : (n : ℕ) → 1 ≤ n → eqb n 0 ≡ false
not_zero n h = ne_eqb n 0 (λ e. omega arith)

-- ---- each refusal in words

-- 3 does not apply: at most 64 jobs, and slots from 1 to 1,440
abbrev pub GoodCounts : ℕ → ℕ → Type 0
GoodCounts jobs slots = (jobs ≤ most_jobs) × (1 ≤ slots) × (slots ≤ most_slots)

pub counts_words : (jobs slots : ℕ) → (counts_fault jobs slots ≡ false) ↔ GoodCounts jobs slots
unfolding counts_fault
counts_words jobs slots = (
  (λ e.
      let front = (or_parts (ltb most_jobs jobs || eqb slots 0) (ltb most_slots slots) e).0 in (
        ltb-false most_jobs jobs (or_parts (ltb most_jobs jobs) (eqb slots 0) front).0,
        above_zero slots (or_parts (ltb most_jobs jobs) (eqb slots 0) front).1,
        ltb-false most_slots slots (or_parts (ltb most_jobs jobs || eqb slots 0) (ltb most_slots slots) e).1,
      )),
  (λ g. or_from _ _ (or_from _ _ (le-ltb most_jobs jobs g.0) (not_zero slots g.1)) (le-ltb most_slots slots g.2)),
)

-- 2 does not apply: the last two bytes are the mark
abbrev pub GoodMark : List ℕ → Type 0
GoodMark s = (get_or s (length s - 2) 0 ≡ mark_first) × (get_or s (length s - 1) 0 ≡ mark_second)

pub mark_words : (s : List ℕ) → (mark_fault s ≡ false) ↔ GoodMark s
unfolding mark_fault
mark_words s =
    let a = eqb (get_or s (length s - 2) 0) mark_first in
    let b = eqb (get_or s (length s - 1) 0) mark_second in (
      (λ e. (eqb-true _ _ (and_parts a b (not-false _ e)).0, eqb-true _ _ (and_parts a b (not-false _ e)).1)),
      (λ g. ap not (and_from a b (eq-eqb _ _ g.0) (eq-eqb _ _ g.1))),
    )

-- 4 does not apply: the back distances are slots and slots + 8 × jobs, and the length is slots + 8 × jobs + 12
abbrev pub GoodLayout : List ℕ → Type 0
GoodLayout s =
    (harvest_back s ≡ slots_in s)
    × (first_job_back s ≡ slots_in s + record_length * jobs_in s)
    × (length s ≡ sheet_length (jobs_in s) (slots_in s))

pub layout_words : (s : List ℕ) → (layout_fault s ≡ false) ↔ GoodLayout s
unfolding layout_fault
layout_words s =
    let a = eqb (harvest_back s) (slots_in s) in
    let b = eqb (first_job_back s) (slots_in s + record_length * jobs_in s) in
    let d = eqb (length s) (sheet_length (jobs_in s) (slots_in s)) in (
      (λ e.
          let abd = not-false _ e in
          let ab = (and_parts (a && b) d abd).0 in
          (eqb-true _ _ (and_parts a b ab).0, eqb-true _ _ (and_parts a b ab).1, eqb-true _ _ (and_parts (a && b) d abd).1)),
      (λ g. ap not (and_from (a && b) d (and_from a b (eq-eqb _ _ g.0) (eq-eqb _ _ g.1)) (eq-eqb _ _ g.2))),
    )

-- 5 does not apply: the release is below the deadline, and the deadline is at most slots
abbrev pub GoodWindow : ℕ → Job → Type 0
GoodWindow slots j = (j.release < j.deadline) × (j.deadline ≤ slots)

pub window_words : (slots : ℕ) (j : Job) → (window_fault slots j ≡ false) ↔ GoodWindow slots j
unfolding window_fault
window_words slots j = (
  (λ e. (
    ltb-true j.release j.deadline (not-false _ (or_parts (not (ltb j.release j.deadline)) (ltb slots j.deadline) e).0),
    ltb-false slots j.deadline (or_parts (not (ltb j.release j.deadline)) (ltb slots j.deadline) e).1,
  )),
  (λ g. or_from _ _ (ap not (lt-ltb j.release j.deadline g.0)) (le-ltb slots j.deadline g.1)),
)

-- 6 does not apply: slots wanted from 1 to 1,440, energy at least 1, and the last byte 0
abbrev pub GoodWork : Job → ℕ → Type 0
GoodWork j last = (1 ≤ j.wanted) × (j.wanted ≤ most_slots) × (1 ≤ j.energy) × (last ≡ 0)

pub work_words : (j : Job) (last : ℕ) → (work_fault j last ≡ false) ↔ GoodWork j last
unfolding work_fault
work_words j last =
    let a = eqb j.wanted 0 in
    let b = ltb most_slots j.wanted in
    let d = eqb j.energy 0 in (
      (λ e.
          let abd = (or_parts (a || b || d) (not (eqb last 0)) e).0 in
          let ab = (or_parts (a || b) d abd).0 in (
            above_zero j.wanted (or_parts a b ab).0,
            ltb-false most_slots j.wanted (or_parts a b ab).1,
            above_zero j.energy (or_parts (a || b) d abd).1,
            eqb-true last 0 (not-false _ (or_parts (a || b || d) (not (eqb last 0)) e).1),
          )),
      (λ g.
          or_from _ _
          (or_from _ _ (or_from _ _ (not_zero j.wanted g.0) (le-ltb most_slots j.wanted g.1)) (not_zero j.energy g.2))
          (ap not (eq-eqb last 0 g.3))),
    )
