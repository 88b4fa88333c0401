-- The order of refusals, once for sheets and tables: what `in_turn` answers is the first refusal that applies.
use Prim.Native.Nat.{ℕ, zero, suc, ◌+◌, ◌-◌, ◌*◌, ◌/◌, ◌%◌, ◌<◌}
use mathlib.Core.Path.{◌≡◌, refl, sym, ap, ◌∙◌, subst}
use mathlib.Core.Bool.{Bool, true, false, cond, true≢false}
use mathlib.Core.Logic.{◌↔◌, ◌⊎◌, inl, inr, ⊎_elim}
use native.Mathlib.Nat.{not-suc-le-zero}
use native.Mathlib.Decide.{dec_lt}
use native.Mathlib.Omega.{arith}
use lib.Dec.{eqb}
use borrow.Author.Tests.{eq-eqb, ne_eqb}
pub use Rattle.std.proofs.lemmas.Bool.{cases_Bool as either}
use Rattle.sheet.specs.Paper.{Check, gives, in_order}
use Rattle.sheet.specs.Refusals.{Faults, record_says, in_turn, refusal_says}
use Rattle.sheet.specs.WellFormed.{turn_of, GivenFirst}
use Rattle.sheet.specs.declared.Refusal.{Refusal}
use Rattle.sheet.specs.declared.Refusal.TheVariants.{Short, Mark, Counts, Layout, Window, Work}
use Rattle.sheet.proofs.Refusals.{refusal_one, own_given}

pub never_both : {b : Bool} → b ≡ true → b ≡ false → ⊥
never_both p q = true≢false (sym p ∙ q)

-- a refusal applies, by itself
abbrev pub RefusalApplies : Faults → Refusal → Type 0
RefusalApplies f Short = f.short ≡ true
RefusalApplies f Mark = f.mark ≡ true
RefusalApplies f Counts = f.counts ≡ true
RefusalApplies f Layout = f.layout ≡ true
RefusalApplies f (Window k) = (k < f.records) × (f.window k ≡ true)
RefusalApplies f (Work k) = (k < f.records) × (f.work k ≡ true)

-- ---- the records

module _ (window work : ℕ → Bool) where
  abbrev record_is : ℕ → Check
  record_is k = record_says (window k) (work k) k

  abbrev Clean : ℕ → Type 0
  Clean n = (k : ℕ) → k < n → (window k ≡ false) × (work k ≡ false)

  abbrev FirstBad : ℕ → ℕ → Type 0
  FirstBad n k =
      ((window k ≡ true) × (in_order record_is n ≡ refusal_says (Window k))) ⊎ ((window k ≡ false) × (work k ≡ true) × (in_order record_is n ≡ refusal_says (Work k)))

  clean_says : (n : ℕ) → Clean n → in_order record_is n ≡ gives tt
  unfolding in_order
  clean_says zero clean = refl
  clean_says (suc n) clean =
      let before : in_order record_is n ≡ gives tt = clean_says n (λ k h. clean k (omega arith)) in
      let last = clean n (omega arith) in
      rw (before, last.0, last.1)

  records_decided : (n : ℕ) → (Clean n × (in_order record_is n ≡ gives tt)) ⊎ ((k : ℕ) × (k < n) × Clean k × FirstBad n k)
  unfolding in_order
  records_decided zero = inl ((λ k h. absurd (not-suc-le-zero h)), refl)
  records_decided (suc n) = go (records_decided n)
    where
      one : Clean n → in_order record_is n ≡ gives tt → (Clean (suc n) × (in_order record_is (suc n) ≡ gives tt)) ⊎ ((k : ℕ) × (k < suc n) × Clean k × FirstBad (suc n) k)
      one clean says =
          ⊎_elim
          (λ w. inr (n, omega arith, clean, inl (w, rw (says, w))))
          (λ w.
          ⊎_elim
          (λ v. inr (n, omega arith, clean, inr (w, v, rw (says, w, v))))
          (λ v.
          inl (
            (λ k h.
                elim (dec_lt k n) [
                  | yes l ↦ clean k l
                  | no l ↦ let same : n ≡ k = omega arith in subst (λ (j : ℕ). (window j ≡ false) × (work j ≡ false)) same (w, v)
                ]),
            rw (says, w, v),
          ))
          (either (work n)))
          (either (window n))

      more : (k : ℕ) → FirstBad n k → FirstBad (suc n) k
      more k b =
          ⊎_elim
          (λ w. inl (w.0, rw w.1))
          (λ w. inr (w.0, w.1, rw w.2))
          b

      go : (Clean n × (in_order record_is n ≡ gives tt)) ⊎ ((k : ℕ) × (k < n) × Clean k × FirstBad n k)
          → (Clean (suc n) × (in_order record_is (suc n) ≡ gives tt)) ⊎ ((k : ℕ) × (k < suc n) × Clean k × FirstBad (suc n) k)
      go (inl c) = one c.0 c.1
      go (inr b) = let l = b.1 in inr (b.0, omega arith, b.2, more b.0 b.3)

-- ---- all of it

abbrev pub Clear : Faults → Type 0
Clear f = (f.short ≡ false) × (f.mark ≡ false) × (f.counts ≡ false) × (f.layout ≡ false) × ((k : ℕ) → k < f.records → (f.window k ≡ false) × (f.work k ≡ false))

-- what comes before a turn
earlier_than_short : (q : Refusal) → turn_of q < 1 → ⊥
earlier_than_short Short h = omega arith
earlier_than_short Mark h = omega arith
earlier_than_short Counts h = omega arith
earlier_than_short Layout h = omega arith
earlier_than_short (Window k) h = omega arith
earlier_than_short (Work k) h = omega arith

module _ (f : Faults) where
  abbrev Decided : Type 0
  Decided = ((in_turn f ≡ gives tt) × Clear f) ⊎ ((r : Refusal) × (in_turn f ≡ refusal_says r) × GivenFirst (RefusalApplies f) r)

  given_short : f.short ≡ true → Decided
  unfolding in_turn
  given_short e = inr (Short, rw e, (e, (λ q h a. earlier_than_short q h)))

  given_mark : f.short ≡ false → f.mark ≡ true → Decided
  unfolding in_turn
  given_mark a e = inr (Mark, rw (a, e), (e, earlier))
    where
      earlier : (q : Refusal) → turn_of q < 2 → RefusalApplies f q → ⊥
      earlier Short h p = never_both p a
      earlier Mark h p = omega arith
      earlier Counts h p = omega arith
      earlier Layout h p = omega arith
      earlier (Window k) h p = omega arith
      earlier (Work k) h p = omega arith

  given_counts : f.short ≡ false → f.mark ≡ false → f.counts ≡ true → Decided
  unfolding in_turn
  given_counts a b e = inr (Counts, rw (a, b, e), (e, earlier))
    where
      earlier : (q : Refusal) → turn_of q < 3 → RefusalApplies f q → ⊥
      earlier Short h p = never_both p a
      earlier Mark h p = never_both p b
      earlier Counts h p = omega arith
      earlier Layout h p = omega arith
      earlier (Window k) h p = omega arith
      earlier (Work k) h p = omega arith

  given_layout : f.short ≡ false → f.mark ≡ false → f.counts ≡ false → f.layout ≡ true → Decided
  unfolding in_turn
  given_layout a b d e = inr (Layout, rw (a, b, d, e), (e, earlier))
    where
      earlier : (q : Refusal) → turn_of q < 4 → RefusalApplies f q → ⊥
      earlier Short h p = never_both p a
      earlier Mark h p = never_both p b
      earlier Counts h p = never_both p d
      earlier Layout h p = omega arith
      earlier (Window k) h p = omega arith
      earlier (Work k) h p = omega arith

  module _ (a : f.short ≡ false) (b : f.mark ≡ false) (d : f.counts ≡ false) (e : f.layout ≡ false) where
    given_record : (k : ℕ) → k < f.records → Clean f.window f.work k → FirstBad f.window f.work f.records k → Decided
    unfolding in_turn
    given_record k h clean (inl w) = inr (Window k, rw (a, b, d, e) w.1, ((h, w.0), earlier))
      where
        earlier : (q : Refusal) → turn_of q < turn_of (Window k) → RefusalApplies f q → ⊥
        earlier Short l p = never_both p a
        earlier Mark l p = never_both p b
        earlier Counts l p = never_both p d
        earlier Layout l p = never_both p e
        earlier (Window j) l p = never_both p.1 (clean j (omega arith)).0
        earlier (Work j) l p = never_both p.1 (clean j (omega arith)).1
    given_record k h clean (inr w) = inr (Work k, rw (a, b, d, e) w.2, ((h, w.1), earlier))
      where
        earlier : (q : Refusal) → turn_of q < turn_of (Work k) → RefusalApplies f q → ⊥
        earlier Short l p = never_both p a
        earlier Mark l p = never_both p b
        earlier Counts l p = never_both p d
        earlier Layout l p = never_both p e
        earlier (Window j) l p =
            elim (dec_lt j k) [
              | yes i ↦ never_both p.1 (clean j i).0
              | no i ↦ let same : k ≡ j = omega arith in never_both p.1 (subst (λ (n : ℕ). f.window n ≡ false) same w.0)
            ]
        earlier (Work j) l p = never_both p.1 (clean j (omega arith)).1

    by_records : Decided
    unfolding in_turn
    by_records =
        ⊎_elim
        (λ c. inl (rw (a, b, d, e) c.1, (a, b, d, e, c.0)))
        (λ c. given_record c.0 c.1 c.2 c.3)
        (records_decided f.window f.work f.records)

  decided : Decided
  decided =
      ⊎_elim given_short
      (λ a.
      ⊎_elim (given_mark a)
      (λ b.
      ⊎_elim (given_counts a b)
      (λ d.
      ⊎_elim (given_layout a b d)
      (λ e. by_records a b d e)
      (either f.layout))
      (either f.counts))
      (either f.mark))
      (either f.short)

-- ---- a refusal is told by its turn

given_at_turn : ℕ → Refusal
given_at_turn n =
    cond (eqb n 1) Short (cond (eqb n 2) Mark (cond (eqb n 3) Counts (cond (eqb n 4) Layout
    (cond (eqb (n % 2) 1) (Window ((n - 5) / 2)) (Work ((n - 6) / 2))))))

turn_back : (r : Refusal) → given_at_turn (turn_of r) ≡ r
unfolding given_at_turn
turn_back Short = refl
turn_back Mark = refl
turn_back Counts = refl
turn_back Layout = refl
turn_back (Window k) =
    let half : (5 + 2 * k - 5) / 2 ≡ k = omega arith in
    rw (
      ne_eqb (5 + 2 * k) 1 (λ e. omega arith),
      ne_eqb (5 + 2 * k) 2 (λ e. omega arith),
      ne_eqb (5 + 2 * k) 3 (λ e. omega arith),
      ne_eqb (5 + 2 * k) 4 (λ e. omega arith),
      eq-eqb ((5 + 2 * k) % 2) 1 (omega arith),
    )
    (ap Window half)
turn_back (Work k) =
    let half : (6 + 2 * k - 6) / 2 ≡ k = omega arith in
    rw (
      ne_eqb (6 + 2 * k) 1 (λ e. omega arith),
      ne_eqb (6 + 2 * k) 2 (λ e. omega arith),
      ne_eqb (6 + 2 * k) 3 (λ e. omega arith),
      ne_eqb (6 + 2 * k) 4 (λ e. omega arith),
      ne_eqb ((6 + 2 * k) % 2) 1 (λ e. omega arith),
    )
    (ap Work half)

-- two refusals whose turn is the same are one
pub turn_one : (r q : Refusal) → turn_of r ≡ turn_of q → r ≡ q
turn_one r q e = sym (turn_back r) ∙ ap given_at_turn e ∙ turn_back q

-- at most one refusal is the first
pub first_one : (States : Refusal → Type 0) (r q : Refusal) → GivenFirst States r → GivenFirst States q → r ≡ q
first_one States r q g h =
    elim (dec_lt (turn_of r) (turn_of q)) [
      | yes l ↦ absurd (h.1 r l g.0)
      | no l ↦
          elim (dec_lt (turn_of q) (turn_of r)) [
            | yes m ↦ absurd (g.1 q m h.0)
            | no m ↦ turn_one r q (omega arith)
          ]
    ]

-- ---- exactly when

clear_none : (f : Faults) → Clear f → (r : Refusal) → RefusalApplies f r → ⊥
clear_none f c Short p = never_both p c.0
clear_none f c Mark p = never_both p c.1
clear_none f c Counts p = never_both p c.2
clear_none f c Layout p = never_both p c.3
clear_none f c (Window k) p = never_both p.1 (c.4 k p.0).0
clear_none f c (Work k) p = never_both p.1 (c.4 k p.0).1

-- the answer is this refusal exactly when it applies and no earlier one does
pub refused_exactly : (f : Faults) (r : Refusal) → (in_turn f ≡ refusal_says r) ↔ GivenFirst (RefusalApplies f) r
refused_exactly f r = (
  (λ e.
      ⊎_elim
      (λ c. absurd (own_given tt r (sym c.0 ∙ e)))
      (λ c. subst (GivenFirst (RefusalApplies f)) (refusal_one _ c.0 r (sym c.1 ∙ e)) c.2)
      (decided f)),
  (λ g.
      ⊎_elim
      (λ c. absurd (clear_none f c.1 r g.0))
      (λ c. c.1 ∙ ap refusal_says (first_one (RefusalApplies f) c.0 r c.2 g))
      (decided f)),
)

-- the answer is leave to go on exactly when nothing applies
pub accepted_exactly : (f : Faults) → (in_turn f ≡ gives tt) ↔ Clear f
accepted_exactly f = (
  (λ e.
      ⊎_elim
      (λ c. c.1)
      (λ c. absurd (own_given tt c.0 (sym e ∙ c.1)))
      (decided f)),
  (λ clear.
      ⊎_elim
      (λ c. c.0)
      (λ c. absurd (clear_none f clear c.0 c.2.0))
      (decided f)),
)

-- leave to go on, or one of the refusals
pub leave_or_refusal : (f : Faults) → (in_turn f ≡ gives tt) ⊎ ((r : Refusal) × (in_turn f ≡ refusal_says r))
leave_or_refusal f = ⊎_elim (λ c. inl c.0) (λ c. inr (c.0, c.1)) (decided f)
