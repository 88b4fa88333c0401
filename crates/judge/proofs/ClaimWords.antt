-- A claim in words: 17 and 18, each exactly when it is stated, and acceptance exactly when the interval is overloaded.
use Prim.Native.Nat.{ℕ, ◌≤◌, ◌<◌}
use mathlib.Core.Path.{◌≡◌, refl, sym, ap, ◌∙◌, subst}
use mathlib.Core.Bool.{Bool, true, false, cond, not, ◌||◌}
use mathlib.Core.Logic.Iff
use mathlib.Core.Logic.{◌↔◌, inl, inr, ⊎_elim}
use native.Mathlib.Decide.{dec_lt, dec_le, ℕ_discrete}
use native.Mathlib.Omega.{arith}
use lib.Dec.{ltb, eqb}
use borrow.Author.Tests.{lt-ltb, le-ltb, ltb-true, ltb-false, eq-eqb, ne_eqb, not-true, not-false}
use Rattle.std.proofs.lemmas.Bool.{or_from, or_parts}
use Rattle.sheet.specs.Paper.{Check, gives, ◌when◌, ◌else◌}
use Rattle.sheet.specs.Table.{Day}
use Rattle.sheet.proofs.Exactly.{either, never_both}
use Rattle.sheet.proofs.Order.{Refuses}
use Rattle.interval.specs.Demand.{kind_number, overloaded}
use Rattle.interval.specs.declared.Kind.{Kind}
use Rattle.interval.specs.declared.Kind.TheVariants.{Time, Energy}
use Rattle.judge.specs.Evidence.{AcceptableClaim}
use Rattle.judge.specs.Judge.{kind_of, claim_fault, claim_says}
use Rattle.judge.specs.Numbers.{no_interval, not_overloaded}
use Rattle.judge.specs.Stated.{ClaimStated, NotOverloadedStated}
use Rattle.judge.proofs.Promised.{claim_in_day}

-- ---- the two numbers of a claim's kind, as tests

pub is_kind : (number : ℕ) → number ≤ 1 → (eqb number 0 || eqb number 1) ≡ true
is_kind number h =
    elim (ℕ_discrete number 0) [
      | yes e ↦ rw (eq-eqb number 0 e)
      | no e ↦ rw (ne_eqb number 0 e, eq-eqb number 1 (omega arith))
    ]

pub no_kind : (number : ℕ) → 1 < number → (eqb number 0 || eqb number 1) ≡ false
no_kind number h = rw (ne_eqb number 0 (λ e. omega arith), ne_eqb number 1 (λ e. omega arith))

-- ---- a claim in words

pub kind_back : (kind : Kind) → kind_of (kind_number kind) ≡ kind
kind_back Time = refl
kind_back Energy = refl

pub kind_meant_lem : (number : ℕ) (kind : Kind) → kind_number kind ≡ number → kind_of number ≡ kind
kind_meant_lem number kind e = ap kind_of (sym e) ∙ kind_back kind

pub kind_number_lem : (kind : Kind) → kind_number kind ≤ 1
kind_number_lem Time = omega arith
kind_number_lem Energy = omega arith

pub kind_of_number : (number : ℕ) → number ≤ 1 → kind_number (kind_of number) ≡ number
kind_of_number number h =
    elim (ℕ_discrete number 0) [
      | yes e ↦ ap kind_number (ap (λ (b : Bool). cond b Time Energy) (eq-eqb number 0 e)) ∙ sym e
      | no e ↦
          let one : 1 ≡ number = omega arith in
          ap kind_number (ap (λ (b : Bool). cond b Time Energy) (ne_eqb number 0 e)) ∙ one
    ]

-- ---- 17 as the tests of a claim's numbers tell it

module _ (slots number from to : ℕ) where
  pub fault_by_kind : 1 < number → claim_fault slots number from to ≡ true
  unfolding claim_fault
  fault_by_kind none = rw (no_kind number none)

  module _ (kind : Kind) (has : kind_number kind ≡ number) where
    one_of_two : number ≤ 1
    one_of_two = subst (λ (n : ℕ). n ≤ 1) has (kind_number_lem kind)

    pub fault_by_order : to ≤ from → claim_fault slots number from to ≡ true
    unfolding claim_fault
    fault_by_order turned = rw (is_kind number one_of_two, le-ltb _ _ turned)

    pub fault_by_end : from < to → slots < to → claim_fault slots number from to ≡ true
    unfolding claim_fault
    fault_by_end in_order past = rw (is_kind number one_of_two, lt-ltb _ _ in_order, lt-ltb _ _ past)

    pub no_fault : from < to → to ≤ slots → claim_fault slots number from to ≡ false
    unfolding claim_fault
    no_fault in_order in_day = rw (is_kind number one_of_two, lt-ltb _ _ in_order, le-ltb _ _ in_day)

-- 17 does not apply exactly to an interval of the day, claimed in one of the two kinds
pub record IsInterval (slots number from to : ℕ) : Type 0 where
  pub a_kind : number ≤ 1
  pub in_order : from < to
  pub in_day : to ≤ slots

-- 17 is stated exactly of what is none
pub stated_words : (slots number from to : ℕ) → (IsInterval slots number from to → ⊥) ↔ ClaimStated slots number from to
stated_words slots number from to = (
  (λ none.
      elim (dec_le number 1) [
        | no h ↦ inl ((λ e. omega arith), (λ e. omega arith))
        | yes h ↦
            elim (dec_lt from to) [
              | no l ↦ inr (inl (omega arith))
              | yes l ↦
                  elim (dec_le to slots) [
                    | no m ↦ inr (inr (omega arith))
                    | yes m ↦ absurd (none (record { a_kind = h; in_order = l; in_day = m }))
                  ]
            ]
      ]),
  (λ stated i.
      let kind = i.a_kind in
      let order = i.in_order in
      let day = i.in_day in
      ⊎_elim (λ w. let zero_is = w.0 in let one_is = w.1 in omega arith) (⊎_elim (λ h. omega arith) (λ h. omega arith)) stated),
)

pub is_interval : (slots number from to : ℕ) → (ClaimStated slots number from to → ⊥) ↔ IsInterval slots number from to
is_interval slots number from to = (
  (λ none.
      elim (dec_le number 1) [
        | no h ↦ absurd (none (inl ((λ e. omega arith), (λ e. omega arith))))
        | yes h ↦
            elim (dec_lt from to) [
              | no l ↦ absurd (none (inr (inl (omega arith))))
              | yes l ↦
                  elim (dec_le to slots) [
                    | no m ↦ absurd (none (inr (inr (omega arith))))
                    | yes m ↦ record { a_kind = h; in_order = l; in_day = m }
                  ]
            ]
      ]),
  (λ i stated. (stated_words slots number from to).1 stated i),
)

pub interval_words : (slots number from to : ℕ) → (claim_fault slots number from to ≡ false) ↔ IsInterval slots number from to
unfolding claim_fault
interval_words slots number from to = (
  (λ e.
      let days = claim_in_day slots number from to e in
      let kind = not (eqb number 0 || eqb number 1) in
      let is = not-false _ (or_parts kind (not (ltb from to)) (or_parts (kind || not (ltb from to)) (ltb slots to) e).0).0 in
      record { a_kind = small number is; in_order = days.0; in_day = days.1 }),
  (λ i.
      or_from _ _
      (or_from _ _ (ap not (is_kind number i.a_kind)) (ap not (lt-ltb from to i.in_order)))
      (le-ltb slots to i.in_day)),
)
  where
    small : (n : ℕ) → (eqb n 0 || eqb n 1) ≡ true → n ≤ 1
    small n e =
        elim (dec_le n 1) [
          | yes h ↦ h
          | no h ↦ absurd (never_both e (no_kind n (omega arith)))
        ]

module _ (d : Day) (number from to : ℕ) where
  -- accepted: an interval of the day that is overloaded in its kind
  pub claim_accepted : (claim_says d number from to ≡ gives tt) ↔ AcceptableClaim d number from to
  unfolding claim_says overloaded
  claim_accepted = (
    (λ e.
        let both = two _ _ e in
        let i = (interval_words d.table.slots number from to).0 both.0 in
        record {
          kind = kind_of number;
          kind_is = kind_of_number number i.a_kind;
          in_order = i.in_order;
          in_day = i.in_day;
          overloaded = ltb-true _ _ (not-false _ both.1);
        }),
    (λ a.
        let number_is = a.kind_is in
        let kind_is : kind_of number ≡ a.kind = kind_meant_lem number a.kind number_is in
        let most = kind_number_lem a.kind in
        let clear = (interval_words d.table.slots number from to).1 (record { a_kind = omega arith; in_order = a.in_order; in_day = a.in_day }) in
        rw (clear, kind_is, lt-ltb _ _ a.overloaded)),
  )
    where
      two : (a b : Bool) → (no_interval when a else not_overloaded when b) ≡ gives tt → (a ≡ false) × (b ≡ false)
      two true b e = absurd (subst (λ (c : Check). Refuses c) e tt)
      two false true e = absurd (subst (λ (c : Check). Refuses c) e tt)
      two false false e = (refl, refl)

  pub claim_seventeen : (claim_says d number from to ≡ no_interval) ↔ ClaimStated d.table.slots number from to
  unfolding claim_says
  claim_seventeen = Iff.trans none (stated_words d.table.slots number from to)
    where
      first : (a b : Bool) → (no_interval when a else not_overloaded when b) ≡ no_interval → a ≡ true
      first true b e = refl
      first false true e = let n : ◌≡◌ {A = ℕ} 18 17 = cc in absurd (omega arith)
      first false false e = absurd (subst (λ (c : Check). Refuses c) (sym e) tt)

      none : (claim_says d number from to ≡ no_interval) ↔ (IsInterval d.table.slots number from to → ⊥)
      none = (
        (λ e i. never_both (first (claim_fault d.table.slots number from to) (not (overloaded (kind_of number) d from to)) e) ((interval_words d.table.slots number from to).1 i)),
        (λ h. ⊎_elim (λ is. rw is) (λ is. absurd (h ((interval_words d.table.slots number from to).0 is))) (either (claim_fault d.table.slots number from to))),
      )

  pub claim_eighteen : (claim_says d number from to ≡ not_overloaded) ↔ ((ClaimStated d.table.slots number from to → ⊥) × NotOverloadedStated d number from to)
  unfolding claim_says overloaded
  claim_eighteen = (
    (λ e.
        let both = second _ _ e in
        let i = (interval_words d.table.slots number from to).0 both.0 in
        ((is_interval d.table.slots number from to).1 i, record { kind = kind_of number; kind_is = kind_of_number number i.a_kind; within_supply = ltb-false _ _ (not-true _ both.1) })),
    (λ w.
        let kind_is : kind_of number ≡ w.1.kind = kind_meant_lem number w.1.kind w.1.kind_is in
        rw ((interval_words d.table.slots number from to).1 ((is_interval d.table.slots number from to).0 w.0), kind_is, le-ltb _ _ w.1.within_supply)),
  )
    where
      second : (a b : Bool) → (no_interval when a else not_overloaded when b) ≡ not_overloaded → (a ≡ false) × (b ≡ true)
      second true b e = let n : ◌≡◌ {A = ℕ} 17 18 = cc in absurd (omega arith)
      second false true e = (refl, refl)
      second false false e = absurd (subst (λ (c : Check). Refuses c) (sym e) tt)
