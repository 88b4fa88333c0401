-- The order of a plan's refusals: each slot asks four tests in turn, and the first that holds anywhere is the answer.
use Prim.Native.Nat.{ℕ, zero, suc, ◌+◌, ◌-◌, ◌*◌, ◌/◌, ◌%◌, ◌≤◌, ◌<◌}
use mathlib.Core.Path.{◌≡◌, refl, sym, ap, ◌∙◌, subst}
use mathlib.Core.Bool.{Bool, true, false, cond, not}
use mathlib.Core.List.{List}
use mathlib.Core.Logic.{◌↔◌, ◌⊎◌, inl, inr, ⊎_elim}
use native.Mathlib.Decide.{dec_lt}
use native.Mathlib.Omega.{arith}
use lib.Dec.{ltb, eqb}
use lib.ListN.{length}
use borrow.Author.Tests.{lt-ltb, le-ltb, ne_eqb}
use Rattle.sheet.specs.Paper.{Check, gives, ◌when◌, ◌else◌, in_order}
use Rattle.sheet.specs.Table.{job_of, Day}
use Rattle.sheet.proofs.Exactly.{either, never_both}
use Rattle.sheet.proofs.Order.{Refuses, else_stays, else_goes_on, in_order_decided}
use Rattle.plan_slots.specs.Numbers.{fault_says}
use Rattle.plan_slots.specs.Plan.{slots_got}
use Rattle.plan_slots.specs.Slots.{slot_says, end_says, slots_say}
use Rattle.plan_slots.specs.declared.PlanFault.{PlanFault}
use Rattle.plan_slots.specs.declared.PlanFault.TheVariants.{WrongLength, NoJob, OutsideWindow, HasAllSlots, LacksCharge, LacksSlots}
use Rattle.plan_slots.proofs.SlotOrder.{fault_at, fault_not_given, given_test, refused_test, test_at, slot_decided, slot_clear, fault_one}
use Rattle.judge.specs.Judge.{plan_says}
use Rattle.judge.specs.Stated.{plan_turn}

-- what 16 asks of job k
abbrev pub lacks_slots : Day → List ℕ → ℕ → Bool
lacks_slots d plan k = ltb (slots_got plan k d.table.slots) (job_of d.table k).wanted

fault_turn : (d : Day) (m i : ℕ) → m < 4 → plan_turn d (fault_at m i) ≡ 4 * i + 1 + m
fault_turn d zero i h = omega arith
fault_turn d (suc zero) i h = omega arith
fault_turn d (suc (suc zero)) i h = omega arith
fault_turn d (suc (suc (suc zero))) i h = omega arith
fault_turn d (suc (suc (suc (suc m)))) i h = absurd (omega arith)

module _ (d : Day) (plan : List ℕ) where
  -- ---- a refusal applies, by itself

  abbrev pub Applies : PlanFault → Type 0
  Applies WrongLength = not (eqb (length plan) d.table.slots) ≡ true
  Applies (NoJob i) = (i < d.table.slots) × (test_at d plan 0 i ≡ true)
  Applies (OutsideWindow i) = (i < d.table.slots) × (test_at d plan 1 i ≡ true)
  Applies (HasAllSlots i) = (i < d.table.slots) × (test_at d plan 2 i ≡ true)
  Applies (LacksCharge i) = (i < d.table.slots) × (test_at d plan 3 i ≡ true)
  Applies (LacksSlots k) = (k < d.table.count) × (lacks_slots d plan k ≡ true)

  abbrev pub FirstIs : PlanFault → Type 0
  FirstIs f = Applies f × ((g : PlanFault) → plan_turn d g < plan_turn d f → Applies g → ⊥)

  at_turn : (m i : ℕ) → m < 4 → i < d.table.slots → test_at d plan m i ≡ true → Applies (fault_at m i)
  at_turn zero i h l e = (l, e)
  at_turn (suc zero) i h l e = (l, e)
  at_turn (suc (suc zero)) i h l e = (l, e)
  at_turn (suc (suc (suc zero))) i h l e = (l, e)
  at_turn (suc (suc (suc (suc m)))) i h l e = absurd (omega arith)

  abbrev pub Decided : Type 0
  Decided =
      ((plan_says d plan ≡ gives tt) × ((f : PlanFault) → Applies f → ⊥))
      ⊎ ((f : PlanFault) × (plan_says d plan ≡ fault_says f) × FirstIs f)

  given_eleven : not (eqb (length plan) d.table.slots) ≡ true → Decided
  unfolding plan_says
  given_eleven e = inr (WrongLength, rw e, (e, none))
    where
      none : (g : PlanFault) → plan_turn d g < 0 → Applies g → ⊥
      none g h a = omega arith

  module _ (fits : not (eqb (length plan) d.table.slots) ≡ false) where
    says_rest : plan_says d plan ≡ (in_order (slot_says d plan) d.table.slots else in_order (end_says d plan) d.table.count)
    unfolding plan_says slots_say
    says_rest = rw fits

    -- the slots before i are clear, and so are the tests of slot i before the m-th
    module _ (i m : ℕ) (clean : (j : ℕ) → j < i → (n : ℕ) → n < 4 → test_at d plan n j ≡ false) (lower : (n : ℕ) → n < m → test_at d plan n i ≡ false) where
      not_earlier : (n j : ℕ) → n < 4 → 4 * j + 1 + n < 4 * i + 1 + m → m < 4 → test_at d plan n j ≡ true → ⊥
      not_earlier n j small h few e =
          elim (dec_lt j i) [
            | yes l ↦ never_both e (clean j l n small)
            | no l ↦ let same : i ≡ j = omega arith in never_both e (subst (λ (s : ℕ). test_at d plan n s ≡ false) same (lower n (omega arith)))
          ]

      none_before : m < 4 → (g : PlanFault) → plan_turn d g < 4 * i + 1 + m → i < d.table.slots → Applies g → ⊥
      none_before few WrongLength h l a = never_both a fits
      none_before few (NoJob j) h l a = not_earlier 0 j (omega arith) (omega arith) few a.1
      none_before few (OutsideWindow j) h l a = not_earlier 1 j (omega arith) (omega arith) few a.1
      none_before few (HasAllSlots j) h l a = not_earlier 2 j (omega arith) (omega arith) few a.1
      none_before few (LacksCharge j) h l a = not_earlier 3 j (omega arith) (omega arith) few a.1
      none_before few (LacksSlots k) h l a = omega arith

    given_slot : (i m : ℕ) → i < d.table.slots → m < 4 → ((j : ℕ) → j < i → slot_says d plan j ≡ gives tt) → ((n : ℕ) → n < m → test_at d plan n i ≡ false)
        → test_at d plan m i ≡ true → plan_says d plan ≡ fault_says (fault_at m i) → Decided
    given_slot i m l few before lower holds says =
        inr (
          fault_at m i,
          says,
          (
            at_turn m i few l holds,
            (λ g h a.
                none_before i m (λ j s. slot_clear d plan j (before j s)) lower few g (subst (λ (n : ℕ). plan_turn d g < n) (fault_turn d m i few) h) l a),
          ),
        )

    module _ (clear : (i : ℕ) → i < d.table.slots → slot_says d plan i ≡ gives tt) where
      no_slot : (m i : ℕ) → m < 4 → i < d.table.slots → test_at d plan m i ≡ true → ⊥
      no_slot m i few l e = never_both e (slot_clear d plan i (clear i l) m few)

      none_at_all : ((k : ℕ) → k < d.table.count → lacks_slots d plan k ≡ false) → (g : PlanFault) → Applies g → ⊥
      none_at_all ends WrongLength a = never_both a fits
      none_at_all ends (NoJob j) a = no_slot 0 j (omega arith) a.0 a.1
      none_at_all ends (OutsideWindow j) a = no_slot 1 j (omega arith) a.0 a.1
      none_at_all ends (HasAllSlots j) a = no_slot 2 j (omega arith) a.0 a.1
      none_at_all ends (LacksCharge j) a = no_slot 3 j (omega arith) a.0 a.1
      none_at_all ends (LacksSlots k) a = never_both a.1 (ends k a.0)

      none_below : (k : ℕ) → ((j : ℕ) → j < k → lacks_slots d plan j ≡ false) → (g : PlanFault) → plan_turn d g < 4 * d.table.slots + 1 + k → Applies g → ⊥
      none_below k ends WrongLength h a = never_both a fits
      none_below k ends (NoJob j) h a = no_slot 0 j (omega arith) a.0 a.1
      none_below k ends (OutsideWindow j) h a = no_slot 1 j (omega arith) a.0 a.1
      none_below k ends (HasAllSlots j) h a = no_slot 2 j (omega arith) a.0 a.1
      none_below k ends (LacksCharge j) h a = no_slot 3 j (omega arith) a.0 a.1
      none_below k ends (LacksSlots j) h a = never_both a.1 (ends j (omega arith))

      by_ends : in_order (slot_says d plan) d.table.slots ≡ gives tt → Decided
      by_ends says =
          let rest = says_rest ∙ else_goes_on (in_order (slot_says d plan) d.table.slots) (in_order (end_says d plan) d.table.count) says in
          ⊎_elim
          (λ c. inl (rest ∙ c.1, none_at_all (λ k h. given_test (LacksSlots k) (lacks_slots d plan k) (c.0 k h))))
          (λ w.
          let k = w.0 in
          let holds = refused_test (LacksSlots k) (lacks_slots d plan k) w.3 in
          inr (
            LacksSlots k,
            rest ∙ w.4 ∙ ap (λ (b : Bool). fault_says (LacksSlots k) when b) holds,
            ((w.1, holds), none_below k (λ j l. given_test (LacksSlots j) (lacks_slots d plan j) (w.2 j l))),
          ))
          (in_order_decided (end_says d plan) d.table.count)

    by_slot : (i : ℕ) → i < d.table.slots → ((j : ℕ) → j < i → slot_says d plan j ≡ gives tt) → Refuses (slot_says d plan i)
        → in_order (slot_says d plan) d.table.slots ≡ slot_says d plan i → Decided
    by_slot i l before refused says =
        ⊎_elim
        (λ c. absurd (subst Refuses c.1 refused))
        (λ w.
        given_slot i w.0 l w.1 before w.2 w.3
        (says_rest
        ∙ ap (λ (c : Check). c else in_order (end_says d plan) d.table.count) says
        ∙ else_stays (slot_says d plan i) _ refused
        ∙ w.4))
        (slot_decided d plan i)

  -- nothing applies, and the plan is accepted; or what applies first is the answer
  pub decided : Decided
  decided =
      ⊎_elim given_eleven
      (λ fits.
      ⊎_elim
      (λ c. by_ends fits c.0 c.1)
      (λ w. by_slot fits w.0 w.1 w.2 w.3 w.4)
      (in_order_decided (slot_says d plan) d.table.slots))
      (either (not (eqb (length plan) d.table.slots)))

  -- ---- at most one refusal is the first

  given_at_turn : ℕ → PlanFault
  given_at_turn n =
      cond (eqb n 0) WrongLength
      (cond (ltb n (4 * d.table.slots + 1)) (fault_at ((n - 1) % 4) ((n - 1) / 4)) (LacksSlots (n - (4 * d.table.slots + 1))))

  slot_back : (m i : ℕ) → m < 4 → i < d.table.slots → given_at_turn (4 * i + 1 + m) ≡ fault_at m i
  unfolding given_at_turn
  slot_back m i few l =
      let h : 4 * i + 1 + m < 4 * d.table.slots + 1 = omega arith in
      let which : (4 * i + 1 + m - 1) % 4 ≡ m = omega arith in
      let where_it_is : (4 * i + 1 + m - 1) / 4 ≡ i = omega arith in
      rw (ne_eqb (4 * i + 1 + m) 0 (λ e. omega arith), lt-ltb _ _ h, which, where_it_is)

  turn_back : (f : PlanFault) → Applies f → given_at_turn (plan_turn d f) ≡ f
  unfolding given_at_turn
  turn_back WrongLength a = refl
  turn_back (NoJob i) a = ap given_at_turn (fault_turn d 0 i (omega arith)) ∙ slot_back 0 i (omega arith) a.0
  turn_back (OutsideWindow i) a = ap given_at_turn (fault_turn d 1 i (omega arith)) ∙ slot_back 1 i (omega arith) a.0
  turn_back (HasAllSlots i) a = ap given_at_turn (fault_turn d 2 i (omega arith)) ∙ slot_back 2 i (omega arith) a.0
  turn_back (LacksCharge i) a = ap given_at_turn (fault_turn d 3 i (omega arith)) ∙ slot_back 3 i (omega arith) a.0
  turn_back (LacksSlots k) a =
      let h : 4 * d.table.slots + 1 ≤ 4 * d.table.slots + 1 + k = omega arith in
      let which : 4 * d.table.slots + 1 + k - (4 * d.table.slots + 1) ≡ k = omega arith in
      rw (ne_eqb (4 * d.table.slots + 1 + k) 0 (λ e. omega arith), le-ltb _ _ h, which)

  first_one : (f g : PlanFault) → FirstIs f → FirstIs g → f ≡ g
  first_one f g a b =
      elim (dec_lt (plan_turn d f) (plan_turn d g)) [
        | yes l ↦ absurd (b.1 f l a.0)
        | no l ↦
            elim (dec_lt (plan_turn d g) (plan_turn d f)) [
              | yes m ↦ absurd (a.1 g m b.0)
              | no m ↦
                  let same : plan_turn d f ≡ plan_turn d g = omega arith in
                  sym (turn_back f a.0) ∙ ap given_at_turn same ∙ turn_back g b.0
            ]
      ]

-- ---- exactly when

pub refused_exactly : (d : Day) (plan : List ℕ) (f : PlanFault) → (plan_says d plan ≡ fault_says f) ↔ FirstIs d plan f
refused_exactly d plan f = (
  (λ e.
      ⊎_elim
      (λ c. absurd (fault_not_given f (sym e ∙ c.0)))
      (λ w. subst (FirstIs d plan) (fault_one w.0 f (sym w.1 ∙ e)) w.2)
      (decided d plan)),
  (λ first.
      ⊎_elim
      (λ c. absurd (c.1 f first.0))
      (λ w. w.1 ∙ ap fault_says (first_one d plan w.0 f w.2 first))
      (decided d plan)),
)

pub accepted_when_clear : (d : Day) (plan : List ℕ) → (plan_says d plan ≡ gives tt) ↔ ((f : PlanFault) → Applies d plan f → ⊥)
accepted_when_clear d plan = (
  (λ e. ⊎_elim (λ c. c.1) (λ w. absurd (fault_not_given w.0 (sym w.1 ∙ e))) (decided d plan)),
  (λ none. ⊎_elim (λ c. c.0) (λ w. absurd (none w.0 w.2.0)) (decided d plan)),
)
