-- The order of a slot's refusals: it asks four tests in turn, and the first that holds is its answer. Then the tests of 12 and 13 in words.
use Prim.Native.Nat.{ℕ, zero, suc, ◌+◌, ◌≤◌, ◌<◌}
use mathlib.Core.Path.{◌≡◌, refl, sym, ap, ◌∙◌, subst}
use mathlib.Core.Bool.{Bool, true, false, cond, not, ◌&&◌}
use mathlib.Core.List.{List}
use mathlib.Core.Logic.{◌↔◌, ◌⊎◌, inl, inr, ⊎_elim}
use native.Mathlib.Omega.{arith}
use lib.Dec.{ltb, leb, eqb}
use Rattle.std.specs.Prelude.{⊤, Result, Ok, Err}
use Rattle.std.proofs.lemmas.Bool.Decides.{nat_tests}
use Rattle.sheet.specs.Paper.{Check, gives, refuses, refuses_at, ◌when◌, ◌else◌, in_order, number_of}
use Rattle.sheet.specs.Sums.{harvest_at}
use Rattle.sheet.specs.Table.{idle_byte, job_of, Day}
use Rattle.sheet.proofs.Order.{Refuses, in_order_decided}
use Rattle.plan_slots.specs.Numbers.{fault_says, finding_says}
use Rattle.plan_slots.specs.Plan.{byte_of, names_job, slots_got, level_at}
use Rattle.plan_slots.specs.Slots.{names_nothing, outside_window, has_all_slots, lacks_charge, job_says, slot_says}
use Rattle.plan_slots.specs.declared.PlanFault.{PlanFault}
use Rattle.plan_slots.specs.declared.PlanFault.TheVariants.{WrongLength, NoJob, OutsideWindow, HasAllSlots, LacksCharge, LacksSlots}

-- a slot's refusals by the turn that they have in it, 12 first
abbrev pub fault_at : ℕ → ℕ → PlanFault
fault_at zero i = NoJob i
fault_at (suc zero) i = OutsideWindow i
fault_at (suc (suc zero)) i = HasAllSlots i
fault_at (suc (suc (suc m))) i = LacksCharge i

-- a refusal refuses, so what its check gave tells the test
pub fault_refuses : (f : PlanFault) → Refuses (fault_says f)
fault_refuses WrongLength = tt
fault_refuses (NoJob i) = tt
fault_refuses (OutsideWindow i) = tt
fault_refuses (HasAllSlots i) = tt
fault_refuses (LacksCharge i) = tt
fault_refuses (LacksSlots k) = tt

pub fault_not_given : (f : PlanFault) → fault_says f ≡ gives tt → ⊥
fault_not_given f e = subst Refuses e (fault_refuses f)

pub given_test : (f : PlanFault) (b : Bool) → (fault_says f when b) ≡ gives tt → b ≡ false
given_test f true e = absurd (fault_not_given f e)
given_test f false e = refl

pub refused_test : (f : PlanFault) (b : Bool) → Refuses (fault_says f when b) → b ≡ true
refused_test f true r = refl
refused_test f false r = absurd r

module _ (d : Day) (plan : List ℕ) where
  -- ---- the tests of a slot

  unfoldable pub test_at : ℕ → ℕ → Bool
  test_at zero i = names_nothing d plan i
  test_at (suc zero) i = names_job d plan i && outside_window (job_of d.table (byte_of plan i)) i
  test_at (suc (suc zero)) i = names_job d plan i && has_all_slots (job_of d.table (byte_of plan i)) (slots_got plan (byte_of plan i) i)
  test_at (suc (suc (suc m))) i = names_job d plan i && lacks_charge (job_of d.table (byte_of plan i)) (level_at d plan i + harvest_at d.harvest i)

  in_slot : ℕ → ℕ → Check
  in_slot i m = fault_says (fault_at m i) when test_at m i

  four_tests : (i : ℕ) (a n b d e : Bool)
      → (fault_says (NoJob i) when a
      else cond n (fault_says (OutsideWindow i) when b else fault_says (HasAllSlots i) when d else fault_says (LacksCharge i) when e) (gives tt))
      ≡ (((fault_says (NoJob i) when a else fault_says (OutsideWindow i) when (n && b)) else fault_says (HasAllSlots i) when (n && d)) else fault_says (LacksCharge i) when (n && e))
  four_tests i true n b d e = refl
  four_tests i false true true d e = refl
  four_tests i false true false true e = refl
  four_tests i false true false false e = refl
  four_tests i false false b d e = refl

  slot_in_turn : (i : ℕ) → slot_says d plan i ≡ in_order (in_slot i) 4
  unfolding slot_says job_says in_order in_slot test_at
  slot_in_turn i =
      four_tests i (names_nothing d plan i) (names_job d plan i) (outside_window (job_of d.table (byte_of plan i)) i)
      (has_all_slots (job_of d.table (byte_of plan i)) (slots_got plan (byte_of plan i) i))
      (lacks_charge (job_of d.table (byte_of plan i)) (level_at d plan i + harvest_at d.harvest i))

  -- a slot refuses nothing, and no test holds; or the first that holds is the answer
  abbrev pub SlotDecided : ℕ → Type 0
  SlotDecided i =
      (((m : ℕ) → m < 4 → test_at m i ≡ false) × (slot_says d plan i ≡ gives tt))
      ⊎ ((m : ℕ) × (m < 4) × ((n : ℕ) → n < m → test_at n i ≡ false) × (test_at m i ≡ true) × (slot_says d plan i ≡ fault_says (fault_at m i)))

  pub slot_decided : (i : ℕ) → SlotDecided i
  unfolding in_slot
  slot_decided i =
      ⊎_elim
      (λ c. inl ((λ m h. given_test (fault_at m i) (test_at m i) (c.0 m h)), slot_in_turn i ∙ c.1))
      (λ w.
      let m = w.0 in
      let holds = refused_test (fault_at m i) (test_at m i) w.3 in
      inr (
        m,
        w.1,
        (λ n l. given_test (fault_at n i) (test_at n i) (w.2 n l)),
        holds,
        slot_in_turn i ∙ w.4 ∙ ap (λ (b : Bool). fault_says (fault_at m i) when b) holds,
      ))
      (in_order_decided (in_slot i) 4)

  pub slot_clear : (i : ℕ) → slot_says d plan i ≡ gives tt → (m : ℕ) → m < 4 → test_at m i ≡ false
  slot_clear i e =
      ⊎_elim (λ c. c.0) (λ w. absurd (fault_not_given (fault_at w.0 i) (sym w.4 ∙ e))) (slot_decided i)

-- ---- a refusal is told by its number and place

unfoldable pub fault_meant : Check → PlanFault
fault_meant (gives x) = WrongLength
fault_meant (refuses n) = WrongLength
fault_meant (refuses_at n k) =
    cond (eqb n (number_of (fault_says (NoJob k)))) (NoJob k)
    (cond (eqb n (number_of (fault_says (OutsideWindow k)))) (OutsideWindow k)
    (cond (eqb n (number_of (fault_says (HasAllSlots k)))) (HasAllSlots k)
    (cond (eqb n (number_of (fault_says (LacksCharge k)))) (LacksCharge k) (LacksSlots k))))

pub fault_meant_lem : (f : PlanFault) → fault_meant (fault_says f) ≡ f
unfolding fault_meant
fault_meant_lem WrongLength = refl
fault_meant_lem (NoJob i) = refl
fault_meant_lem (OutsideWindow i) = refl
fault_meant_lem (HasAllSlots i) = refl
fault_meant_lem (LacksCharge i) = refl
fault_meant_lem (LacksSlots k) = refl

-- two refusals that the paper writes alike are one
pub fault_one : (f g : PlanFault) → fault_says f ≡ fault_says g → f ≡ g
fault_one f g e = sym (fault_meant_lem f) ∙ ap fault_meant e ∙ fault_meant_lem g

-- and any two findings of which the same is said
pub one_finding : (x y : Result ⊤ PlanFault) → finding_says x ≡ finding_says y → x ≡ y
one_finding (Ok _) (Ok _) e = refl
one_finding (Ok _) (Err g) e = absurd (fault_not_given g (sym e))
one_finding (Err f) (Ok _) e = absurd (fault_not_given f e)
one_finding (Err f) (Err g) e = ap Err (fault_one f g e)

-- ---- the tests in words

-- 12
pub no_job_words : (d : Day) (plan : List ℕ) (i : ℕ) → (names_nothing d plan i ≡ true) ↔ ((byte_of plan i ≡ idle_byte → ⊥) × (d.table.count ≤ byte_of plan i))
unfolding names_nothing
no_job_words d plan i = (λ e. grind (arith, nat_tests), λ w. grind (arith, nat_tests))

-- 13
pub outside_words : (release deadline i : ℕ) → (not (leb release i && ltb i deadline) ≡ true) ↔ ((i < release) ⊎ (deadline ≤ i))
outside_words release deadline i = (λ e. grind (arith, nat_tests), λ s. grind (arith, nat_tests))
