-- The tests of a plan in words, and that a plan is acceptable exactly when no refusal is stated of it.
use Prim.Native.Nat.{ℕ, zero, suc, ◌+◌, ◌-◌, ◌≤◌, ◌<◌}
use mathlib.Core.Path.{◌≡◌, refl, sym, ap, ◌∙◌, subst}
use mathlib.Core.Bool.{Bool, true, ◌&&◌}
use mathlib.Core.List.{List}
use mathlib.Core.Logic.Iff
use mathlib.Core.Logic.{◌↔◌, inl, inr, ⊎_elim}
use native.Mathlib.Decide.{dec_lt, dec_le, ℕ_discrete}
use native.Mathlib.Omega.{arith}
use lib.Dec.{leb}
use lib.ListN.{length}
use borrow.Author.Tests.{lt-ltb, le-leb, ltb-true, leb-true}
use Rattle.std.proofs.lemmas.Bool.{and_from, and_parts}
use Rattle.sheet.specs.Paper.{gives}
use Rattle.sheet.specs.Sums.{harvest_at}
use Rattle.sheet.specs.Table.{idle_byte, job_of, Day}
use Rattle.sheet.proofs.Stated.{below, differs}
use Rattle.plan_slots.specs.Numbers.{fault_says}
use Rattle.plan_slots.specs.Plan.{byte_of, names_job, slots_got, level_at}
use Rattle.plan_slots.specs.Slots.{outside_window, has_all_slots, lacks_charge}
use Rattle.plan_slots.specs.declared.PlanFault.{PlanFault}
use Rattle.plan_slots.specs.declared.PlanFault.TheVariants.{WrongLength, NoJob, OutsideWindow, HasAllSlots, LacksCharge, LacksSlots}
use Rattle.plan_slots.proofs.Judging.{got_none, got_here, got_not_here, got_grows}
use Rattle.plan_slots.proofs.SlotOrder.{test_at, no_job_words, outside_words}
use Rattle.judge.specs.Evidence.{AcceptablePlan}
use Rattle.judge.specs.Judge.{plan_says}
use Rattle.judge.specs.Stated.{RunsIn, PlanStates, PlanGivenFirst}
use Rattle.judge.proofs.PlanOrder.{Applies, refused_exactly, accepted_when_clear}

at_most : (m n : ℕ) → (leb m n ≡ true) ↔ (m ≤ n)
at_most m n = (leb-true m n, le-leb m n)

module _ (d : Day) (plan : List ℕ) where
  -- a test of the slot's job in words
  of_its_job : (i : ℕ) (test : ℕ → Bool) (P : ℕ → Type 0) → ((k : ℕ) → (test k ≡ true) ↔ P k)
      → ((i < d.table.slots) × ((names_job d plan i && test (byte_of plan i)) ≡ true)) ↔ ((k : ℕ) × RunsIn d plan k i × P k)
  of_its_job i test P words = (
    (λ a. (
      byte_of plan i,
      (a.0, ltb-true _ _ (and_parts (names_job d plan i) _ a.1).0, refl),
      (words (byte_of plan i)).0 (and_parts (names_job d plan i) _ a.1).1,
    )),
    (λ w.
        let named = w.1.2 in (
          w.1.0,
          and_from (names_job d plan i) (test (byte_of plan i)) (lt-ltb _ _ (subst (λ (n : ℕ). n < d.table.count) (sym named) w.1.1))
              (ap test named ∙ (words w.0).1 w.2),
        )),
  )

  pub applies_stated : (f : PlanFault) → Applies d plan f ↔ PlanStates d plan f
  unfolding test_at
  applies_stated WrongLength = differs (length plan) d.table.slots
  applies_stated (NoJob i) = (
    (λ a. let w = (no_job_words d plan i).0 a.1 in (a.0, w.0, w.1)),
    (λ s. (s.0, (no_job_words d plan i).1 (s.1, s.2))),
  )
  applies_stated (OutsideWindow i) =
      of_its_job i (λ k. outside_window (job_of d.table k) i) _ (λ k. outside_words (job_of d.table k).release (job_of d.table k).deadline i)
  applies_stated (HasAllSlots i) =
      of_its_job i (λ k. has_all_slots (job_of d.table k) (slots_got plan k i)) _ (λ k. at_most (job_of d.table k).wanted (slots_got plan k i))
  applies_stated (LacksCharge i) =
      of_its_job i (λ k. lacks_charge (job_of d.table k) (level_at d plan i + harvest_at d.harvest i)) _
      (λ k. below (level_at d plan i + harvest_at d.harvest i) (job_of d.table k).energy)
  applies_stated (LacksSlots k) = (
    (λ a. (a.0, ltb-true _ _ a.1)),
    (λ s. (s.0, lt-ltb _ _ s.1)),
  )

  -- "Each is given exactly when stated and nothing earlier applies"
  pub given_exactly : (f : PlanFault) → (plan_says d plan ≡ fault_says f) ↔ PlanGivenFirst d plan f
  given_exactly f =
      Iff.trans (refused_exactly d plan f) (
        (λ a. ((applies_stated f).0 a.0, (λ g h s. a.1 g h ((applies_stated g).1 s)))),
        (λ s. ((applies_stated f).1 s.0, (λ g h a. s.1 g h ((applies_stated g).0 a)))),
      )

  -- ---- an acceptable plan

  abbrev NoneStated : Type 0
  NoneStated = (f : PlanFault) → PlanStates d plan f → ⊥

  not_stated : AcceptablePlan d plan → NoneStated
  not_stated ok WrongLength s = s ok.byte_a_slot
  not_stated ok (NoJob i) s = ⊎_elim (λ e. s.1 e) (λ h. let l = s.2 in omega arith) (ok.idle_or_job i s.0)
  not_stated ok (OutsideWindow i) (k, runs, out) =
      let w = ok.inside_window i k runs.0 runs.1 runs.2 in
      let a = w.0 in
      let b = w.1 in
      ⊎_elim (λ h. omega arith) (λ h. omega arith) out
  not_stated ok (HasAllSlots i) (k, runs, all) =
      let h = runs.0 in
      let gets = ok.gets_its_slots k runs.1 in
      let here = got_here plan k i runs.2 in
      let later = got_grows plan k (i + 1) (d.table.slots - (i + 1)) in
      let end : i + 1 + (d.table.slots - (i + 1)) ≡ d.table.slots = omega arith in
      let most : slots_got plan k (i + 1) ≤ slots_got plan k d.table.slots = subst (λ (n : ℕ). slots_got plan k (i + 1) ≤ slots_got plan k n) end later in
      omega arith
  not_stated ok (LacksCharge i) (k, runs, short) = let paid = ok.has_charge i k runs.0 runs.1 runs.2 in omega arith
  not_stated ok (LacksSlots k) s = let gets = ok.gets_its_slots k s.0 in let l = s.1 in omega arith

  module _ (none : NoneStated) where
    -- a job never gets more slots than it wants
    no_more : (k : ℕ) → k < d.table.count → (i : ℕ) → i ≤ d.table.slots → slots_got plan k i ≤ (job_of d.table k).wanted
    no_more k h zero l = let e = got_none plan k in omega arith
    no_more k h (suc i) l =
        let before = no_more k h i (omega arith) in
        let next : suc i ≡ i + 1 = omega arith in
        let below_end : i < d.table.slots = omega arith in
        subst (λ (n : ℕ). slots_got plan k n ≤ (job_of d.table k).wanted) (sym next)
        (elim (ℕ_discrete (byte_of plan i) k) [
          | yes e ↦
              let here = got_here plan k i e in
              elim (dec_le (job_of d.table k).wanted (slots_got plan k i)) [
                | yes full ↦ absurd (none (HasAllSlots i) (k, (below_end, h, e), full))
                | no full ↦ omega arith
              ]
          | no e ↦ let here = got_not_here plan k i e in omega arith
        ])

    is_acceptable : AcceptablePlan d plan
    is_acceptable =
        record {
          byte_a_slot =
              elim (ℕ_discrete (length plan) d.table.slots) [
                | yes e ↦ e
                | no e ↦ absurd (none WrongLength e)
              ];
          idle_or_job =
              λ i h.
              elim (ℕ_discrete (byte_of plan i) idle_byte) [
                | yes e ↦ inl e
                | no e ↦
                    elim (dec_lt (byte_of plan i) d.table.count) [
                      | yes l ↦ inr l
                      | no l ↦ absurd (none (NoJob i) (h, e, omega arith))
                    ]
              ];
          inside_window =
              λ i k h l e.
              elim (dec_le (job_of d.table k).release i) [
                | yes a ↦
                    elim (dec_lt i (job_of d.table k).deadline) [
                      | yes b ↦ (a, b)
                      | no b ↦ absurd (none (OutsideWindow i) (k, (h, l, e), inr (omega arith)))
                    ]
                | no a ↦ absurd (none (OutsideWindow i) (k, (h, l, e), inl (omega arith)))
              ];
          gets_its_slots =
              λ k h.
              let most = no_more k h d.table.slots (omega arith) in
              elim (dec_lt (slots_got plan k d.table.slots) (job_of d.table k).wanted) [
                | yes l ↦ absurd (none (LacksSlots k) (h, l))
                | no l ↦ omega arith
              ];
          has_charge =
              λ i k h l e.
              elim (dec_lt (level_at d plan i + harvest_at d.harvest i) (job_of d.table k).energy) [
                | yes short ↦ absurd (none (LacksCharge i) (k, (h, l, e), short))
                | no short ↦ omega arith
              ];
        }

  pub acceptable_exactly : (plan_says d plan ≡ gives tt) ↔ AcceptablePlan d plan
  acceptable_exactly =
      Iff.trans (accepted_when_clear d plan) (
        (λ clear. is_acceptable (λ f s. clear f ((applies_stated f).1 s))),
        (λ ok f a. not_stated ok f ((applies_stated f).0 a)),
      )
