-- No sheet has both kinds of evidence: an acceptable plan gives an interval's jobs all their slots inside it, one slot of time each and paid from the
-- level at its start and the harvest since, so their demand is at most the supply.
use Prim.Native.Nat.{ℕ, zero, suc, ◌+◌, ◌-◌, ◌*◌, ◌<◌, ◌≤◌}
use mathlib.Core.Path.{◌≡◌, refl, sym, ap, ◌∙◌}
use mathlib.Core.Bool.{true, cond}
use mathlib.Core.List.{List}
use mathlib.Core.Logic.{⊎_elim}
use native.Mathlib.Nat.{min-le_left, mul-one}
use native.Mathlib.Omega.{arith}
use lib.Dec.{leb, eqb}
use borrow.Author.Tests.{ltb-true, ltb-false, leb-true, ne_eqb}
use Rattle.std.proofs.lemmas.Bool.{and_parts}
use Rattle.sheet.specs.Sums.{total, total_of, harvest_at, harvest_of}
use Rattle.sheet.specs.Table.{job_of, Day}
use Rattle.sheet.specs.WellFormed.{GoodDay}
use Rattle.sheet.proofs.Exactly.{either}
use Rattle.sheet.proofs.Sums.{total_same, total_at_most, total_bound}
use Rattle.interval.specs.Demand.{within, demand_of, supply_of}
use Rattle.interval.specs.declared.Kind.{Kind}
use Rattle.interval.specs.declared.Kind.TheVariants.{Time, Energy}
use Rattle.plan_slots.specs.Plan.{byte_of, names_job, slots_got, spent_in, level_at}
use Rattle.judge.specs.Evidence.{AcceptablePlan, AcceptableClaim}
use Rattle.theorems.proofs.Counting.{total_swap, total_weighed, total_stretch, weight_none, weight_one}

-- the level is at most capacity
pub level_fits : (d : Day) (plan : List ℕ) (n : ℕ) → level_at d plan n ≤ d.table.capacity
unfolding level_at
level_fits d plan zero = omega arith
level_fits d plan (suc n) = min-le_left _ _

-- the weight of slot i: that of the job that it names
abbrev named : Day → List ℕ → (ℕ → ℕ) → ℕ → ℕ
named d plan weight i = total_of (eqb (byte_of plan i)) weight d.table.count

-- by energy, it is what the slot spends
named_spent : (d : Day) (plan : List ℕ) (i : ℕ) → named d plan (λ k. (job_of d.table k).energy) i ≤ spent_in d plan i
unfolding spent_in
named_spent d plan i =
    ⊎_elim
    (λ b. rw b (weight_one (λ k. (job_of d.table k).energy) (byte_of plan i) d.table.count))
    (λ b. rw b (let none = weight_none (λ k. (job_of d.table k).energy) (byte_of plan i) d.table.count (ltb-false _ _ b) in omega arith))
    (either (names_job d plan i))

module _ (d : Day) (plan : List ℕ) (ok : AcceptablePlan d plan) where
  -- a slot spends what is at hand at most
  spent_at_hand : (i : ℕ) → i < d.table.slots → spent_in d plan i ≤ level_at d plan i + harvest_at d.harvest i
  unfolding spent_in
  spent_at_hand i h =
      ⊎_elim
      (λ b. rw b (ok.has_charge i (byte_of plan i) h (ltb-true _ _ b) refl))
      (λ b. rw b (omega arith))
      (either (names_job d plan i))

  module _ (from : ℕ) where
    -- what is spent from a slot on, and the level then, is at most its level and the harvest since: it falls short by what was spilled
    spent_from : (n : ℕ) → from + n ≤ d.table.slots
        → level_at d plan (from + n) + total (λ i. spent_in d plan (from + i)) n ≤ level_at d plan from + total (λ i. harvest_at d.harvest (from + i)) n
    unfolding total level_at
    spent_from zero h = let here : from + 0 ≡ from = omega arith in rw here (omega arith)
    spent_from (suc n) h =
        let next : from + suc n ≡ suc (from + n) = omega arith in
        let before = spent_from n (omega arith) in
        let paid = spent_at_hand (from + n) (omega arith) in
        rw next (omega arith)

    module _ (to : ℕ) (in_order : from < to) (in_day : to ≤ d.table.slots) where
      -- a slot that names a job within the interval lies inside it
      lies_inside : (i k : ℕ) → i < d.table.slots → k < d.table.count → within from to (job_of d.table k) ≡ true → byte_of plan i ≡ k → (from ≤ i) × (i < to)
      lies_inside i k l h inside e =
          let window = ok.inside_window i k l h e in
          let starts = leb-true from (job_of d.table k).release (and_parts _ (leb (job_of d.table k).deadline to) inside).0 in
          let ends = leb-true (job_of d.table k).deadline to (and_parts (leb from (job_of d.table k).release) _ inside).1 in
          omega arith

      -- so a job within gets all its slots inside
      slots_inside : (k : ℕ) → k < d.table.count → within from to (job_of d.table k) ≡ true
          → (job_of d.table k).wanted ≡ total_of (λ i. eqb (byte_of plan (from + i)) k) (λ i. 1) (to - from)
      unfolding slots_got
      slots_inside k h inside =
          sym (ok.gets_its_slots k h)
          ∙ total_stretch _ from to d.table.slots (omega arith) in_day
          (λ i l. rw (ne_eqb (byte_of plan i) k (λ e. let w = lies_inside i k (omega arith) h inside e in omega arith)))
          (λ i l m. rw (ne_eqb (byte_of plan i) k (λ e. let w = lies_inside i k l h inside e in omega arith)))

      -- and what the jobs within want, each slot by the job's weight, is at most the weight of the slots inside
      weight_inside : (weight : ℕ → ℕ)
          → total_of (λ k. within from to (job_of d.table k)) (λ k. (job_of d.table k).wanted * weight k) d.table.count
          ≤ total (λ i. named d plan weight (from + i)) (to - from)
      weight_inside weight =
          let swapped = total_swap (λ k i. cond (eqb (byte_of plan (from + i)) k) (weight k) 0) d.table.count (to - from) in
          let each = total_at_most _ (λ k. total_of (λ i. eqb (byte_of plan (from + i)) k) (λ i. weight k) (to - from)) d.table.count at_most in
          omega arith
        where
          at_most : (k : ℕ) → k < d.table.count
              → cond (within from to (job_of d.table k)) ((job_of d.table k).wanted * weight k) 0 ≤ total_of (λ i. eqb (byte_of plan (from + i)) k) (λ i. weight k) (to - from)
          at_most k h =
              ⊎_elim
              (λ b.
              let slots = ap (λ (n : ℕ). n * weight k) (slots_inside k h b) ∙ total_weighed (λ i. eqb (byte_of plan (from + i)) k) (weight k) (to - from) in
              rw b (omega arith))
              (λ b. rw b (omega arith))
              (either (within from to (job_of d.table k)))

      -- one slot of time each
      time_is_supplied : demand_of Time d from to ≤ to - from
      unfolding demand_of
      time_is_supplied =
          let inside = weight_inside (λ k. 1) in
          let most =
          total_bound (λ i. named d plan (λ k. 1) (from + i)) 1 (to - from) (λ i h. weight_one (λ k. 1) (byte_of plan (from + i)) d.table.count) in
          let each =
          total_same (λ k. cond (within from to (job_of d.table k)) (job_of d.table k).wanted 0) _ d.table.count
          (λ k h. ap (λ (n : ℕ). cond (within from to (job_of d.table k)) n 0) (sym (mul-one (job_of d.table k).wanted))) in
          omega arith

      -- paid from the level at the start and the harvest since
      energy_is_supplied : demand_of Energy d from to ≤ supply_of Energy d from to
      unfolding demand_of harvest_of
      energy_is_supplied =
          let inside = weight_inside (λ k. (job_of d.table k).energy) in
          let spent = total_at_most _ (λ i. spent_in d plan (from + i)) (to - from) (λ i h. named_spent d plan (from + i)) in
          let since = spent_from (to - from) (omega arith) in
          let full = level_fits d plan from in
          omega arith

      -- An acceptable plan leaves no interval with a demand above its supply.
      pub demand_is_supplied : (kind : Kind) → demand_of kind d from to ≤ supply_of kind d from to
      demand_is_supplied Time = time_is_supplied
      demand_is_supplied Energy = energy_is_supplied

-- No sheet has both an acceptable plan and an acceptable claim.
pub no_plan_and_claim : (d : Day) (plan : List ℕ) → GoodDay d → AcceptablePlan d plan
    → (number from to : ℕ) → AcceptableClaim d number from to → ⊥
no_plan_and_claim d plan good ok number from to claim =
    let supplied = demand_is_supplied d plan ok from to claim.in_order claim.in_day claim.kind in
    let over = claim.overloaded in
    omega arith
