-- An overloaded interval with any slots as its ends contains one from a job's release to a job's deadline that is overloaded in the same kind.
use Prim.Native.Nat.{ℕ, zero, suc, ◌+◌, ◌<◌, ◌≤◌}
use mathlib.Core.Path.{◌≡◌, refl, sym, ap, ◌∙◌, subst}
use mathlib.Core.Bool.{Bool, true, false, cond, ◌&&◌}
use mathlib.Core.Logic.{◌⊎◌, inl, inr, ⊎_elim}
use native.Mathlib.Decide.{dec_lt, dec_le}
use native.Mathlib.Omega.{arith}
use lib.Dec.{leb}
use borrow.Author.Tests.{le-leb, lt-leb}
use Rattle.sheet.proofs.Exactly.{either, never_both}
use Rattle.sheet.proofs.Sums.{total_same, total_bound, harvest_grows}
use Rattle.sheet.specs.Table.{job_of, Day}
use Rattle.sheet.specs.WellFormed.{GoodDay}
use Rattle.interval.specs.Demand.{within, share_of, demand_of, supply_of, Overloaded}
use Rattle.demand.specs.Search.{is_release, is_deadline}
use Rattle.interval.specs.declared.Kind.{Kind}
use Rattle.interval.specs.declared.Kind.TheVariants.{Time, Energy}
use Rattle.demand.proofs.Findings.{release_exactly, deadline_exactly}

-- ---- tests that ask the same, where n is not m

leb_next : (m n : ℕ) → (n ≡ m → ⊥) → leb m n ≡ leb (suc m) n
leb_next m n differs =
    elim (dec_le m n) [
      | yes h ↦ le-leb m n h ∙ sym (le-leb (suc m) n (omega arith))
      | no h ↦ lt-leb m n (omega arith) ∙ sym (lt-leb (suc m) n (omega arith))
    ]

leb_before : (m n : ℕ) → (m ≡ suc n → ⊥) → leb m (suc n) ≡ leb m n
leb_before m n differs =
    elim (dec_le m n) [
      | yes h ↦ le-leb m (suc n) (omega arith) ∙ sym (le-leb m n h)
      | no h ↦ lt-leb m (suc n) (omega arith) ∙ sym (lt-leb m n (omega arith))
    ]

and_false : (a b : Bool) → (a ≡ false) ⊎ (b ≡ false) → (a && b) ≡ false
and_false true b (inl e) = absurd (never_both refl e)
and_false true b (inr e) = e
and_false false b e = refl

module _ (d : Day) (good : GoodDay d) (kind : Kind) where
  abbrev is_in : ℕ → ℕ → ℕ → Bool
  is_in from to k = within from to (job_of d.table k)

  -- an interval without slots has no jobs within
  pub not_empty : (slot : ℕ) → Overloaded kind d slot slot → ⊥
  unfolding demand_of
  not_empty slot over =
      let most =
      total_bound (λ k. cond (is_in slot slot k) (share_of kind (job_of d.table k)) 0) 0 d.table.count
      (λ k h. let e = ap (λ (b : Bool). cond b (share_of kind (job_of d.table k)) 0) (outside k h) in omega arith) in
      omega arith
    where
      outside : (k : ℕ) → k < d.table.count → is_in slot slot k ≡ false
      outside k h =
          let j = job_of d.table k in
          let window = (good.good_jobs k h).window in
          and_false (leb slot j.release) (leb j.deadline slot)
          (elim (dec_le slot j.release) [ yes l ↦ inr (lt-leb j.deadline slot (omega arith)) | no l ↦ inl (lt-leb slot j.release (omega arith)) ])

  supply_grows : (k : Kind) (from to from' to' : ℕ) → from ≤ from' → from' ≤ to' → to' ≤ to → supply_of k d from' to' ≤ supply_of k d from to
  supply_grows Time from to from' to' p q r = omega arith
  supply_grows Energy from to from' to' p q r = let more = harvest_grows d.harvest from' to' from to p q r in omega arith

  -- a part of an overloaded interval that has the same jobs within is overloaded, and not empty
  narrows : (from to from' to' : ℕ) → from ≤ from' → from' ≤ to' → to' ≤ to → ((k : ℕ) → k < d.table.count → is_in from to k ≡ is_in from' to' k)
      → Overloaded kind d from to → (from' < to') × Overloaded kind d from' to'
  unfolding demand_of
  narrows from to from' to' p q r same over = (short (dec_lt from' to'), part)
    where
      part : Overloaded kind d from' to'
      part =
          let demand = total_same _ _ d.table.count (λ k h. ap (λ (b : Bool). cond b (share_of kind (job_of d.table k)) 0) (same k h)) in
          let supply = supply_grows kind from to from' to' p q r in
          omega arith

      short : Dec (from' < to') → from' < to'
      short (yes l) = l
      short (no l) = let end : from' ≡ to' = omega arith in absurd (not_empty to' (subst (λ (n : ℕ). Overloaded kind d n to') end part))

  -- where none from a release to a deadline inside an interval is overloaded, the interval is not: a start that is no release moves on, an end that
  -- is no deadline moves back
  pub inner_clear : (n from to : ℕ) → to ≤ from + n
      → ((from' to' : ℕ) → from ≤ from' → from' < to' → to' ≤ to → is_release d from' ≡ true → is_deadline d to' ≡ true → Overloaded kind d from' to' → ⊥)
      → from < to → Overloaded kind d from to → ⊥
  inner_clear zero from to l none h over = omega arith
  inner_clear (suc n) from zero l none h over = omega arith
  inner_clear (suc n) from (suc to) l none h over =
      ⊎_elim
      (λ release.
      ⊎_elim
      (λ deadline. none from (suc to) (omega arith) h (omega arith) release deadline over)
      (λ other.
      let less =
      narrows from (suc to) from to (omega arith) (omega arith) (omega arith)
      (λ k m. ap (λ (b : Bool). leb from (job_of d.table k).release && b)
      (leb_before (job_of d.table k).deadline to (λ e. never_both ((deadline_exactly d (suc to)).1 (k, m, e)) other))) over in
      inner_clear n from to (omega arith) (λ f t a b c. none f t a b (omega arith)) less.0 less.1)
      (either (is_deadline d (suc to))))
      (λ other.
      let less =
      narrows from (suc to) (suc from) (suc to) (omega arith) h (omega arith)
      (λ k m. ap (λ (b : Bool). b && leb (job_of d.table k).deadline (suc to))
      (leb_next from (job_of d.table k).release (λ e. never_both ((release_exactly d from).1 (k, m, e)) other))) over in
      inner_clear n (suc from) (suc to) (omega arith) (λ f t a. none f t (omega arith)) less.0 less.1)
      (either (is_release d from))
