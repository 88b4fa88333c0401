-- Laws of sums that are counted in two ways, each by induction on the number of terms.
use Prim.Native.Nat.{ℕ, zero, suc, ◌+◌, ◌-◌, ◌*◌, ◌<◌, ◌≤◌}
use mathlib.Core.Path.{◌≡◌, refl, sym, ap, ◌∙◌}
use mathlib.Core.Bool.{Bool}
use mathlib.Core.Logic.{⊎_elim}
use native.Mathlib.Nat.{zero-mul}
use native.Mathlib.Decide.{ℕ_discrete}
use native.Mathlib.Omega.{arith}
use lib.Dec.{eqb}
use borrow.Author.Tests.{eq-eqb, ne_eqb}
use Rattle.sheet.specs.Sums.{total, total_of}
use Rattle.sheet.proofs.Exactly.{either}
use Rattle.sheet.proofs.Sums.{total_split}

pub total_zero : (f : ℕ → ℕ) (n : ℕ) → ((k : ℕ) → k < n → f k ≡ 0) → total f n ≡ 0
unfolding total
total_zero f zero none = refl
total_zero f (suc n) none = let before = total_zero f n (λ k h. none k (omega arith)) in let last = none n (omega arith) in omega arith

pub total_add : (f g : ℕ → ℕ) (n : ℕ) → total (λ k. f k + g k) n ≡ total f n + total g n
unfolding total
total_add f g zero = refl
total_add f g (suc n) = let before = total_add f g n in omega arith

-- over the one number first, or over the other
pub total_swap : (f : ℕ → ℕ → ℕ) (m n : ℕ) → total (λ k. total (f k) n) m ≡ total (λ i. total (λ k. f k i) m) n
unfolding total
total_swap f zero n = sym (total_zero _ n (λ k h. refl))
total_swap f (suc m) n = ap (λ (x : ℕ). x + total (f m) n) (total_swap f m n) ∙ sym (total_add (λ i. total (λ k. f k i) m) (f m) n)

-- so many of them, each of one weight
pub total_weighed : (test : ℕ → Bool) (weight n : ℕ) → total_of test (λ i. 1) n * weight ≡ total_of test (λ i. weight) n
unfolding total
total_weighed test weight zero = zero-mul weight
total_weighed test weight (suc n) =
    let before = total_weighed test weight n in
    ⊎_elim (λ b. rw b (omega arith)) (λ b. rw b (omega arith)) (either (test n))

-- where nothing stands outside a stretch, the stretch is all
pub total_stretch : (f : ℕ → ℕ) (from to n : ℕ) → from ≤ to → to ≤ n → ((i : ℕ) → i < from → f i ≡ 0) → ((i : ℕ) → i < n → to ≤ i → f i ≡ 0)
    → total f n ≡ total (λ i. f (from + i)) (to - from)
total_stretch f from to n h l before after =
    let day : n ≡ to + (n - to) = omega arith in
    let front : to ≡ from + (to - from) = omega arith in
    let a = ap (total f) day ∙ total_split f to (n - to) in
    let b = ap (total f) front ∙ total_split f from (to - from) in
    let c = total_zero f from before in
    let d = total_zero (λ i. f (to + i)) (n - to) (λ i m. after (to + i) (omega arith) (omega arith)) in
    omega arith

-- one number among 0 to n - 1: its own weight at most, and none where it is not among them
pub weight_none : (weight : ℕ → ℕ) (b n : ℕ) → n ≤ b → total_of (eqb b) weight n ≡ 0
weight_none weight b n h = total_zero _ n (λ k l. rw (ne_eqb b k (λ e. omega arith)))

pub weight_one : (weight : ℕ → ℕ) (b n : ℕ) → total_of (eqb b) weight n ≤ weight b
unfolding total
weight_one weight b zero = omega arith
weight_one weight b (suc n) =
    elim (ℕ_discrete b n) [
      | yes e ↦ let none = weight_none weight b n (omega arith) in let own = ap weight e in rw (eq-eqb b n e) (omega arith)
      | no e ↦ let before = weight_one weight b n in rw (ne_eqb b n e) (omega arith)
    ]
