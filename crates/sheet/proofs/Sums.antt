-- Laws of sums and of "one of them": at 0, at one more, at the end, and term by term.
use Prim.Native.Nat.{ℕ, zero, suc, ◌+◌, ◌-◌, ◌*◌, ◌<◌, ◌≤◌}
use mathlib.Core.Path.{◌≡◌, refl, sym, ap, ap₂, ◌∙◌, subst}
use mathlib.Core.Bool.{Bool, true, false, ◌||◌}
use mathlib.Core.List.{List}
use mathlib.Core.Logic.{⊎_elim}
use native.Mathlib.Nat.{not-suc-le-zero, mul-suc, add_assoc}
use native.Mathlib.Numerals.{add-one}
use native.Mathlib.Decide.{dec_lt}
use native.Mathlib.Omega.{arith}
use Rattle.std.proofs.lemmas.Bool.{or_left, or_right}
use Rattle.sheet.specs.Sums.{total, some, harvest_at, harvest_of}
use Rattle.sheet.proofs.Exactly.{either, never_both}

-- ---- total

pub total_none : (f : ℕ → ℕ) → total f 0 ≡ 0
unfolding total
total_none f = refl

pub total_more : (f : ℕ → ℕ) (n : ℕ) → total f (n + 1) ≡ total f n + f n
unfolding total
total_more f n = ap (total f) (add-one n)

-- term by term
pub total_same : (f g : ℕ → ℕ) (n : ℕ) → ((k : ℕ) → k < n → f k ≡ g k) → total f n ≡ total g n
unfolding total
total_same f g zero e = refl
total_same f g (suc n) e = ap₂ ◌+◌ (total_same f g n (λ k h. e k (omega arith))) (e n (omega arith))

pub total_at_most : (f g : ℕ → ℕ) (n : ℕ) → ((k : ℕ) → k < n → f k ≤ g k) → total f n ≤ total g n
unfolding total
total_at_most f g zero e = omega arith
total_at_most f g (suc n) e = let before = total_at_most f g n (λ k h. e k (omega arith)) in let last = e n (omega arith) in omega arith

-- at most `most` each
pub total_bound : (f : ℕ → ℕ) (most n : ℕ) → ((k : ℕ) → k < n → f k ≤ most) → total f n ≤ most * n
unfolding total
total_bound f most zero e = omega arith
total_bound f most (suc n) e = rw (mul-suc most n) (let before = total_bound f most n (λ k h. e k (omega arith)) in let last = e n (omega arith) in omega arith)

-- first the one stretch, then the other
pub total_split : (f : ℕ → ℕ) (m n : ℕ) → total f (m + n) ≡ total f m + total (λ i. f (m + i)) n
unfolding total
total_split f m zero = let e : m + 0 ≡ m = omega arith in rw e (omega arith)
total_split f m (suc n) =
    let e : m + suc n ≡ suc (m + n) = omega arith in
    rw e (ap (λ (x : ℕ). x + f (m + n)) (total_split f m n) ∙ add_assoc (total f m) (total (λ i. f (m + i)) n) (f (m + n)))

-- one term is at most the sum
pub term_at_most : (f : ℕ → ℕ) (n k : ℕ) → k < n → f k ≤ total f n
unfolding total
term_at_most f zero k h = absurd (not-suc-le-zero h)
term_at_most f (suc n) k h =
    elim (dec_lt k n) [
      | yes l ↦ let before = term_at_most f n k l in omega arith
      | no l ↦ let same : n ≡ k = omega arith in subst (λ (j : ℕ). f j ≤ total f n + f n) same (omega arith)
    ]

-- ---- some

pub some_none : (test : ℕ → Bool) → some test 0 ≡ false
unfolding some
some_none test = refl

pub some_more : (test : ℕ → Bool) (n : ℕ) → some test (n + 1) ≡ (some test n || test n)
unfolding some
some_more test n = ap (some test) (add-one n)

-- one that passes
pub some_here : (test : ℕ → Bool) (n k : ℕ) → k < n → test k ≡ true → some test n ≡ true
unfolding some
some_here test zero k h e = absurd (not-suc-le-zero h)
some_here test (suc n) k h e =
    elim (dec_lt k n) [
      | yes l ↦ or_left (some test n) (test n) (some_here test n k l e)
      | no l ↦ let same : k ≡ n = omega arith in or_right (some test n) (test n) (ap test (sym same) ∙ e)
    ]

-- which one passes
pub some_where : (test : ℕ → Bool) (n : ℕ) → some test n ≡ true → (k : ℕ) × (k < n) × (test k ≡ true)
unfolding some
some_where test zero e = absurd (never_both e refl)
some_where test (suc n) e =
    ⊎_elim
    (λ t. (n, omega arith, t))
    (λ f.
    ⊎_elim
    (λ s. let w = some_where test n s in let l = w.1 in (w.0, omega arith, w.2))
    (λ s. absurd (never_both e (ap₂ ◌||◌ s f)))
    (either (some test n)))
    (either (test n))

pub not_some : (test : ℕ → Bool) (n k : ℕ) → some test n ≡ false → k < n → test k ≡ false
not_some test n k e h = ⊎_elim (λ t. absurd (never_both (some_here test n k h t) e)) (λ f. f) (either (test k))

pub some_same : (p q : ℕ → Bool) (n : ℕ) → ((k : ℕ) → k < n → p k ≡ q k) → some p n ≡ some q n
unfolding some
some_same p q zero e = refl
some_same p q (suc n) e = ap₂ ◌||◌ (some_same p q n (λ k h. e k (omega arith))) (e n (omega arith))

-- none before, and not this one either
pub some_clear : (test : ℕ → Bool) (n : ℕ) → some test n ≡ false → test n ≡ false → some test (n + 1) ≡ false
some_clear test n p q = some_more test n ∙ ap₂ ◌||◌ p q

-- ---- harvest

-- the first slots, and the stretch behind them
pub harvest_split : (harvest : List ℕ) (from to : ℕ) → from ≤ to → total (harvest_at harvest) to ≡ total (harvest_at harvest) from + harvest_of harvest from to
unfolding harvest_of
harvest_split harvest from to h =
    let e : to ≡ from + (to - from) = omega arith in
    ap (total (harvest_at harvest)) e ∙ total_split (harvest_at harvest) from (to - from)

-- one slot more at the front
pub harvest_from : (harvest : List ℕ) (from to : ℕ) → from < to → harvest_of harvest from to ≡ harvest_at harvest from + harvest_of harvest (from + 1) to
harvest_from harvest from to h =
    let a = harvest_split harvest from to (omega arith) in
    let b = harvest_split harvest (from + 1) to (omega arith) in
    let c = total_more (harvest_at harvest) from in
    omega arith

-- no slot, and one slot more at the end
pub harvest_none : (harvest : List ℕ) (from : ℕ) → harvest_of harvest from from ≡ 0
harvest_none harvest from = let a = harvest_split harvest from from (omega arith) in omega arith

pub harvest_to : (harvest : List ℕ) (from to : ℕ) → from ≤ to → harvest_of harvest from (to + 1) ≡ harvest_of harvest from to + harvest_at harvest to
harvest_to harvest from to h =
    let a = harvest_split harvest from to h in
    let b = harvest_split harvest from (to + 1) (omega arith) in
    let c = total_more (harvest_at harvest) to in
    omega arith

-- a longer stretch harvests no less
pub harvest_grows : (harvest : List ℕ) (from to from' to' : ℕ) → from' ≤ from → from ≤ to → to ≤ to' → harvest_of harvest from to ≤ harvest_of harvest from' to'
harvest_grows harvest from to from' to' p q r =
    let a = harvest_split harvest from to q in
    let b = harvest_split harvest from' to' (omega arith) in
    let c = harvest_split harvest from' from p in
    let d = harvest_split harvest to to' r in
    omega arith
