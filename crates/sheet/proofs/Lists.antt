-- Laws of lists that are made place by place: at 0, at one place more, and their lengths.
use Prim.Native.Nat.{ℕ, zero, suc, ◌+◌, ◌-◌, ◌*◌, ◌<◌, ◌≤◌}
use mathlib.Core.Path.{◌≡◌, refl, sym, ap, ap₂, ◌∙◌, subst}
use mathlib.Core.List.{List, [], ◌∷◌, ◌++◌, append-nil}
use native.Mathlib.Nat.{mul-zero, mul-suc, not-suc-le-zero}
use native.Mathlib.Numerals.{add-one}
use native.Mathlib.Omega.{arith}
use native.Mathlib.Decide.{dec_lt}
use lib.ListN.{length, get_or, take, drop, set, replicate, length-append, length-drop, drop_of_length-le, get_or-append}
use lib.Seq.{set_at, get_or_at, append_snoc, take-suc, drop-cons, get_or-drop}
use Rattle.sheet.specs.Lists.{joined, filled}

pub joined_more : {X : Type 0} (f : ℕ → List X) (n : ℕ) → joined f (n + 1) ≡ joined f n ++ f n
unfolding joined
joined_more f n = ap (joined f) (add-one n)

-- n pieces of one length
pub joined_length : {X : Type 0} (f : ℕ → List X) (size : ℕ) → ((k : ℕ) → length (f k) ≡ size) → (n : ℕ) → length (joined f n) ≡ size * n
unfolding joined
joined_length f size each zero = sym (mul-zero size)
joined_length f size each (suc n) =
    length-append (joined f n) (f n)
    ∙ ap (λ (k : ℕ). k + length (f n)) (joined_length f size each n)
    ∙ ap (λ (k : ℕ). size * n + k) (each n)
    ∙ sym (mul-suc size n)

pub listed_length : {X : Type 0} (f : ℕ → X) (n : ℕ) → length (joined (λ k. f k ∷ []) n) ≡ n
listed_length f n = joined_length (λ k. f k ∷ []) 1 (λ k. refl) n ∙ omega arith

pub filled_none : {X : Type 0} (f : ℕ → X) (z : X) (places : ℕ) → filled f z places 0 ≡ replicate places z
unfolding filled joined
filled_none f z places = let e : places - 0 ≡ places = omega arith in rw e

-- storing f n in place n fills one place more
pub filled_more : {X : Type 0} (f : ℕ → X) (z : X) (places n : ℕ) → n < places → set (filled f z places n) n (f n) ≡ filled f z places (n + 1)
unfolding filled
filled_more {X} f z places n h =
    let front : List X = joined (λ k. f k ∷ []) n in
    let e : places - n ≡ suc (places - (n + 1)) = omega arith in
    rw e
    (set_at front z (replicate (places - (n + 1)) z) (f n) n (listed_length f n)
    ∙ sym (append_snoc front (f n) (replicate (places - (n + 1)) z))
    ∙ ap (λ (l : List X). l ++ replicate (places - (n + 1)) z) (sym (joined_more (λ k. f k ∷ []) n)))

-- what stands in place k
pub listed_get : {X : Type 0} (f : ℕ → X) (z : X) (n k : ℕ) → k < n → get_or (joined (λ i. f i ∷ []) n) k z ≡ f k
unfolding joined
listed_get f z zero k h = absurd (not-suc-le-zero h)
listed_get f z (suc n) k h =
    elim (dec_lt k n) [
      | yes l ↦
          get_or-append (joined (λ i. f i ∷ []) n) (f n ∷ []) z k (subst (λ (m : ℕ). k < m) (sym (listed_length f n)) l) ∙ listed_get f z n k l
      | no l ↦
          let same : n ≡ k = omega arith in
          get_or_at (joined (λ i. f i ∷ []) n) (f n) [] z k (listed_length f n ∙ same) ∙ ap f same
    ]

pub filled_get : {X : Type 0} (f : ℕ → X) (z : X) (places n k : ℕ) → k < n → get_or (filled f z places n) k z ≡ f k
unfolding filled
filled_get f z places n k h =
    get_or-append (joined (λ i. f i ∷ []) n) (replicate (places - n) z) z k (subst (λ (m : ℕ). k < m) (sym (listed_length f n)) h) ∙ listed_get f z n k h

-- a list of zeros
pub zeros_first : (n k : ℕ) → ◌≡◌ {A = ℕ} (get_or (replicate n 0) k 0) 0
zeros_first zero k = refl
zeros_first (suc n) zero = refl
zeros_first (suc n) (suc k) = zeros_first n k

-- the same numbers fill the same places
pub joined_same : {X : Type 0} (f g : ℕ → List X) (n : ℕ) → ((k : ℕ) → k < n → f k ≡ g k) → joined f n ≡ joined g n
unfolding joined
joined_same f g zero e = refl
joined_same f g (suc n) e = ap₂ ◌++◌ (joined_same f g n (λ k h. e k (omega arith))) (e n (omega arith))

-- a stretch of a list, as what stands in its places
pub stretch_joined : {X : Type 0} (z : X) (s : List X) (n at : ℕ) → at + n ≤ length s → take n (drop at s) ≡ joined (λ k. get_or s (at + k) z ∷ []) n
unfolding joined
stretch_joined z s zero at h = refl
stretch_joined {X} z s (suc n) at h =
    let long : n < length (drop at s) = simp length-drop (omega arith) in
    take-suc (drop at s) n z long
    ∙ ap₂ (λ (l : List X) (x : X). l ++ x ∷ []) (stretch_joined z s n at (omega arith)) (get_or-drop at s n z)

-- a list whose first places are overwritten, one after the other
abbrev pub over : {X : Type 0} → (ℕ → X) → List X → ℕ → List X
over f l n = joined (λ k. f k ∷ []) n ++ drop n l

pub over_none : {X : Type 0} (f : ℕ → X) (l : List X) → l ≡ over f l 0
unfolding joined
over_none f l = refl

pub over_more : {X : Type 0} (f : ℕ → X) (l : List X) (n : ℕ) → n < length l → set (over f l n) n (f n) ≡ over f l (n + 1)
over_more {X} f l n h =
    let front : List X = joined (λ k. f k ∷ []) n in
    ap (λ (r : List X). set (front ++ r) n (f n)) (drop-cons l n (f n) h)
    ∙ set_at front _ (drop (suc n) l) (f n) n (listed_length f n)
    ∙ sym (append_snoc front (f n) (drop (suc n) l))
    ∙ ap₂ (λ (a : List X) (k : ℕ). a ++ drop k l) (sym (joined_more (λ k. f k ∷ []) n)) (sym (add-one n))

-- once all places are overwritten
pub over_all : {X : Type 0} (f : ℕ → X) (l : List X) (n : ℕ) → length l ≡ n → over f l n ≡ joined (λ k. f k ∷ []) n
over_all {X} f l n e =
    ap (λ (r : List X). joined (λ k. f k ∷ []) n ++ r) (drop_of_length-le l {i = n} (omega arith)) ∙ append-nil (joined (λ k. f k ∷ []) n)
