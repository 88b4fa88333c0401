-- Laws of answers: of one check before another, and of the first refusal among places in order, at 0, at one place more, and at the place that refuses.
use Prim.Native.Nat.{ℕ, zero, suc, ◌+◌, ◌<◌}
use mathlib.Core.Path.{◌≡◌, refl, sym, ap, ap₂, ◌∙◌, subst}
use mathlib.Core.Logic.{◌⊎◌, inl, inr}
use native.Mathlib.Nat.{not-suc-le-zero}
use native.Mathlib.Numerals.{add-one}
use native.Mathlib.Decide.{dec_lt}
use native.Mathlib.Omega.{arith}
use Rattle.sheet.specs.Paper.{Paper, Check, gives, refuses, refuses_at, ◌else◌, where_given, in_order}

-- an answer that refuses
abbrev pub Refuses : {A : Type 0} → Paper A → Type 0
Refuses (gives x) = ⊥
Refuses (refuses n) = Unit {0}
Refuses (refuses_at n place) = Unit {0}

pub gives_or_refuses : (a : Check) → (a ≡ gives tt) ⊎ Refuses a
gives_or_refuses (gives x) = inl refl
gives_or_refuses (refuses n) = inr tt
gives_or_refuses (refuses_at n place) = inr tt

pub else_stays : (a b : Check) → Refuses a → a else b ≡ a
else_stays (gives x) b r = absurd r
else_stays (refuses n) b r = refl
else_stays (refuses_at n place) b r = refl

pub else_goes_on : {A : Type 0} (a : Check) (b : Paper A) → a ≡ gives tt → a else b ≡ b
else_goes_on a b e = ap (λ (x : Check). x else b) e

-- where the whole gives something, the check gave leave, and the rest gave it
pub else_gave : {A : Type 0} (a : Check) (b : Paper A) (z : A) → (a else b) ≡ gives z → (a ≡ gives tt) × (b ≡ gives z)
else_gave (gives x) b z e = (refl, e)
else_gave (refuses n) b z e = absurd (subst Refuses e tt)
else_gave (refuses_at n place) b z e = absurd (subst Refuses e tt)

-- and that is one thing
pub gives_one : {A : Type 0} (x y : A) → gives x ≡ gives y → x ≡ y
gives_one x y e = cc

-- where nothing is given
pub where_given_lem : {A X : Type 0} (a : Paper A) (z : A) (x y : X) → a ≡ gives z → where_given a x y ≡ x
where_given_lem {A} {X} a z x y e = ap (λ (b : Paper A). where_given b x y) e

pub where_refused : {A X : Type 0} (a : Paper A) (x y : X) → Refuses a → where_given a x y ≡ y
where_refused (gives u) x y r = absurd r
where_refused (refuses n) x y r = refl
where_refused (refuses_at n place) x y r = refl

pub in_order_none : (f : ℕ → Check) → in_order f 0 ≡ gives tt
unfolding in_order
in_order_none f = refl

pub in_order_more : (f : ℕ → Check) (n : ℕ) → in_order f (n + 1) ≡ in_order f n else f n
unfolding in_order
in_order_more f n = ap (in_order f) (add-one n)

pub in_order_clear : (f : ℕ → Check) (n : ℕ) → in_order f n ≡ gives tt → f n ≡ gives tt → in_order f (n + 1) ≡ gives tt
in_order_clear f n e h = in_order_more f n ∙ else_goes_on (in_order f n) (f n) e ∙ h

-- place by place
pub in_order_same : (f g : ℕ → Check) (n : ℕ) → ((k : ℕ) → k < n → f k ≡ g k) → in_order f n ≡ in_order g n
unfolding in_order
in_order_same f g zero e = refl
in_order_same f g (suc n) e = ap₂ (λ (x y : Check). x else y) (in_order_same f g n (λ k h. e k (omega arith))) (e n (omega arith))

-- where the places before i refuse nothing and i refuses, i's refusal is the answer for any more places
pub in_order_first : (f : ℕ → Check) (i n : ℕ) → i < n → in_order f i ≡ gives tt → Refuses (f i) → in_order f n ≡ f i
unfolding in_order
in_order_first f i zero h e r = absurd (not-suc-le-zero h)
in_order_first f i (suc n) h e r =
    elim (dec_lt i n) [
      | yes l ↦
          let ih : in_order f n ≡ f i = in_order_first f i n l e r in
          ap (λ (x : Check). x else f n) ih ∙ else_stays (f i) (f n) r
      | no l ↦
          let same : i ≡ n = omega arith in
          ap (λ (x : Check). x else f n) (subst (λ (k : ℕ). in_order f k ≡ gives tt) same e) ∙ ap f (sym same)
    ]

-- n places: nothing is refused, or there is a first place that refuses, and its refusal is the answer
abbrev pub OneRefuses : (ℕ → Check) → ℕ → Type 0
OneRefuses f n =
    (((k : ℕ) → k < n → f k ≡ gives tt) × (in_order f n ≡ gives tt))
    ⊎ ((k : ℕ) × (k < n) × ((j : ℕ) → j < k → f j ≡ gives tt) × Refuses (f k) × (in_order f n ≡ f k))

pub in_order_decided : (f : ℕ → Check) (n : ℕ) → OneRefuses f n
unfolding in_order
in_order_decided f zero = inl ((λ k h. absurd (not-suc-le-zero h)), refl)
in_order_decided f (suc n) = go (in_order_decided f n)
  where
    last : ((k : ℕ) → k < n → f k ≡ gives tt) → in_order f n ≡ gives tt → (f n ≡ gives tt) ⊎ Refuses (f n) → OneRefuses f (suc n)
    last clear says (inl e) =
        inl (
          (λ k h.
              elim (dec_lt k n) [
                | yes l ↦ clear k l
                | no l ↦ let same : n ≡ k = omega arith in subst (λ (j : ℕ). f j ≡ gives tt) same e
              ]),
          rw says e,
        )
    last clear says (inr r) = inr (n, omega arith, clear, r, rw says)

    go : OneRefuses f n → OneRefuses f (suc n)
    go (inl c) = last c.0 c.1 (gives_or_refuses (f n))
    go (inr w) = let l = w.1 in inr (w.0, omega arith, w.2, w.3, ap (λ (x : Check). x else f n) w.4 ∙ else_stays (f w.0) (f n) w.3)
