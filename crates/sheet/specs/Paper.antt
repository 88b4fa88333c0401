-- Answers as document 01 writes them: what is given, or a refusal by its number, with the place where the paper names one.
use Rattle.std.specs.Prelude.{ℕ, zero, suc, Bool, true, false}

pub data Paper (A : Type 0) : Type 0 where
  gives : A → Paper A
  refuses : (number : ℕ) → Paper A
  refuses_at : (number place : ℕ) → Paper A

-- a check gives nothing but leave to go on
abbrev pub Check : Type 0
Check = Paper (Unit {0})

-- `refusal when b`: the check that gives this refusal exactly when b holds
infix 25 ◌when◌
abbrev pub ◌when◌ : Check → Bool → Check
refusal when true = refusal
refusal when false = gives tt

-- `a else b`: the refusal of a, where a refuses; otherwise b
infixr 20 ◌else◌
abbrev pub ◌else◌ : {A : Type 0} → Check → Paper A → Paper A
gives x else b = b
refuses n else b = refuses n
refuses_at n place else b = refuses_at n place

-- places in order: the first refusal among those of the places 0 to n - 1
unfoldable pub in_order : (ℕ → Check) → ℕ → Check
in_order f zero = gives tt
in_order f (suc n) = in_order f n else f n

-- `where_given a x y`: x where a gives something, y where it refuses
abbrev pub where_given {ℓ} : {A : Type 0} {X : Type ℓ} → Paper A → X → X → X
where_given (gives given) x y = x
where_given (refuses n) x y = y
where_given (refuses_at n place) x y = y

-- a refusal's number, and the place that it names; 0 where there is none
abbrev pub number_of : {A : Type 0} → Paper A → ℕ
number_of (gives x) = 0
number_of (refuses n) = n
number_of (refuses_at n place) = n

abbrev pub place_of : {A : Type 0} → Paper A → ℕ
place_of (gives x) = 0
place_of (refuses n) = 0
place_of (refuses_at n place) = place
