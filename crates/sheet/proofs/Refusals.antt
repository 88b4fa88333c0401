-- What a refusal that is handed on means, whichever call hands it on. A refusal more is a line more in each law of the first part, and nowhere above.
use Prim.Native.Nat.{ℕ}
use mathlib.Core.Path.{◌≡◌, refl, sym, ap, ◌∙◌, subst}
use mathlib.Core.Bool.{Bool, true, false, cond, ◌||◌}
use mathlib.Core.Logic.{◌↔◌}
use native.Mathlib.Omega.{arith}
use lib.Dec.{eqb}
use Rattle.sheet.specs.Paper.{Paper, Check, gives, refuses, refuses_at, ◌when◌, ◌else◌, where_given, number_of}
use Rattle.sheet.specs.Refusals.{refusal_says, refusal_number, outcome_says}
use Rattle.sheet.specs.declared.Refusal.{Refusal}
use Rattle.sheet.specs.declared.Refusal.TheVariants.{Short, Mark, Counts, Layout, Window, Work}
use Rattle.std.specs.Prelude.{Result, Ok, Err}
use Rattle.sheet.proofs.Order.{Refuses, where_refused}

-- ---- case by case

pub refusal_refuses : (A : Type 0) (r : Refusal) → Refuses (refusal_says {A = A} r)
refusal_refuses A Short = tt
refusal_refuses A Mark = tt
refusal_refuses A Counts = tt
refusal_refuses A Layout = tt
refusal_refuses A (Window k) = tt
refusal_refuses A (Work k) = tt

-- a refusal is the answer whatever follows
pub refusal_stays : {A : Type 0} (r : Refusal) (b : Paper A) → refusal_says r else b ≡ refusal_says r
refusal_stays Short b = refl
refusal_stays Mark b = refl
refusal_stays Counts b = refl
refusal_stays Layout b = refl
refusal_stays (Window k) b = refl
refusal_stays (Work k) b = refl

-- and nothing is given
pub refusal_gives_nothing : (A : Type 0) {X : Type 0} (r : Refusal) (x y : X) → where_given (refusal_says {A = A} r) x y ≡ y
refusal_gives_nothing A r x y = where_refused (refusal_says {A = A} r) x y (refusal_refuses A r)

-- what f makes of a refusal of a sheet or a table; x for any other answer
unfoldable pub by_refusal : {A X : Type 0} → (Refusal → X) → X → Paper A → X
by_refusal f x (gives y) = x
by_refusal f x (refuses n) =
    cond (eqb n (refusal_number Short)) (f Short)
    (cond (eqb n (refusal_number Mark)) (f Mark)
    (cond (eqb n (refusal_number Counts)) (f Counts)
    (cond (eqb n (refusal_number Layout)) (f Layout) x)))
by_refusal f x (refuses_at n k) = cond (eqb n (refusal_number (Window k))) (f (Window k)) (cond (eqb n (refusal_number (Work k))) (f (Work k)) x)

pub by_refusal_lem : (A : Type 0) {X : Type 0} (f : Refusal → X) (x : X) (r : Refusal) → by_refusal f x (refusal_says {A = A} r) ≡ f r
unfolding by_refusal
by_refusal_lem A f x Short = refl
by_refusal_lem A f x Mark = refl
by_refusal_lem A f x Counts = refl
by_refusal_lem A f x Layout = refl
by_refusal_lem A f x (Window k) = refl
by_refusal_lem A f x (Work k) = refl

-- a number that some sheet has
unfoldable pub sheet_has : ℕ → Bool
sheet_has n =
    eqb n (refusal_number Short) || eqb n (refusal_number Mark) || eqb n (refusal_number Counts) || eqb n (refusal_number Layout)
    || eqb n (refusal_number (Window 0)) || eqb n (refusal_number (Work 0))

sheet_has_lem : (r : Refusal) → sheet_has (refusal_number r) ≡ true
unfolding sheet_has
sheet_has_lem Short = refl
sheet_has_lem Mark = refl
sheet_has_lem Counts = refl
sheet_has_lem Layout = refl
sheet_has_lem (Window k) = refl
sheet_has_lem (Work k) = refl

-- ---- a call's answers, and what they say, where what is said means one answer

module _ {A R : Type 0} (says : R → Paper A) (meant : Paper A → R) (back : (r : R) → meant (says r) ≡ r) where
  -- two answers that say the same are one
  pub said_one : (r q : R) → says r ≡ says q → r ≡ q
  said_one r q e = sym (back r) ∙ ap meant e ∙ back q

  -- an answer that says what is defined is q exactly when that is defined which q says
  pub said_exactly : (r q : R) (defined : Paper A) → says r ≡ defined → (r ≡ q) ↔ (defined ≡ says q)
  said_exactly r q defined said = ((λ e. sym said ∙ ap says e), (λ e. said_one r q (said ∙ e)))

-- ---- two refusals, or two outcomes, that the paper writes alike are one

pub refusal_one : (A : Type 0) (r q : Refusal) → refusal_says {A = A} r ≡ refusal_says q → r ≡ q
refusal_one A = said_one refusal_says (by_refusal (λ p. p) Short) (by_refusal_lem A (λ p. p) Short)

outcome_back : (o : Result (Unit {0}) Refusal) → by_refusal Err (Ok tt) (outcome_says o) ≡ o
unfolding by_refusal
outcome_back (Ok leave) = refl
outcome_back (Err r) = by_refusal_lem _ Err (Ok tt) r

pub outcome_one : (o p : Result (Unit {0}) Refusal) → outcome_says o ≡ outcome_says p → o ≡ p
outcome_one = said_one outcome_says (by_refusal Err (Ok tt)) outcome_back

pub outcome_exactly : (o p : Result (Unit {0}) Refusal) (defined : Check) → outcome_says o ≡ defined → (o ≡ p) ↔ (defined ≡ outcome_says p)
outcome_exactly = said_exactly outcome_says (by_refusal Err (Ok tt)) outcome_back

-- what an outcome that accepts says, gives leave
pub says_gives : (o : Result (Unit {0}) Refusal) (x : Check) → o ≡ Ok tt → outcome_says o ≡ x → x ≡ gives tt
says_gives o x e h = sym h ∙ ap outcome_says e

-- ---- a call's own answers: those that are no refusal of a sheet or a table

abbrev pub Own : {A : Type 0} → Paper A → Type 0
Own a = (r : Refusal) → a ≡ refusal_says r → ⊥

pub own_given : {A : Type 0} (x : A) → Own (gives x)
own_given {A} x r e = subst Refuses (sym e) (refusal_refuses A r)

-- a call's own numbers are those that no sheet has
pub own_number : {A : Type 0} (a : Paper A) → sheet_has (number_of a) ≡ false → Own a
own_number {A} a none r e = let both : true ≡ false = sym (sheet_has_lem r) ∙ ap (λ (n : ℕ). sheet_has n) (sym (told r) ∙ sym (ap number_of e)) ∙ none in
    let z : ◌≡◌ {A = ℕ} 0 1 = cc in omega arith
  where
    told : (q : Refusal) → number_of (refusal_says {A = A} q) ≡ refusal_number q
    told Short = refl
    told Mark = refl
    told Counts = refl
    told Layout = refl
    told (Window k) = refl
    told (Work k) = refl

-- one of its own asked after another
pub own_else : {A : Type 0} (a : Check) (b : Bool) (rest : Paper A) → sheet_has (number_of a) ≡ false → Own rest → Own (a when b else rest)
own_else (gives x) true rest h own = own
own_else (refuses n) true rest h own = own_number (refuses n) h
own_else (refuses_at n k) true rest h own = own_number (refuses_at n k) h
own_else a false rest h own = own
