-- Laws of the search's definitions: what is found at one interval, among the starts for one end, and among the ends.
use Prim.Native.Nat.{ℕ, zero, suc, ◌<◌, ◌≤◌}
use mathlib.Core.Path.{◌≡◌, refl, sym, ◌∙◌, subst}
use mathlib.Core.Bool.{Bool, true, false, cond}
use mathlib.Core.Logic.{◌↔◌, ◌⊎◌, inl, inr, ⊎_elim}
use native.Mathlib.Nat.{not-suc-le-zero}
use native.Mathlib.Decide.{dec_lt}
use native.Mathlib.Omega.{arith}
use lib.Dec.{ltb, eqb}
use borrow.Author.Count.{below_more}
use Rattle.std.specs.Prelude.{Option, Some, None}
use Rattle.std.specs.Option.{option_or}
use borrow.Author.Tests.{ltb-true, ltb-false, eq-eqb, eqb-true}
use Rattle.sheet.proofs.Exactly.{either}
use Rattle.sheet.proofs.Sums.{some_here, some_where}
use Rattle.sheet.specs.Sums.{some}
use Rattle.sheet.specs.Table.{job_of, Day}
use Rattle.interval.specs.Demand.{Overloaded, overloaded}
use Rattle.demand.specs.Search.{interval_of, is_release, is_deadline, found_at, latest_start, smallest_end}
use Rattle.interval.specs.declared.Kind.{Kind}
use Rattle.interval.specs.declared.Kind.TheVariants.{Time, Energy}
use Rattle.demand.specs.declared.Overload.{Overload}

-- ---- a job's release and a job's deadline

some_job : (f : ℕ → ℕ) (n slot : ℕ) → (some (λ k. eqb (f k) slot) n ≡ true) ↔ ((k : ℕ) × (k < n) × (f k ≡ slot))
some_job f n slot = (
  (λ e. let w = some_where _ n e in (w.0, w.1, eqb-true _ _ w.2)),
  (λ w. some_here _ n w.0 w.1 (eq-eqb _ _ w.2)),
)

pub release_exactly : (d : Day) (slot : ℕ) → (is_release d slot ≡ true) ↔ ((k : ℕ) × (k < d.table.count) × ((job_of d.table k).release ≡ slot))
unfolding is_release
release_exactly d = some_job (λ k. (job_of d.table k).release) d.table.count

pub deadline_exactly : (d : Day) (slot : ℕ) → (is_deadline d slot ≡ true) ↔ ((k : ℕ) × (k < d.table.count) × ((job_of d.table k).deadline ≡ slot))
unfolding is_deadline
deadline_exactly d = some_job (λ k. (job_of d.table k).deadline) d.table.count

-- ---- a finding, under a test, and the first of two

pub found_or_not : (x : Option Overload) → (x ≡ None) ⊎ ((o : Overload) × (x ≡ Some o))
found_or_not None = inl refl
found_or_not (Some o) = inr (o, refl)

nothing_when : (b : Bool) (x : Option Overload) → cond b x None ≡ None → b ≡ true → x ≡ None
nothing_when true x e b = e
nothing_when false x e b = cc

pub interval_when : (b : Bool) (x : Option Overload) (o : Overload) → cond b x None ≡ Some o → (b ≡ true) × (x ≡ Some o)
interval_when true x o e = (refl, e)
interval_when false x o e = absurd (cc)

or_nothing : (x y : Option Overload) → option_or x y ≡ None → (x ≡ None) × (y ≡ None)
or_nothing None y e = (refl, e)
or_nothing (Some o) y e = absurd (cc)

or_interval : (x y : Option Overload) (o : Overload) → option_or x y ≡ Some o → (x ≡ Some o) ⊎ ((x ≡ None) × (y ≡ Some o))
or_interval None y o e = inr (refl, e)
or_interval (Some p) y o e = inl e

module _ (d : Day) where
  -- ---- one interval

  -- the interval found between two slots
  pub record FoundBetween (from to : ℕ) (o : Overload) : Type 0 where
    pub is_it : o ≡ interval_of o.kind d from to
    pub over : Overloaded o.kind d from to
    pub time : Overloaded Time d from to → o.kind ≡ Time

  -- one is found there, or neither kind is overloaded
  abbrev FoundAs : ℕ → ℕ → Type 0
  FoundAs from to =
      ((o : Overload) × (found_at d from to ≡ Some o) × FoundBetween from to o)
      ⊎ ((found_at d from to ≡ None) × ((kind : Kind) → Overloaded kind d from to → ⊥))

  found_as : (from to : ℕ) → FoundAs from to
  unfolding found_at overloaded
  found_as from to =
      ⊎_elim
      (λ (a : overloaded Time d from to ≡ true). inl (interval_of Time d from to, rw a, record { is_it = refl; over = ltb-true _ _ a; time = λ l. refl }))
      (λ (a : overloaded Time d from to ≡ false).
      ⊎_elim
      (λ (b : overloaded Energy d from to ≡ true). inl (interval_of Energy d from to, rw (a, b), record { is_it = refl; over = ltb-true _ _ b; time = λ l. absurd (not_below _ _ a l) }))
      (λ (b : overloaded Energy d from to ≡ false). inr (rw (a, b), neither a b))
      (either (overloaded Energy d from to)))
      (either (overloaded Time d from to))
    where
      not_below : (m n : ℕ) → ltb m n ≡ false → m < n → ⊥
      not_below m n e h = let l = ltb-false m n e in omega arith

      neither : overloaded Time d from to ≡ false → overloaded Energy d from to ≡ false → (kind : Kind) → Overloaded kind d from to → ⊥
      neither a b Time = not_below _ _ a
      neither a b Energy = not_below _ _ b

  pub found_between : (from to : ℕ) (o : Overload) → found_at d from to ≡ Some o → FoundBetween from to o
  found_between from to o e =
      ⊎_elim (λ w. let same : w.0 ≡ o = one w.0 (sym w.1 ∙ e) in subst (FoundBetween from to) same w.2) (λ w. let none = w.0 in absurd (cc)) (found_as from to)
    where
      one : (p : Overload) → Some p ≡ Some o → p ≡ o
      one p e = cc

  -- ---- the starts for one end, and the ends: what a slot gives, nothing where it is no job's release or deadline

  abbrev pub start_at : ℕ → ℕ → Option Overload
  start_at to from = cond (is_release d from) (found_at d from to) None

  abbrev pub end_at : ℕ → Option Overload
  end_at to = cond (is_deadline d to) (latest_start d to to) None

  -- a start that was tried and gave nothing is not overloaded
  pub start_clear : (kind : Kind) (from to : ℕ) → start_at to from ≡ None → is_release d from ≡ true → Overloaded kind d from to → ⊥
  start_clear kind from to e release =
      ⊎_elim (λ w. let none = nothing_when _ _ e release in let some_is = w.1 in absurd (cc)) (λ w. w.1 kind) (found_as from to)

  latest_clear : (to n : ℕ) → latest_start d to n ≡ None → (i : ℕ) → i < n → start_at to i ≡ None
  unfolding latest_start
  latest_clear to zero e i h = absurd (not-suc-le-zero h)
  latest_clear to (suc n) e i h = let both = or_nothing (start_at to n) _ e in below_more (λ i. start_at to i ≡ None) n (latest_clear to n both.1) both.0 i (omega arith)

  -- one start below n gives this, and none after it gives anything
  pub record LatestAt (to n : ℕ) (o : Overload) (from : ℕ) : Type 0 where
    pub below : from < n
    pub gives : start_at to from ≡ Some o
    pub none_later : (i : ℕ) → i < n → from < i → start_at to i ≡ None

  pub latest_finds : (to n : ℕ) (o : Overload) → latest_start d to n ≡ Some o → (from : ℕ) × LatestAt to n o from
  unfolding latest_start
  latest_finds to zero o e = absurd (cc)
  latest_finds to (suc n) o e =
      ⊎_elim
      (λ here. (n, record { below = omega arith; gives = here; none_later = λ i a b. absurd (omega arith) }))
      (λ w.
      let rest = latest_finds to n o w.1 in
      let l = rest.1 in (
        rest.0,
        record {
          below = let b = l.below in omega arith;
          gives = l.gives;
          none_later = λ i h. below_more (λ i. rest.0 < i → start_at to i ≡ None) n l.none_later (λ h. w.0) i (omega arith);
        },
      ))
      (or_interval (start_at to n) _ o e)

  -- where nothing is found up to slot n, no interval from a release to a deadline up to n is overloaded
  pub tried_clear : (n : ℕ) → smallest_end d n ≡ None → (kind : Kind) (from to : ℕ) → from < to → to ≤ n
      → is_release d from ≡ true → is_deadline d to ≡ true → Overloaded kind d from to → ⊥
  unfolding smallest_end
  tried_clear zero e kind from to h l release deadline over = omega arith
  tried_clear (suc n) e kind from to h l release deadline over =
      let both = or_nothing (smallest_end d n) _ e in
      elim (dec_lt n to) [
        | yes m ↦
            let same : suc n ≡ to = omega arith in
            let none : end_at to ≡ None = subst (λ (j : ℕ). end_at j ≡ None) same both.1 in
            start_clear kind from to (latest_clear to to (nothing_when _ _ none deadline) from h) release over
        | no m ↦ tried_clear n both.0 kind from to h (omega arith) release deadline over
      ]

  -- what is found is found at an end up to which nothing else was
  pub smallest_finds : (n : ℕ) (o : Overload) → smallest_end d n ≡ Some o
      → (m : ℕ) × (m < n) × (smallest_end d m ≡ None) × (end_at (suc m) ≡ Some o)
  unfolding smallest_end
  smallest_finds zero o e = absurd (cc)
  smallest_finds (suc n) o e =
      ⊎_elim
      (λ w. let rest = smallest_finds n o w in let l = rest.1 in (rest.0, omega arith, rest.2, rest.3))
      (λ w. (n, omega arith, w.0, w.1))
      (or_interval (smallest_end d n) _ o e)
