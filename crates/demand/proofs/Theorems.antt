-- The theorems on the search that are worth quoting, each of any result that its promise allows; and beneath them what the definitions find.
use Prim.Native.Nat.{ℕ, suc, ◌<◌, ◌≤◌}
use mathlib.Core.Path.{◌≡◌, refl, sym, ap, ◌∙◌, subst}
use mathlib.Core.Bool.{cond}
use mathlib.Core.Logic.Iff
use mathlib.Core.Logic.{◌↔◌, ⊎_elim}
use native.Mathlib.Decide.{dec_lt}
use native.Mathlib.Omega.{arith}
use lib.Dec.{eqb}
use Rattle.std.specs.Prelude.{Option, Some, None, Result, Ok, Err}
use Rattle.sheet.specs.HandedIn.{HandedIn, day_in, Sound, States}
use Rattle.sheet.specs.Paper.{Paper, gives, refuses, refuses_at}
use Rattle.sheet.specs.Table.{job_of, Day}
use Rattle.sheet.specs.WellFormed.{GoodDay, GivenFirst}
use Rattle.sheet.specs.declared.Refusal.{Refusal}
use Rattle.sheet.proofs.HandedIn.{sound_day, handed_on_exactly, own_exactly}
use Rattle.sheet.proofs.Refusals.{by_refusal, by_refusal_lem, said_one, said_exactly, own_given}
use Rattle.interval.specs.Demand.{kind_number, demand_of, supply_of, Overloaded}
use Rattle.demand.specs.Search.{Interval, overload_says, Answer, overloaded_is, none_is, found_says, searched_says, interval_of, is_release, is_deadline, first_overload, smallest_end, search_of, Searches}
use Rattle.interval.specs.declared.Kind.{Kind}
use Rattle.interval.specs.declared.Kind.TheVariants.{Time, Energy}
use Rattle.demand.specs.declared.Overload.{Overload}
use Rattle.demand.proofs.Findings.{release_exactly, deadline_exactly, found_or_not, interval_when, found_between, start_clear, latest_finds, tried_clear, smallest_finds}
use Rattle.demand.proofs.Shrinking.{inner_clear}

-- ---- what the definitions find

-- "the overloaded one with the smallest end, then the latest start, and there time before energy, with demand and supply": an interval from a job's
-- release to a job's deadline, before which no overloaded interval comes, whatever slots are its ends
pub record ComesFirst (d : Day) (o : Overload) : Type 0 where
  pub in_order : o.from < o.to
  pub in_day : o.to ≤ d.table.slots
  pub from_release : (k : ℕ) × (k < d.table.count) × ((job_of d.table k).release ≡ o.from)
  pub to_deadline : (k : ℕ) × (k < d.table.count) × ((job_of d.table k).deadline ≡ o.to)
  pub overloaded : Overloaded o.kind d o.from o.to
  pub demand : o.demand ≡ demand_of o.kind d o.from o.to
  pub supply : o.supply ≡ supply_of o.kind d o.from o.to
  pub smallest_end_is : (kind : Kind) (from to : ℕ) → from < to → to ≤ d.table.slots → Overloaded kind d from to → o.to ≤ to
  pub latest_start_is : (kind : Kind) (from : ℕ) → from < o.to → Overloaded kind d from o.to → from ≤ o.from
  pub time_first : Overloaded Time d o.from o.to → o.kind ≡ Time

-- no two slots are the ends of an overloaded interval, of either kind
abbrev pub NoneOverloaded : Day → ℕ → Type 0
NoneOverloaded d slots = (kind : Kind) (from to : ℕ) → from < to → to ≤ slots → Overloaded kind d from to → ⊥

module _ (d : Day) (good : GoodDay d) where
  -- where nothing is found up to a slot, no interval that ends there or before is overloaded
  none_upto : (n : ℕ) → smallest_end d n ≡ None → NoneOverloaded d n
  none_upto n e kind from to h l =
      inner_clear d good kind to from to (omega arith) (λ from' to' a b c. tried_clear d n e kind from' to' b (omega arith)) h

  pub finds_none : first_overload d ≡ None → NoneOverloaded d d.table.slots
  finds_none = none_upto d.table.slots

  pub finds_first : (o : Overload) → first_overload d ≡ Some o → ComesFirst d o
  finds_first o e =
      let end = smallest_finds d d.table.slots o e in
      let m = end.0 in
      let in_day = end.1 in
      let at_end = interval_when (is_deadline d (suc m)) _ o end.3 in
      let start = latest_finds d (suc m) (suc m) o at_end.1 in
      let from = start.0 in
      let latest = start.1 in
      let at_start = interval_when (is_release d from) _ o latest.gives in
      let found = found_between d from (suc m) o at_start.1 in
      subst (ComesFirst d) (sym found.is_it)
      (record {
        in_order = latest.below;
        in_day = omega arith;
        from_release = (release_exactly d from).0 at_start.0;
        to_deadline = (deadline_exactly d (suc m)).0 at_end.0;
        overloaded = found.over;
        demand = refl;
        supply = refl;
        smallest_end_is = λ kind from' to' h l over. elim (dec_lt m to') [ yes n ↦ n | no n ↦ absurd (none_upto m end.2 kind from' to' h (omega arith) over) ];
        latest_start_is =
            λ kind from' h over.
            elim (dec_lt from from') [
              | no n ↦ omega arith
              | yes n ↦
                  absurd
                  (inner_clear d good kind (suc m) from' (suc m) (omega arith)
                  (λ f t a b c release deadline.
                  elim (dec_lt m t) [
                    | no l ↦ tried_clear d m end.2 kind f t b (omega arith) release deadline
                    | yes l ↦
                        let same : suc m ≡ t = omega arith in
                        subst (λ (n : ℕ). Overloaded kind d f n → ⊥) same (start_clear d kind f (suc m) (latest.none_later f (omega arith) (omega arith)) release)
                  ])
                  h over)
            ];
        time_first = found.time;
      })

  -- at most one interval comes first: neither of two ends, starts or is of its kind before the other
  first_one : (o p : Overload) → ComesFirst d o → ComesFirst d p → o ≡ p
  first_one o p a b =
      let ends : o.to ≡ p.to = let l = end_first o p a b in let m = end_first p o b a in omega arith in
      let starts : o.from ≡ p.from = let l = start_first o p a b ends in let m = start_first p o b a (sym ends) in omega arith in
      let kinds = kind_one o.kind p.kind (time_too o p a b starts ends) (time_too p o b a (sym starts) (sym ends)) in
      is_interval o a ∙ rw (kinds, starts, ends) (sym (is_interval p b))
    where
      end_first : (o p : Overload) → ComesFirst d o → ComesFirst d p → o.to ≤ p.to
      end_first o p a b = a.smallest_end_is p.kind p.from p.to b.in_order b.in_day b.overloaded

      start_first : (o p : Overload) → ComesFirst d o → ComesFirst d p → o.to ≡ p.to → p.from ≤ o.from
      start_first o p a b e = let h = b.in_order in a.latest_start_is p.kind p.from (omega arith) (subst (Overloaded p.kind d p.from) (sym e) b.overloaded)

      time_too : (o p : Overload) → ComesFirst d o → ComesFirst d p → o.from ≡ p.from → o.to ≡ p.to → o.kind ≡ Time → p.kind ≡ Time
      time_too o p a b starts ends e = b.time_first (rw (← starts, ← ends) (subst (λ (k : Kind). Overloaded k d o.from o.to) e a.overloaded))

      kind_one : (k l : Kind) → (k ≡ Time → l ≡ Time) → (l ≡ Time → k ≡ Time) → k ≡ l
      kind_one Time l f g = sym (f refl)
      kind_one Energy Time f g = g refl
      kind_one Energy Energy f g = refl

      is_interval : (o : Overload) → ComesFirst d o → o ≡ interval_of o.kind d o.from o.to
      is_interval o a = λ i. record { kind = o.kind; from = o.from; to = o.to; demand = a.demand i; supply = a.supply i }

  first_exactly : (o : Overload) → (first_overload d ≡ Some o) ↔ ComesFirst d o
  first_exactly o = (
    finds_first o,
    (λ first.
        ⊎_elim
        (λ none. absurd (finds_none none o.kind o.from o.to first.in_order first.in_day first.overloaded))
        (λ w. w.1 ∙ ap Some (first_one w.0 o (finds_first w.0 w.1) first))
        (found_or_not (first_overload d))),
  )

  none_exactly : (first_overload d ≡ None) ↔ NoneOverloaded d d.table.slots
  none_exactly = (
    finds_none,
    (λ clear.
        ⊎_elim
        (λ none. none)
        (λ w. let f = finds_first w.0 w.1 in absurd (clear w.0.kind w.0.from w.0.to f.in_order f.in_day f.overloaded))
        (found_or_not (first_overload d))),
  )

-- ---- what is written tells what is meant

kind_meant : ℕ → Kind
kind_meant n = cond (eqb n 0) Time Energy

kind_back : (k : Kind) → kind_meant (kind_number k) ≡ k
unfolding kind_meant
kind_back Time = refl
kind_back Energy = refl

-- the interval that its numbers stand for
pub overload_meant : Interval → Overload
overload_meant i = record { kind = kind_meant i.kind; from = i.from; to = i.to; demand = i.demand; supply = i.supply }

pub overload_back : (o : Overload) → overload_meant (overload_says o) ≡ o
unfolding overload_meant
overload_back o = λ i. record { kind = kind_back o.kind i; from = o.from; to = o.to; demand = o.demand; supply = o.supply }

found_meant : Answer → Option Overload
found_meant (overloaded_is i) = Some (overload_meant i)
found_meant none_is = None

found_back : (x : Option Overload) → found_meant (found_says x) ≡ x
unfolding found_meant found_says
found_back (Some o) = ap Some (overload_back o)
found_back None = refl

-- two findings that the paper writes alike are the same
pub found_one : (x y : Option Overload) → found_says x ≡ found_says y → x ≡ y
found_one x y e = sym (found_back x) ∙ ap found_meant e ∙ found_back y

-- an answer of the search's own
own_meant : Paper Answer → Result (Option Overload) Refusal
own_meant (gives x) = Ok (found_meant x)
own_meant (refuses n) = Ok None
own_meant (refuses_at n k) = Ok None

searched_meant : Paper Answer → Result (Option Overload) Refusal
searched_meant a = by_refusal Err (own_meant a) a

searched_back : (r : Result (Option Overload) Refusal) → searched_meant (searched_says r) ≡ r
unfolding searched_meant own_meant by_refusal
searched_back (Ok found) = ap Ok (found_back found)
searched_back (Err why) = by_refusal_lem Answer Err _ why

pub says_one : (r q : Result (Option Overload) Refusal) → searched_says r ≡ searched_says q → r ≡ q
says_one = said_one searched_says searched_meant searched_back

-- ---- the theorems

-- any two results that the promise allows are equal
pub one_result : {h : HandedIn} {r q : Result (Option Overload) Refusal} → Searches h r → Searches h q → r ≡ q
one_result {h} {r} {q} p s = says_one r q (p.answer ∙ sym s.answer)

module _ (h : HandedIn) (r : Result (Option Overload) Refusal) (promised : Searches h r) where
  answered : (q : Result (Option Overload) Refusal) → (r ≡ q) ↔ (search_of h ≡ searched_says q)
  answered q = said_exactly searched_says searched_meant searched_back r q _ promised.answer

  -- a refusal is answered exactly when it is stated and nothing earlier applies
  pub search_refused_exactly : (why : Refusal) → (r ≡ Err why) ↔ GivenFirst (States h) why
  unfolding search_of
  search_refused_exactly why = Iff.trans (answered (Err why)) (handed_on_exactly h _ (own_given _) why)

  -- what is found is answered exactly when what was handed in is sound
  found_exactly : (x : Option Overload) {P : Type 0} → (GoodDay (day_in h) → (first_overload (day_in h) ≡ x) ↔ P) → (search_of h ≡ gives (found_says x)) ↔ (Sound h × P)
  unfolding search_of
  found_exactly x words =
      Iff.trans
      (own_exactly h _ (gives (found_says x)) (own_given _) ((λ e. found_one _ x (cc)), (λ e. ap (λ (y : Option Overload). gives (found_says y)) e)))
      ((λ g. (g.0, (words (sound_day h g.0)).0 g.1)), (λ g. (g.0, (words (sound_day h g.0)).1 g.1)))

  -- an interval is answered exactly when the day is well formed and that interval is the overloaded one that comes first
  pub search_finds : (o : Overload) → (r ≡ Ok (Some o)) ↔ (Sound h × ComesFirst (day_in h) o)
  search_finds o = Iff.trans (answered (Ok (Some o))) (found_exactly (Some o) (λ good. first_exactly (day_in h) good o))

  -- none is answered exactly when the day is well formed and no interval of it is overloaded, in either kind, whatever slots are its ends
  pub search_clear : (r ≡ Ok None) ↔ (Sound h × NoneOverloaded (day_in h) (day_in h).table.slots)
  search_clear = Iff.trans (answered (Ok None)) (found_exactly None (λ good. none_exactly (day_in h) good))
