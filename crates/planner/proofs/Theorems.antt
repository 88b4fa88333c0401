-- The theorems on the planner that are worth quoting, of any answer and buffer that its promise allows, once for whatever was handed in.
use Prim.Native.Nat.{ℕ}
use mathlib.Core.Path.{◌≡◌, refl, sym, ap, ◌∙◌, subst}
use mathlib.Core.Bool.{not}
use mathlib.Core.Logic.Iff
use mathlib.Core.Logic.{◌↔◌}
use mathlib.Core.List.{List}
use lib.Dec.{eqb}
use lib.ListN.{length}
use Rattle.sheet.specs.HandedIn.{HandedIn, on_sheet, on_table, check_says, day_in, Sound, States}
use Rattle.sheet.specs.Paper.{Paper, gives, refuses, refuses_at, ◌when◌, ◌else◌}
use Rattle.sheet.specs.Sheet.{slots_in, table_in}
use Rattle.sheet.specs.Table.{day_of}
use Rattle.sheet.specs.WellFormed.{GoodDay, WellFormed, SheetStates, TableStates, GivenFirst}
use Rattle.sheet.specs.declared.Refusal.{Refusal}
use Rattle.sheet.specs.declared.Table.{Table}
use Rattle.sheet.proofs.HandedIn.{check_leaves, handed_on_exactly, asked_exactly}
use Rattle.sheet.proofs.Order.{Refuses, else_gave, gives_one, where_given_lem, where_refused}
use Rattle.sheet.proofs.Refusals.{by_refusal, by_refusal_lem, said_one, said_exactly, refusal_refuses, sheet_has, own_given, own_else}
use Rattle.sheet.proofs.Stated.{differs, with_place}
use Rattle.demand.specs.Search.{overload_says}
use Rattle.demand.specs.declared.Overload.{Overload}
use Rattle.demand.proofs.Theorems.{overload_meant, overload_back}
use Rattle.slot_run.specs.Run.{plan_of}
use Rattle.planner.specs.Plan.{Verdict, overloaded, met, undecided, verdict_of, wrong_plan, plan_for, buffer_by, plan_left}
use Rattle.planner.specs.Promise.{planned_says, Plans}
use Rattle.planner.specs.declared.Planned.{Planned}
use Rattle.planner.specs.declared.Planned.TheVariants.{Overloaded, Met, Undecided}
use Rattle.planner.specs.declared.PlannerRefusal.{PlannerRefusal}
use Rattle.planner.specs.declared.PlannerRefusal.TheVariants.{WrongPlan}
use Rattle.std.specs.Prelude.{Result, Ok, Err}

-- ---- any two results that the promise allows are equal: the answer, and every byte of the buffer

abbrev handed_on : Refusal → Result Planned PlannerRefusal
handed_on why = Err (PlannerRefusal.HandedIn why)

own_meant : Paper Verdict → Result Planned PlannerRefusal
own_meant (gives (overloaded i)) = Ok (Overloaded (overload_meant i))
own_meant (gives met) = Ok Met
own_meant (gives (undecided k)) = Ok (Undecided k)
own_meant (refuses n) = Err WrongPlan
own_meant (refuses_at n k) = Err WrongPlan

meant : Paper Verdict → Result Planned PlannerRefusal
meant a = by_refusal handed_on (own_meant a) a

back : (p : Result Planned PlannerRefusal) → meant (planned_says p) ≡ p
unfolding meant by_refusal own_meant
back (Err (PlannerRefusal.HandedIn why)) = by_refusal_lem Verdict handed_on _ why
back (Err WrongPlan) = refl
back (Ok (Overloaded o)) = ap (λ (p : Overload). Ok (Overloaded p)) (overload_back o)
back (Ok Met) = refl
back (Ok (Undecided k)) = refl

pub one_plan : {h : HandedIn} {plan after after' : List ℕ} {r q : Result Planned PlannerRefusal} → Plans h plan r after → Plans h plan q after' → (r ≡ q) × (after ≡ after')
one_plan {r = r} {q = q} a b = (said_one planned_says meant back r q (a.answer ∙ sym b.answer), a.buffer ∙ sym b.buffer)

module _ (h : HandedIn) (plan : List ℕ) (r : Result Planned PlannerRefusal) (after : List ℕ) (planned : Plans h plan r after) where
  as_said : (q : Result Planned PlannerRefusal) → (r ≡ q) ↔ (plan_for h plan ≡ planned_says q)
  as_said q = said_exactly planned_says meant back r q _ planned.answer

  -- 1 to 6 are given exactly when each is stated and nothing earlier applies
  pub plan_refused_exactly : (why : Refusal) → (r ≡ Err (PlannerRefusal.HandedIn why)) ↔ GivenFirst (States h) why
  unfolding plan_for sheet_has
  plan_refused_exactly why =
      Iff.trans (as_said (Err (PlannerRefusal.HandedIn why))) (handed_on_exactly h _ (own_else wrong_plan (not (eqb (length plan) (day_in h).table.slots)) _ refl (own_given _)) why)

  -- 7 is given exactly when nothing earlier is and the plan buffer's length is not slots
  pub wrong_plan_exactly : (r ≡ Err WrongPlan) ↔ (Sound h × (length plan ≡ (day_in h).table.slots → ⊥))
  unfolding plan_for sheet_has
  wrong_plan_exactly =
      Iff.trans (as_said (Err WrongPlan))
      (Iff.trans (asked_exactly h _ (not (eqb (length plan) (day_in h).table.slots)) (gives (verdict_of (day_in h))) refl (λ e. subst Refuses (sym e) tt))
      (with_place (differs (length plan) (day_in h).table.slots)))

  -- After a refusal every byte of the plan buffer is what it was,
  left_as_it_was : Refuses (planned_says r) → after ≡ plan
  unfolding plan_left
  left_as_it_was refused =
      planned.buffer
      ∙ where_refused (plan_for h plan) (buffer_by (verdict_of (day_in h)) (plan_of (day_in h)) plan) plan (subst Refuses planned.answer refused)

  pub refused_plan_leaves_the_buffer : (why : Refusal) → r ≡ Err (PlannerRefusal.HandedIn why) → after ≡ plan
  refused_plan_leaves_the_buffer why e = left_as_it_was (rw e (refusal_refuses Verdict why))

  pub wrong_plan_leaves_the_buffer : r ≡ Err WrongPlan → after ≡ plan
  wrong_plan_leaves_the_buffer e = left_as_it_was (rw e tt)

  -- where a verdict is given, what was handed in is sound, the verdict is the day's, and the buffer is left by it
  pub verdict_given : (v : Verdict) → planned_says r ≡ gives v → Sound h × (verdict_of (day_in h) ≡ v) × (after ≡ buffer_by v (plan_of (day_in h)) plan)
  unfolding plan_for plan_left
  verdict_given v e =
      let d = day_in h in
      let says : plan_for h plan ≡ gives v = sym planned.answer ∙ e in
      let first = else_gave (check_says h) (wrong_plan when not (eqb (length plan) d.table.slots) else gives (verdict_of d)) v says in
      let verdict = gives_one _ _ (else_gave (wrong_plan when not (eqb (length plan) d.table.slots)) (gives (verdict_of d)) v first.1).1 in (
        (check_leaves h).0 first.0,
        verdict,
        planned.buffer
            ∙ where_given_lem (plan_for h plan) v (buffer_by (verdict_of d) (plan_of d) plan) plan says
            ∙ ap (λ (w : Verdict). buffer_by w (plan_of d) plan) verdict,
      )

  -- and it is what it was where an overloaded interval is named, too
  pub overloaded_plan_leaves_the_buffer : (o : Overload) → r ≡ Ok (Overloaded o) → after ≡ plan
  overloaded_plan_leaves_the_buffer o e = (verdict_given (overloaded (overload_says o)) (ap planned_says e)).2

-- ---- the two ways in, each under its own name

module _ (s plan : List ℕ) where
  pub sheet_plan_refused_exactly : (r : Result Planned PlannerRefusal) (after : List ℕ) → Plans (on_sheet s) plan r after → (why : Refusal) → (r ≡ Err (PlannerRefusal.HandedIn why)) ↔ GivenFirst (SheetStates s) why
  sheet_plan_refused_exactly = plan_refused_exactly (on_sheet s) plan

  pub wrong_sheet_plan_exactly : (r : Result Planned PlannerRefusal) (after : List ℕ) → Plans (on_sheet s) plan r after → (r ≡ Err WrongPlan) ↔ (WellFormed s × (length plan ≡ slots_in s → ⊥))
  unfolding table_in
  wrong_sheet_plan_exactly = wrong_plan_exactly (on_sheet s) plan

  pub one_sheet_plan : {after after' : List ℕ} {r q : Result Planned PlannerRefusal} → Plans (on_sheet s) plan r after → Plans (on_sheet s) plan q after' → (r ≡ q) × (after ≡ after')
  one_sheet_plan = one_plan

module _ (t : Table) (harvest plan : List ℕ) where
  pub table_plan_refused_exactly : (r : Result Planned PlannerRefusal) (after : List ℕ) → Plans (on_table t harvest) plan r after → (why : Refusal)
      → (r ≡ Err (PlannerRefusal.HandedIn why)) ↔ GivenFirst (TableStates (day_of t harvest)) why
  table_plan_refused_exactly = plan_refused_exactly (on_table t harvest) plan

  pub wrong_table_plan_exactly : (r : Result Planned PlannerRefusal) (after : List ℕ) → Plans (on_table t harvest) plan r after
      → (r ≡ Err WrongPlan) ↔ (GoodDay (day_of t harvest) × (length plan ≡ t.slots → ⊥))
  wrong_table_plan_exactly = wrong_plan_exactly (on_table t harvest) plan

  pub one_table_plan : {after after' : List ℕ} {r q : Result Planned PlannerRefusal} → Plans (on_table t harvest) plan r after → Plans (on_table t harvest) plan q after'
      → (r ≡ q) × (after ≡ after')
  one_table_plan = one_plan
