-- What can be relied on: the theorems that join the planner and the judge, of any results that the calls' promises allow, once for whatever was handed in.
use Prim.Native.Nat.{ℕ, ◌<◌}
use mathlib.Core.Path.{◌≡◌, refl, sym, subst}
use mathlib.Core.List.{List}
use mathlib.Core.Logic.{inl, inr}
use native.Mathlib.Omega.{arith}
use lib.ListN.{length}
use borrow.Author.Tests.{eq-eqb}
use Rattle.std.specs.Prelude.{Option, Some, None, Result, Ok}
use Rattle.sheet.specs.HandedIn.{HandedIn, on_sheet, on_table, check_says, day_in, Sound}
use Rattle.sheet.specs.Paper.{gives}
use Rattle.sheet.specs.Sheet.{slots_in, table_in}
use Rattle.sheet.specs.Table.{day_of}
use Rattle.sheet.specs.WellFormed.{GoodDay, WellFormed}
use Rattle.sheet.specs.declared.Table.{Table}
use Rattle.sheet.proofs.HandedIn.{check_leaves, sound_day}
use Rattle.interval.specs.Demand.{kind_number}
use Rattle.demand.specs.Search.{first_overload}
use Rattle.demand.specs.declared.Overload.{Overload}
use Rattle.demand.proofs.Theorems.{finds_first, finds_none}
use Rattle.choice.specs.Choosing.{left_of, unfinished}
use Rattle.slot_run.specs.Run.{state_at, plan_of}
use Rattle.choice.proofs.Choosing.{nobody_unfinished}
use Rattle.planner.specs.Plan.{verdict_of, plan_for, plan_left}
use Rattle.planner.specs.Promise.{Plans}
use Rattle.planner.specs.declared.Planned.{Planned}
use Rattle.planner.specs.declared.PlannerRefusal.{PlannerRefusal}
use Rattle.planner.specs.declared.Planned.TheVariants.{Overloaded, Met, Undecided}
use Rattle.planner.proofs.Theorems.{one_plan}
use Rattle.judge.specs.Promise.{JudgesPlan, JudgesClaim}
use Rattle.judge.specs.declared.PlanRefusal.{PlanRefusal}
use Rattle.judge.specs.declared.Sums.{Sums}
use Rattle.judge.specs.declared.ClaimRefusal.{ClaimRefusal}
use Rattle.judge.proofs.Theorems.{plan_accepted_exactly, claim_accepted_exactly, acceptable_is_accepted, overloaded_is_accepted}
use Rattle.theorems.specs.Even.{EvenDay, PlanAccepted, ClaimAccepted, Decided}
use Rattle.theorems.proofs.EvenRun.{even_run_finishes}
use Rattle.theorems.proofs.MetDays.{met_plans}
use Rattle.theorems.proofs.NoBoth.{no_plan_and_claim}
use Rattle.theorems.proofs.RunPlan.{met_run_is_acceptable}

-- ---- "No sheet has both an acceptable plan and an acceptable interval"

-- the judge never accepts both a plan and a claim of what was handed in
pub never_both_accepted : (h : HandedIn) (plan : List ℕ) (number from to : ℕ) (p : Result (Unit {0}) PlanRefusal) (c : Result Sums ClaimRefusal) (sums : Sums)
    → JudgesPlan h plan p → JudgesClaim h number from to c → p ≡ Ok tt → c ≡ Ok sums → ⊥
never_both_accepted h plan number from to p c sums plan_said claim_said accepts_plan accepts_claim =
    let good = (plan_accepted_exactly h plan p plan_said).0 accepts_plan in
    let over = (claim_accepted_exactly h number from to c claim_said sums).0 accepts_claim in
    no_plan_and_claim (day_in h) plan (sound_day h good.0) good.1 number from to over.1

pub no_sheet_has_both : (s plan : List ℕ) (number from to : ℕ) (p : Result (Unit {0}) PlanRefusal) (c : Result Sums ClaimRefusal) (sums : Sums)
    → JudgesPlan (on_sheet s) plan p → JudgesClaim (on_sheet s) number from to c → p ≡ Ok tt → c ≡ Ok sums → ⊥
no_sheet_has_both s = never_both_accepted (on_sheet s)

pub no_table_has_both : (t : Table) (harvest plan : List ℕ) (number from to : ℕ) (p : Result (Unit {0}) PlanRefusal) (c : Result Sums ClaimRefusal) (sums : Sums)
    → JudgesPlan (on_table t harvest) plan p → JudgesClaim (on_table t harvest) number from to c → p ≡ Ok tt → c ≡ Ok sums → ⊥
no_table_has_both t harvest = never_both_accepted (on_table t harvest)

-- ---- a plan that the planner calls met

-- what it wrote, the judge accepts
pub met_is_accepted : (h : HandedIn) (plan : List ℕ) (r : Result Planned PlannerRefusal) (after : List ℕ) → Plans h plan r after → r ≡ Ok Met → PlanAccepted h after
met_is_accepted h plan r after planned e =
    let met = met_plans h plan r after planned e in
    let finished = (nobody_unfinished (day_in h) (state_at (day_in h) (day_in h).table.slots)).0 met.2 in
    let is = acceptable_is_accepted h (plan_of (day_in h)) met.0 (met_run_is_acceptable (day_in h) (sound_day h met.0) finished) in
    subst (PlanAccepted h) (sym met.1) (record { answers = is.0; nothing_else = is.1 })

-- ---- even days

module _ (h : HandedIn) (plan : List ℕ) (good : Sound h) (fits : length plan ≡ (day_in h).table.slots) where
  -- past the checks, the planner's answer and buffer are the day's
  leave : check_says h ≡ gives tt
  leave = (check_leaves h).1 good

  -- an overloaded day: that interval, and the judge accepts it
  brings_interval : (o : Overload) → first_overload (day_in h) ≡ Some o → Plans h plan (Ok (Overloaded o)) plan
  unfolding plan_for plan_left verdict_of
  brings_interval o e = record { answer = rw (leave, eq-eqb _ _ fits, e); buffer = rw (leave, eq-eqb _ _ fits, e) }

  accepts_interval : (o : Overload) → first_overload (day_in h) ≡ Some o → ClaimAccepted h (kind_number o.kind) o.from o.to
  accepts_interval o e =
      let first = finds_first (day_in h) (sound_day h good) o e in
      let is =
      overloaded_is_accepted h (kind_number o.kind) o.from o.to good
      (record { kind = o.kind; kind_is = refl; in_order = first.in_order; in_day = first.in_day; overloaded = first.overloaded }) in
      record { sums = is.0; answers = is.1; nothing_else = is.2 }

  -- a day that its run meets: the plan
  brings_plan : first_overload (day_in h) ≡ None → unfinished (day_in h) (state_at (day_in h) (day_in h).table.slots) ≡ None
      → Plans h plan (Ok Met) (plan_of (day_in h))
  unfolding plan_for plan_left verdict_of
  brings_plan e u = record { answer = rw (leave, eq-eqb _ _ fits, e, u); buffer = rw (leave, eq-eqb _ _ fits, e, u) }

  module _ (even : EvenDay (day_in h)) where
    finishes : first_overload (day_in h) ≡ None → (k : ℕ) → k < (day_in h).table.count → left_of (state_at (day_in h) (day_in h).table.slots) k ≡ 0
    finishes e = even_run_finishes (day_in h) (sound_day h good) even (finds_none (day_in h) (sound_day h good) e)

    decides : (x : Option Overload) → first_overload (day_in h) ≡ x → (r : Result Planned PlannerRefusal) (after : List ℕ) → Plans h plan r after → Decided h plan r after
    decides (Some o) e r after planned =
        let same = one_plan planned (brings_interval o e) in
        inr (o, same.0, same.1, accepts_interval o e)
    decides None e r after planned =
        let is_met = (one_plan planned (brings_plan e ((nobody_unfinished (day_in h) (state_at (day_in h) (day_in h).table.slots)).1 (finishes e)))).0 in
        inl (is_met, met_is_accepted h plan r after planned is_met)

-- "our planner's answer is one of the two, and the judge accepts it"
pub even_is_decided : (h : HandedIn) (plan : List ℕ) → Sound h → EvenDay (day_in h) → length plan ≡ (day_in h).table.slots
    → (r : Result Planned PlannerRefusal) (after : List ℕ) → Plans h plan r after → Decided h plan r after
even_is_decided h plan good even fits = decides h plan good fits even _ refl

-- "it is never "undecided""
pub undecided_is_not_decided : (h : HandedIn) (plan after : List ℕ) (k : ℕ) → Decided h plan (Ok (Undecided k)) after → ⊥
undecided_is_not_decided h plan after k (inl met) = let e = met.0 in let z : ◌≡◌ {A = ℕ} 0 1 = cc in omega arith
undecided_is_not_decided h plan after k (inr over) = let e = over.1 in let z : ◌≡◌ {A = ℕ} 0 1 = cc in omega arith

pub even_is_never_undecided : (h : HandedIn) (plan : List ℕ) → Sound h → EvenDay (day_in h) → length plan ≡ (day_in h).table.slots
    → (k : ℕ) (after : List ℕ) → Plans h plan (Ok (Undecided k)) after → ⊥
even_is_never_undecided h plan good even fits k after planned =
    undecided_is_not_decided h plan after k (even_is_decided h plan good even fits (Ok (Undecided k)) after planned)

-- "On every well-formed even sheet .., lent a plan buffer of its slots"; and on every well-formed table with its harvest
pub even_days_are_decided : (s plan : List ℕ) → WellFormed s → EvenDay (day_in (on_sheet s)) → length plan ≡ slots_in s
    → (r : Result Planned PlannerRefusal) (after : List ℕ) → Plans (on_sheet s) plan r after → Decided (on_sheet s) plan r after
unfolding table_in
even_days_are_decided s = even_is_decided (on_sheet s)

pub even_days_are_never_undecided : (s plan : List ℕ) → WellFormed s → EvenDay (day_in (on_sheet s)) → length plan ≡ slots_in s
    → (k : ℕ) (after : List ℕ) → Plans (on_sheet s) plan (Ok (Undecided k)) after → ⊥
unfolding table_in
even_days_are_never_undecided s = even_is_never_undecided (on_sheet s)

pub even_tables_are_decided : (t : Table) (harvest plan : List ℕ) → GoodDay (day_of t harvest) → EvenDay (day_of t harvest) → length plan ≡ t.slots
    → (r : Result Planned PlannerRefusal) (after : List ℕ) → Plans (on_table t harvest) plan r after → Decided (on_table t harvest) plan r after
even_tables_are_decided t harvest = even_is_decided (on_table t harvest)

pub even_tables_are_never_undecided : (t : Table) (harvest plan : List ℕ) → GoodDay (day_of t harvest) → EvenDay (day_of t harvest) → length plan ≡ t.slots
    → (k : ℕ) (after : List ℕ) → Plans (on_table t harvest) plan (Ok (Undecided k)) after → ⊥
even_tables_are_never_undecided t harvest = even_is_never_undecided (on_table t harvest)
