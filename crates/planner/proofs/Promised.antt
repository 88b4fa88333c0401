-- The planner's promise at each of its answers, of anything handed in.
use Prim.Native.Nat.{ℕ}
use mathlib.Core.Path.{◌≡◌, sym, ap, ◌∙◌}
use mathlib.Core.Bool.{true}
use mathlib.Core.List.{List}
use lib.Dec.{eqb}
use lib.ListN.{length}
use borrow.Author.Tests.{eq-eqb, ne_eqb}
use Rattle.std.specs.Prelude.{Option, Some, None, Ok, Err}
use Rattle.sheet.specs.HandedIn.{HandedIn, check_says, day_in}
use Rattle.sheet.specs.Paper.{gives}
use Rattle.sheet.specs.Refusals.{refusal_says}
use Rattle.sheet.specs.Table.{Day}
use Rattle.sheet.specs.declared.Refusal.{Refusal}
use Rattle.sheet.proofs.HandedIn.{hands_on}
use Rattle.sheet.proofs.Refusals.{refusal_gives_nothing}
use Rattle.demand.specs.Search.{first_overload}
use Rattle.demand.specs.declared.Overload.{Overload}
use Rattle.choice.specs.Choosing.{unfinished}
use Rattle.slot_run.specs.Run.{state_at, plan_of}
use Rattle.planner.specs.Plan.{Verdict, by_unfinished, verdict_of, plan_for, plan_left}
use Rattle.planner.specs.Promise.{Plans}
use Rattle.planner.specs.declared.Planned.TheVariants.{Overloaded, Met, Undecided}
use Rattle.planner.specs.declared.PlannerRefusal.{PlannerRefusal}
use Rattle.planner.specs.declared.PlannerRefusal.TheVariants.{WrongPlan}

-- a refusal is handed on, and the buffer is as it was
pub plan_refused : (h : HandedIn) (why : Refusal) → check_says h ≡ refusal_says why → (plan : List ℕ) → Plans h plan (Err (PlannerRefusal.HandedIn why)) plan
unfolding plan_for plan_left
plan_refused h why refused plan =
    let says : plan_for h plan ≡ refusal_says why = hands_on h _ why refused in
    record { answer = sym says; buffer = rw says (sym (refusal_gives_nothing Verdict why _ plan)) }

-- ---- past the check, of the day that was handed in

module _ (h : HandedIn) (d : Day) (plan : List ℕ) (checked : (check_says h ≡ gives tt) × (d ≡ day_in h)) where
  slots : d.table.slots ≡ (day_in h).table.slots
  slots = ap (λ (x : Day). x.table.slots) checked.1

  pub plans_wrong : (length plan ≡ d.table.slots → ⊥) → Plans h plan (Err WrongPlan) plan
  unfolding plan_for plan_left
  plans_wrong unfit =
      let other = sym (ap (eqb (length plan)) slots) ∙ ne_eqb _ _ unfit in
      record { answer = rw (checked.0, other); buffer = rw (checked.0, other) }

  module _ (fit : length plan ≡ d.table.slots) (found : Option Overload) (said : found ≡ first_overload d) where
    fits : eqb (length plan) (day_in h).table.slots ≡ true
    fits = sym (ap (eqb (length plan)) slots) ∙ eq-eqb _ _ fit

    said_there : first_overload (day_in h) ≡ found
    said_there = sym (said ∙ ap (λ (x : Day). first_overload x) checked.1)

    pub plans_overloaded : (o : Overload) → found ≡ Some o → Plans h plan (Ok (Overloaded o)) plan
    unfolding plan_for plan_left verdict_of
    plans_overloaded o told =
        let e = said_there ∙ told in
        record { answer = rw (checked.0, fits, e); buffer = rw (checked.0, fits, e) }

    module _ (told : found ≡ None) (left : Option ℕ) (after : List ℕ) (left_is : left ≡ unfinished d (state_at d d.table.slots)) (after_is : after ≡ plan_of d) where
      left_there : left ≡ unfinished (day_in h) (state_at (day_in h) (day_in h).table.slots)
      left_there = left_is ∙ ap (λ (x : Day). unfinished x (state_at x x.table.slots)) checked.1

      after_there : after ≡ plan_of (day_in h)
      after_there = after_is ∙ ap plan_of checked.1

      verdict : (x : Option ℕ) → left ≡ x → verdict_of (day_in h) ≡ by_unfinished x
      unfolding verdict_of
      verdict x e = rw (said_there ∙ told) (ap by_unfinished (sym left_there ∙ e))

      pub plans_met : left ≡ None → Plans h plan (Ok Met) after
      unfolding plan_for plan_left
      plans_met e = let v = verdict _ e in record { answer = rw (checked.0, fits, v); buffer = after_there ∙ rw (checked.0, fits, v) }

      pub plans_undecided : (k : ℕ) → left ≡ Some k → Plans h plan (Ok (Undecided k)) after
      unfolding plan_for plan_left
      plans_undecided k e = let v = verdict _ e in record { answer = rw (checked.0, fits, v); buffer = after_there ∙ rw (checked.0, fits, v) }
