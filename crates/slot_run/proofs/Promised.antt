-- The promises of the first state and of a step, at each of their answers.
use Prim.Native.Nat.{◌<◌, ◌≤◌}
use mathlib.Core.Path.{◌≡◌, sym, ap, ◌∙◌, subst}
use borrow.Author.Tests.{lt-ltb, le-ltb}
use Rattle.sheet.specs.HandedIn.{HandedIn, check_says, day_in}
use Rattle.sheet.specs.Paper.{gives}
use Rattle.sheet.specs.Table.{Day}
use Rattle.sheet.specs.Refusals.{refusal_says}
use Rattle.sheet.specs.declared.Refusal.{Refusal}
use Rattle.sheet.proofs.HandedIn.{hands_on}
use Rattle.sheet.proofs.Order.{Refuses, where_refused}
use Rattle.sheet.proofs.Refusals.{refusal_refuses}
use Rattle.choice.specs.declared.State.{State}
use Rattle.rules.specs.declared.Decision.{Decision}
use Rattle.std.specs.Prelude.{Some, None, Ok, Err, ltb}
use Rattle.rules.specs.Rules.{Ruled, decision_says, decided, next_state}
use Rattle.slot_run.specs.Promise.{ruled, Steps, step_of, state_after}

pub steps_refused : (h : HandedIn) (s : State) (why : Refusal) → check_says h ≡ refusal_says why → Steps h s (record { answer = Err why; state = s })
unfolding step_of state_after
steps_refused h s why refused =
    record {
      answer = sym (hands_on h _ why refused);
      state = sym (where_refused (check_says h) _ s (subst Refuses (sym refused) (refusal_refuses _ why)));
    }

module _ (h : HandedIn) (d : Day) (s : State) (checked : (check_says h ≡ gives tt) × (d ≡ day_in h)) where
  slots : d.table.slots ≡ (day_in h).table.slots
  slots = ap (λ (x : Day). x.table.slots) checked.1

  pub steps_over : d.table.slots ≤ s.slot → Steps h s (record { answer = Ok None; state = s })
  unfolding step_of state_after
  steps_over past =
      let over = sym (ap (ltb s.slot) slots) ∙ le-ltb _ _ past in
      record { answer = rw (checked.0, over); state = rw (checked.0, over) }

  pub steps_decided : (r : Decision) (next : State) → s.slot < d.table.slots → decision_says r ≡ decided d s → next ≡ next_state d s
      → Steps h s (record { answer = Ok (Some r); state = next })
  unfolding step_of state_after
  steps_decided r next in_day p q =
      let here = sym (ap (ltb s.slot) slots) ∙ lt-ltb _ _ in_day in
      record {
        answer = rw (checked.0, here) (ap (λ (x : Ruled). gives (ruled x)) (p ∙ ap (λ (x : Day). decided x s) checked.1));
        state = rw (checked.0, here) (q ∙ ap (λ (x : Day). next_state x s) checked.1);
      }
