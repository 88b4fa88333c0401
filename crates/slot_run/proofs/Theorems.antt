-- The theorems on the slot run that are worth quoting. What the choice finds stands in `Choosing.antt`: `chosen_is`, `nobody_ready`, `nobody_unfinished`.
use Prim.Native.Nat.{ℕ, zero, suc, ◌+◌, ◌-◌, ◌<◌, ◌≤◌}
use mathlib.Core.Path.{◌≡◌, refl, sym, ap, ◌∙◌, subst}
use mathlib.Core.Bool.{cond}
use mathlib.Core.Logic.Iff
use mathlib.Core.Logic.{◌↔◌, ⊎_elim}
use native.Mathlib.Omega.{arith}
use lib.Dec.{ltb, eqb}
use borrow.Author.Tests.{lt-ltb, le-ltb, ltb-false}
use Rattle.sheet.specs.HandedIn.{HandedIn, check_says, day_in, Sound, States}
use Rattle.sheet.specs.Paper.{Paper, gives, refuses, refuses_at}
use Rattle.sheet.specs.Table.{Day}
use Rattle.sheet.specs.WellFormed.{GivenFirst}
use Rattle.sheet.specs.declared.Refusal.{Refusal}
use Rattle.sheet.proofs.Exactly.{either}
use Rattle.sheet.proofs.HandedIn.{check_leaves, check_refuses, handed_on_exactly, own_exactly, outcome_refused_exactly}
use Rattle.sheet.proofs.Order.{Refuses, where_given_lem, where_refused}
use Rattle.sheet.proofs.Refusals.{by_refusal, by_refusal_lem, said_one, said_exactly, refusal_refuses, outcome_one, own_given}
use Rattle.std.specs.Prelude.{Option, Some, Result, Ok, Err}
use Rattle.choice.specs.declared.State.{State}
use Rattle.rules.specs.declared.BusyWhy.TheVariants.{Full, NoSlack, Free}
use Rattle.rules.specs.declared.IdleWhy.TheVariants.{None, Empty, Saving}
use Rattle.rules.specs.declared.Decision.{Decision}
use Rattle.rules.specs.declared.Decision.TheVariants.{Busy, Idle}
use Rattle.slot_run.specs.declared.Start.{Start}
use Rattle.slot_run.specs.declared.StepResult.{StepResult}
use Rattle.choice.specs.Choosing.{unfinished}
use Rattle.slacks.specs.Slack.{wants, slack_time_at, slack_time, comes_before, slack_energy_at, slack_energy}
use Rattle.rules.specs.Rules.{Ruled, idle, busy, decision_says, decided, next_state}
use Rattle.slot_run.specs.Run.{state_at}
use Rattle.slot_run.specs.Promise.{Starts, Turn, over, ruled, stepped_says, step_of, state_after, Steps}
use Rattle.slacks.proofs.Least.{LeastAmong, least_is}
use Rattle.slot_run.proofs.Running.{state_slot}

-- ---- the slacks

-- Slack time is the least over the jobs with deadline after t and slots still wanted; unlimited where there is none.
pub slack_time_is : (d : Day) (s : State) → LeastAmong (wants d s) (slack_time_at d s) d.table.count (slack_time d s)
unfolding slack_time
slack_time_is d s = least_is (wants d s) (slack_time_at d s) d.table.count

-- Slack energy is the least over the jobs released after t with a deadline below the chosen job's; unlimited where there is none.
pub slack_energy_is : (d : Day) (s : State) (own : ℕ) → LeastAmong (comes_before d s own) (slack_energy_at d s) d.table.count (slack_energy d s own)
unfolding slack_energy
slack_energy_is d s own = least_is (comes_before d s own) (slack_energy_at d s) d.table.count

-- ---- any two results that a promise allows are equal

decision_meant : Ruled → Decision
decision_meant (idle r) = cond (eqb r 1) (Idle None) (cond (eqb r 2) (Idle Empty) (Idle Saving))
decision_meant (busy r k) = cond (eqb r 3) (Busy k Full) (cond (eqb r 4) (Busy k NoSlack) (Busy k Free))

given_meant : Paper Turn → Result (Option Decision) Refusal
given_meant (gives over) = Ok Option.None
given_meant (gives (ruled d)) = Ok (Some (decision_meant d))
given_meant (refuses n) = Ok Option.None
given_meant (refuses_at n k) = Ok Option.None

stepped_meant : Paper Turn → Result (Option Decision) Refusal
stepped_meant p = by_refusal Err (given_meant p) p

stepped_meant_lem : (a : Result (Option Decision) Refusal) → stepped_meant (stepped_says a) ≡ a
unfolding stepped_meant given_meant decision_meant by_refusal
stepped_meant_lem (Err r) = by_refusal_lem _ Err _ r
stepped_meant_lem (Ok Option.None) = refl
stepped_meant_lem (Ok (Some (Idle None))) = refl
stepped_meant_lem (Ok (Some (Idle Empty))) = refl
stepped_meant_lem (Ok (Some (Idle Saving))) = refl
stepped_meant_lem (Ok (Some (Busy k Full))) = refl
stepped_meant_lem (Ok (Some (Busy k NoSlack))) = refl
stepped_meant_lem (Ok (Some (Busy k Free))) = refl

pub one_step : {h : HandedIn} {s : State} {r q : StepResult} → Steps h s r → Steps h s q → r ≡ q
one_step {r = r} {q = q} a b =
    let answer : r.answer ≡ q.answer = said_one stepped_says stepped_meant stepped_meant_lem r.answer q.answer (a.answer ∙ sym b.answer) in
    let state : r.state ≡ q.state = a.state ∙ sym b.state in
    λ i. record { answer = answer i; state = state i }

pub one_start : {h : HandedIn} {r q : Start} → Starts h r → Starts h q → r ≡ q
one_start {r = r} {q = q} a b =
    let outcome : r.outcome ≡ q.outcome = outcome_one r.outcome q.outcome (a.answer ∙ sym b.answer) in
    let state : r.state ≡ q.state = a.state ∙ sym b.state in
    λ i. record { outcome = outcome i; state = state i }

-- what the whole run leaves unfinished
pub one_unfinished : (d : Day) (s : State) (r q : Option ℕ) → r ≡ unfinished d s → q ≡ unfinished d s → r ≡ q
one_unfinished d s r q a b = a ∙ sym b

-- ---- which answer is given when, and the state that comes with it

-- A refusal is given exactly when it is stated and nothing earlier applies: by a start,
pub start_refused_exactly : (h : HandedIn) (r : Start) → Starts h r → (why : Refusal) → (r.outcome ≡ Err why) ↔ GivenFirst (States h) why
start_refused_exactly h r p = outcome_refused_exactly h r.outcome p.answer

module _ (h : HandedIn) (s : State) (r : StepResult) (p : Steps h s r) where
  answered : (a : Result (Option Decision) Refusal) → (r.answer ≡ a) ↔ (step_of h s ≡ stepped_says a)
  answered a = said_exactly stepped_says stepped_meant stepped_meant_lem r.answer a _ p.answer

  -- and by a step.
  pub step_refused_exactly : (why : Refusal) → (r.answer ≡ Err why) ↔ GivenFirst (States h) why
  unfolding step_of
  step_refused_exactly why = Iff.trans (answered (Err why)) (handed_on_exactly h _ (own_given _) why)

  -- "Day over" is answered exactly on a sound day past its last slot.
  pub step_over_exactly : (r.answer ≡ Ok Option.None) ↔ (Sound h × ((day_in h).table.slots ≤ s.slot))
  unfolding step_of
  step_over_exactly = Iff.trans (answered (Ok Option.None)) (own_exactly h _ (gives over) (own_given over) ((λ e. past e), (λ l. rw (le-ltb _ _ l))))
    where
      past : gives (cond (ltb s.slot (day_in h).table.slots) (ruled (decided (day_in h) s)) over) ≡ gives over → (day_in h).table.slots ≤ s.slot
      past e =
          ⊎_elim
          (λ b. let z : ◌≡◌ {A = ℕ} 0 1 = cc in absurd (omega arith))
          (λ b. ltb-false s.slot (day_in h).table.slots b)
          (either (ltb s.slot (day_in h).table.slots))

  -- "A refused step hands back its state as it was",
  pub refused_step_keeps_the_state : (why : Refusal) → r.answer ≡ Err why → r.state ≡ s
  unfolding state_after
  refused_step_keeps_the_state why e =
      let said = (check_refuses h why).1 ((step_refused_exactly why).0 e) in
      p.state ∙ where_refused (check_says h) _ s (subst Refuses (sym said) (refusal_refuses _ why))

  -- and so does one past the last slot.
  pub over_step_keeps_the_state : r.answer ≡ Ok Option.None → r.state ≡ s
  unfolding state_after
  over_step_keeps_the_state e =
      let past = step_over_exactly.0 e in
      p.state ∙ rw ((check_leaves h).1 past.0, le-ltb _ _ past.1)

  -- In a slot of a sound day the answer is what the rules decide, with the next state.
  pub step_decides : Sound h → s.slot < (day_in h).table.slots
      → ((d : Decision) × (r.answer ≡ Ok (Some d)) × (decision_says d ≡ decided (day_in h) s)) × (r.state ≡ next_state (day_in h) s)
  unfolding step_of state_after
  step_decides sound in_day =
      let leave = (check_leaves h).1 sound in
      let here = lt-ltb s.slot (day_in h).table.slots in_day in
      (go r.answer refl (p.answer ∙ rw (leave, here)), p.state ∙ rw (leave, here))
    where
      go : (a : Result (Option Decision) Refusal) → r.answer ≡ a → stepped_says r.answer ≡ gives (ruled (decided (day_in h) s))
          → (d : Decision) × (r.answer ≡ Ok (Some d)) × (decision_says d ≡ decided (day_in h) s)
      go (Err why) w e = absurd (own_given _ why (sym e ∙ ap stepped_says w))
      go (Ok Option.None) w e = let f = sym (ap stepped_says w) ∙ e in let z : ◌≡◌ {A = ℕ} 0 1 = cc in absurd (omega arith)
      go (Ok (Some d)) w e = let f = sym (ap stepped_says w) ∙ e in (d, w, cc)

-- ---- "The run may also be taken one slot at a time; the states passed through are the same."

-- the state that step n is handed: the start's, or the one that the step before handed back
unfoldable pub state_before : Start → (ℕ → StepResult) → ℕ → State
state_before start steps zero = start.state
state_before start steps (suc n) = (steps n).state

pub record SteppedThrough (h : HandedIn) (start : Start) (steps : ℕ → StepResult) : Type 0 where
  pub begins : Starts h start
  pub each : (n : ℕ) → Steps h (state_before start steps n) (steps n)

module _ (h : HandedIn) (start : Start) (steps : ℕ → StepResult) (through : SteppedThrough h start steps) (sound : Sound h) where
  -- step n is handed the state of slot n
  pub stepped_run : (n : ℕ) → n ≤ (day_in h).table.slots → state_before start steps n ≡ state_at (day_in h) n
  unfolding state_before state_at
  stepped_run zero l = through.begins.state ∙ where_given_lem (check_says h) tt _ _ ((check_leaves h).1 sound)
  stepped_run (suc n) l =
      let before : state_before start steps n ≡ state_at (day_in h) n = stepped_run n (omega arith) in
      let slot = ap (λ (s : State). s.slot) before ∙ state_slot (day_in h) n in
      (step_decides h _ (steps n) (through.each n) sound (omega arith)).1 ∙ ap (next_state (day_in h)) before

  -- and answers what the run does there.
  pub stepped_answers : (n : ℕ) → n < (day_in h).table.slots
      → (d : Decision) × ((steps n).answer ≡ Ok (Some d)) × (decision_says d ≡ decided (day_in h) (state_at (day_in h) n))
  stepped_answers n l =
      let before = stepped_run n (omega arith) in
      let slot = ap (λ (s : State). s.slot) before ∙ state_slot (day_in h) n in
      let told = (step_decides h _ (steps n) (through.each n) sound (omega arith)).0 in
      (told.0, told.1, told.2 ∙ ap (decided (day_in h)) before)

  stays : (n : ℕ) → state_before start steps n ≡ state_at (day_in h) (day_in h).table.slots
      → ((steps n).answer ≡ Ok Option.None) × ((steps n).state ≡ state_before start steps n)
  stays n e =
      let slot = ap (λ (s : State). s.slot) e ∙ state_slot (day_in h) (day_in h).table.slots in
      let told = (step_over_exactly h _ (steps n) (through.each n)).1 (sound, omega arith) in
      (told, over_step_keeps_the_state h _ (steps n) (through.each n) told)

  ended : (m : ℕ) → state_before start steps ((day_in h).table.slots + m) ≡ state_at (day_in h) (day_in h).table.slots
  unfolding state_before
  ended zero =
      let same : (day_in h).table.slots + 0 ≡ (day_in h).table.slots = omega arith in
      ap (state_before start steps) same ∙ stepped_run (day_in h).table.slots (omega arith)
  ended (suc m) =
      let same : (day_in h).table.slots + suc m ≡ suc ((day_in h).table.slots + m) = omega arith in
      ap (state_before start steps) same ∙ (stays ((day_in h).table.slots + m) (ended m)).1 ∙ ended m

  -- Past the last slot it is handed the state after that slot, answers "day over", and hands the state back as it was.
  pub stepped_over : (n : ℕ) → (day_in h).table.slots ≤ n
      → (state_before start steps n ≡ state_at (day_in h) (day_in h).table.slots) × ((steps n).answer ≡ Ok Option.None) × ((steps n).state ≡ state_before start steps n)
  stepped_over n l =
      let same : (day_in h).table.slots + (n - (day_in h).table.slots) ≡ n = omega arith in
      let end = sym (ap (state_before start steps) same) ∙ ended (n - (day_in h).table.slots) in
      (end, (stays n end).0, (stays n end).1)
