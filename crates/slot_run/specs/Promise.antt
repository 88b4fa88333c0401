-- What the first state and a step promise, for anything handed in and any state.
use Rattle.std.specs.Prelude.{◌≡◌, cond, ltb, replicate, Option, Some, None, Result, Ok, Err}
use Rattle.sheet.specs.HandedIn.{HandedIn, check_says, day_in}
use Rattle.sheet.specs.Paper.{Paper, gives, ◌else◌, where_given}
use Rattle.sheet.specs.Refusals.{refusal_says, outcome_says}
use Rattle.sheet.specs.Table.{most_jobs}
use Rattle.choice.specs.declared.State.{State}
use Rattle.slot_run.specs.declared.Start.{Start}
use Rattle.sheet.specs.declared.Refusal.{Refusal}
use Rattle.rules.specs.declared.Decision.{Decision}
use Rattle.slot_run.specs.declared.StepResult.{StepResult}
use Rattle.rules.specs.Rules.{Ruled, decision_says, decided, next_state}
use Rattle.slot_run.specs.Run.{first_state}

-- ---- the first state

-- what a refused start holds
abbrev pub no_state : State
no_state = record { slot = 0; level = 0; left = replicate most_jobs 0 }

-- the check's refusal, or leave and the first state
pub record Starts (h : HandedIn) (r : Start) : Type 0 where
  pub answer : outcome_says r.outcome ≡ check_says h
  pub state : r.state ≡ where_given (check_says h) (first_state (day_in h)) no_state

-- ---- a step

-- what a step finds on a good day: the day over, or what the slot does
pub data Turn : Type 0 where
  over : Turn
  ruled : Ruled → Turn

-- a step's answer as the paper writes it
abbrev pub stepped_says : Result (Option Decision) Refusal → Paper Turn
stepped_says (Err r) = refusal_says r
stepped_says (Ok None) = gives over
stepped_says (Ok (Some d)) = gives (ruled (decision_says d))

-- "a step answers "day over" only after these checks"
unfoldable pub step_of : HandedIn → State → Paper Turn
step_of h s = check_says h else gives (cond (ltb s.slot (day_in h).table.slots) (ruled (decided (day_in h) s)) over)

-- "a refused step hands back its state as it was", and so does one past the last slot
unfoldable pub state_after : HandedIn → State → State
state_after h s = where_given (check_says h) (cond (ltb s.slot (day_in h).table.slots) (next_state (day_in h) s) s) s

pub record Steps (h : HandedIn) (s : State) (r : StepResult) : Type 0 where
  pub answer : stepped_says r.answer ≡ step_of h s
  pub state : r.state ≡ state_after h s
