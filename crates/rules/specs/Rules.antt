-- "The slot run" in one slot: the six rules, and the next state.
use Rattle.std.specs.Prelude.{ℕ, min, ◌+◌, ◌-◌, List, Bool, cond, ltb, set, Option, Some, None}
use Rattle.sheet.specs.Sums.{harvest_at}
use Rattle.sheet.specs.Table.{job_of, Day}
use Rattle.choice.specs.declared.State.{State}
use Rattle.rules.specs.declared.BusyWhy.TheVariants.{Full, NoSlack, Free}
use Rattle.rules.specs.declared.IdleWhy.{IdleWhy}
use Rattle.rules.specs.declared.IdleWhy.TheVariants.{Empty, Saving}
use Rattle.rules.specs.declared.Decision.{Decision}
use Rattle.rules.specs.declared.Decision.TheVariants.{Busy, Idle}
use Rattle.choice.specs.Choosing.{chosen, deadline_of, left_of}
use Rattle.slacks.specs.Slack.{slack_time, slack_energy, zero_or_less, is_below}

-- what a slot does, by the number of the rule that applied
pub data Ruled : Type 0 where
  idle : (rule : ℕ) → Ruled
  busy : (rule job : ℕ) → Ruled

-- a decision as the paper writes it
abbrev pub decision_says : Decision → Ruled
decision_says (Idle IdleWhy.None) = idle 1
decision_says (Idle Empty) = idle 2
decision_says (Busy k Full) = busy 3 k
decision_says (Busy k NoSlack) = busy 4 k
decision_says (Idle Saving) = idle 5
decision_says (Busy k Free) = busy 6 k

-- the charge at hand in the slot: level + p
abbrev pub at_hand : Day → State → ℕ
at_hand d s = s.level + harvest_at d.harvest s.slot

-- "First rule that applies", of rules 2 to 6 for the chosen job k, from the charge at hand and the two answers on the slacks:
-- 2. level + p below the chosen job's energy: idle, `empty`
-- 3. level + p above capacity: busy, `full`
-- 4. slack time 0 or less: busy, `noslack`
-- 5. slack energy below the job's energy: idle, `saving`
-- 6. busy, `free`
abbrev pub first_rule : (charge energy capacity : ℕ) (no_slack saves : Bool) → ℕ → Ruled
first_rule charge energy capacity no_slack saves k =
    cond (ltb charge energy) (idle 2) (cond (ltb capacity charge) (busy 3 k) (cond no_slack (busy 4 k) (cond saves (idle 5) (busy 6 k))))

unfoldable pub rule_for : Day → State → ℕ → Ruled
rule_for d s k =
    let energy = (job_of d.table k).energy in
    first_rule (at_hand d s) energy d.table.capacity (zero_or_less (slack_time d s)) (is_below (slack_energy d s (deadline_of d k)) energy) k

-- 1. nothing ready: idle, `none`
abbrev pub rule_on : Day → State → Option ℕ → Ruled
rule_on d s None = idle 1
rule_on d s (Some k) = rule_for d s k

unfoldable pub decided : Day → State → Ruled
decided d s = rule_on d s (chosen d s)

-- the energy spent, and the slots still wanted, after a slot
abbrev pub spent : Day → Ruled → ℕ
spent d (idle rule) = 0
spent d (busy rule k) = (job_of d.table k).energy

abbrev pub left_after : State → Ruled → List ℕ
left_after s (idle rule) = s.left
left_after s (busy rule k) = set s.left k (left_of s k - 1)

-- "The next level is the lesser of capacity and level + p − energy spent."
abbrev pub state_by : Day → State → Ruled → State
state_by d s ruled = record { slot = s.slot + 1; level = min d.table.capacity (at_hand d s - spent d ruled); left = left_after s ruled }

unfoldable pub next_state : Day → State → State
next_state d s = state_by d s (decided d s)
