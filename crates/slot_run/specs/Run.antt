-- "The slot run" of a whole day: its states, and its plan.
use Rattle.std.specs.Prelude.{ℕ, zero, suc, List, [], ◌∷◌}
use Rattle.sheet.specs.Lists.{joined, filled}
use Rattle.sheet.specs.Table.{most_jobs, idle_byte, start_level, job_of, Day}
use Rattle.choice.specs.declared.State.{State}
use Rattle.rules.specs.Rules.{Ruled, idle, busy, decided, next_state}

-- "The level starts at capacity", and every job wants all its slots
unfoldable pub first_state : Day → State
first_state d = record { slot = 0; level = start_level d.table; left = filled (λ k. (job_of d.table k).wanted) 0 most_jobs d.table.count }

-- the state as slot n begins
unfoldable pub state_at : Day → ℕ → State
state_at d zero = first_state d
state_at d (suc n) = next_state d (state_at d n)

-- "one byte a slot, the job's number or 255 for idle"
abbrev pub plan_byte : Ruled → ℕ
plan_byte (idle rule) = idle_byte
plan_byte (busy rule k) = k

unfoldable pub plan_of : Day → List ℕ
plan_of d = joined (λ n. plan_byte (decided d (state_at d n)) ∷ []) d.table.slots
