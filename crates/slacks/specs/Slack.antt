-- The two slacks: numbers that may be below 0, or unlimited. `slack_time_is` and `slack_energy_is` say that each is the least over the jobs that the paper names.
use Rattle.std.specs.Prelude.{ℕ, zero, suc, ◌+◌, Bool, false, cond, ◌&&◌, ltb, leb, ℤ, pos, ◌-ℤ◌}
use Rattle.std.specs.Int.Signed.{lt_z, le_z}
use Rattle.sheet.specs.Sums.{total_of, harvest_of}
use Rattle.sheet.specs.Table.{job_of, cost_of, Day}
use Rattle.choice.specs.declared.State.{State}
use Rattle.choice.specs.Choosing.{deadline_of, left_of}

pub data Slack : Type 0 where
  unlimited : Slack
  exactly : ℤ → Slack

-- the lesser of a number and what was least before
abbrev pub lesser : ℤ → Slack → Slack
lesser z unlimited = exactly z
lesser z (exactly y) = exactly (cond (lt_z z y) z y)

-- "Take the least": of f over the numbers below n that pass the test; where none does, unlimited
unfoldable pub least : (ℕ → Bool) → (ℕ → ℤ) → ℕ → Slack
least test f zero = unlimited
least test f (suc n) = cond (test n) (lesser (f n) (least test f n)) (least test f n)

-- "0 or less", and "below e"
abbrev pub zero_or_less : Slack → Bool
zero_or_less unlimited = false
zero_or_less (exactly z) = le_z z (pos 0)

abbrev pub is_below : Slack → ℕ → Bool
is_below unlimited e = false
is_below (exactly z) e = lt_z z (pos e)

-- ---- "The slack time"

-- "over each job with deadline D after t and slots still wanted"
abbrev pub wants : Day → State → ℕ → Bool
wants d s k = ltb s.slot (deadline_of d k) && ltb 0 (left_of s k)

-- "slots still wanted by all jobs with deadlines after t and up to D, released or not"
abbrev pub is_pending : Day → State → ℕ → ℕ → Bool
is_pending d s end k = ltb s.slot (deadline_of d k) && leb (deadline_of d k) end

unfoldable pub pending : Day → State → ℕ → ℕ
pending d s end = total_of (is_pending d s end) (left_of s) d.table.count

-- "D − t − (slots still wanted ..)"
abbrev pub slack_time_at : Day → State → ℕ → ℤ
slack_time_at d s k = pos (deadline_of d k) -ℤ pos s.slot -ℤ pos (pending d s (deadline_of d k))

-- "Take the least. No such job: unlimited."
unfoldable pub slack_time : Day → State → Slack
slack_time d s = least (wants d s) (slack_time_at d s) d.table.count

-- ---- "The slack energy"

-- "over each job released after t with deadline D below the chosen job's"
abbrev pub comes_before : Day → State → ℕ → ℕ → Bool
comes_before d s own k = ltb s.slot (job_of d.table k).release && ltb (deadline_of d k) own

-- "slots wanted × energy of all jobs released after t with deadlines up to D"
abbrev pub is_coming : Day → State → ℕ → ℕ → Bool
is_coming d s end k = ltb s.slot (job_of d.table k).release && leb (deadline_of d k) end

unfoldable pub coming : Day → State → ℕ → ℕ
coming d s end = total_of (is_coming d s end) (λ k. cost_of (job_of d.table k)) d.table.count

-- "level + harvest of slots t to D − 1 − (slots wanted × energy ..)"
abbrev pub slack_energy_at : Day → State → ℕ → ℤ
slack_energy_at d s k = pos (s.level + harvest_of d.harvest s.slot (deadline_of d k)) -ℤ pos (coming d s (deadline_of d k))

-- "Take the least, which may be below 0. No such job: unlimited." `own` is the chosen job's deadline
unfoldable pub slack_energy : Day → State → ℕ → Slack
slack_energy d s own = least (comes_before d s own) (slack_energy_at d s) d.table.count
