-- Choosing a job: "the smallest deadline, ties the lowest number". `chosen_is` and `nobody_ready` say in these words what is found.
use Rattle.std.specs.Prelude.{ℕ, zero, suc, Bool, cond, ◌&&◌, ltb, leb, get_or, Option, Some, None}
use Rattle.sheet.specs.Table.{job_of, Day}
use Rattle.choice.specs.declared.State.{State}

-- n beside what was chosen among lower numbers: n only where its deadline is smaller
abbrev pub smaller : (ℕ → ℕ) → Option ℕ → ℕ → Option ℕ
smaller deadline None n = Some n
smaller deadline (Some m) n = cond (ltb (deadline n) (deadline m)) (Some n) (Some m)

-- among the numbers below n that pass the test: the smallest deadline, ties the lowest number
unfoldable pub earliest : (ℕ → Bool) → (ℕ → ℕ) → ℕ → Option ℕ
earliest test deadline zero = None
earliest test deadline (suc n) = cond (test n) (smaller deadline (earliest test deadline n) n) (earliest test deadline n)

-- the deadline of job k, and the slots that it still wants
abbrev pub deadline_of : Day → ℕ → ℕ
deadline_of d k = (job_of d.table k).deadline

abbrev pub left_of : State → ℕ → ℕ
left_of s k = get_or s.left k 0

-- "Ready: released, deadline after t, slots still wanted"
unfoldable pub ready : Day → State → ℕ → Bool
ready d s k = leb (job_of d.table k).release s.slot && ltb s.slot (deadline_of d k) && ltb 0 (left_of s k)

-- "The chosen job has the smallest deadline, ties the lowest number."
unfoldable pub chosen : Day → State → Option ℕ
chosen d s = earliest (ready d s) (deadline_of d) d.table.count

-- "the job unfinished at the smallest deadline, ties the lowest number"
unfoldable pub unfinished : Day → State → Option ℕ
unfinished d s = earliest (λ k. ltb 0 (left_of s k)) (deadline_of d) d.table.count
