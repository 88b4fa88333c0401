-- A plan on a day, one byte a slot, the job's number or 255 for idle: what each job gets by it, and the level as each slot begins.
use Rattle.std.specs.Prelude.{ℕ, zero, suc, min, ◌+◌, ◌-◌, List, Bool, cond, ltb, eqb, get_or}
use Rattle.sheet.specs.Sums.{total_of, harvest_at}
use Rattle.sheet.specs.Table.{idle_byte, start_level, job_of, Day}

-- the byte of slot i
abbrev pub byte_of : List ℕ → ℕ → ℕ
byte_of plan i = get_or plan i idle_byte

-- it names a job
abbrev pub names_job : Day → List ℕ → ℕ → Bool
names_job d plan i = ltb (byte_of plan i) d.table.count

-- how many of the slots 0 to n - 1 job k gets
unfoldable pub slots_got : List ℕ → ℕ → ℕ → ℕ
slots_got plan k n = total_of (λ i. eqb (byte_of plan i) k) (λ i. 1) n

-- what slot i spends: its job's energy, or nothing
unfoldable pub spent_in : Day → List ℕ → ℕ → ℕ
spent_in d plan i = cond (names_job d plan i) (job_of d.table (byte_of plan i)).energy 0

-- the level as slot n begins: "The next level is the lesser of capacity and level + p − energy spent."
unfoldable pub level_at : Day → List ℕ → ℕ → ℕ
level_at d plan zero = start_level d.table
level_at d plan (suc n) = min d.table.capacity (level_at d plan n + harvest_at d.harvest n - spent_in d plan n)
