-- Sums over jobs and over slots.
use Rattle.std.specs.Prelude.{ℕ, zero, suc, ◌+◌, ◌-◌, ◌*◌, List, Bool, false, cond, ◌||◌, get_or}
use Rattle.sheet.specs.Table.{most_slots, counted_as, most_counted}

-- f 0 + f 1 + .. + f (n - 1)
unfoldable pub total : (ℕ → ℕ) → ℕ → ℕ
total f zero = 0
total f (suc n) = total f n + f n

-- the same over those numbers only that pass a test
abbrev pub total_of : (ℕ → Bool) → (ℕ → ℕ) → ℕ → ℕ
total_of test f n = total (λ k. cond (test k) (f k) 0) n

-- one of the numbers 0 to n - 1 passes the test
unfoldable pub some : (ℕ → Bool) → ℕ → Bool
some test zero = false
some test (suc n) = some test n || test n

-- the harvest of slot i, and of the slots from .. to - 1
abbrev pub harvest_at : List ℕ → ℕ → ℕ
harvest_at harvest i = counted_as (get_or harvest i 0)

unfoldable pub harvest_of : List ℕ → ℕ → ℕ → ℕ
harvest_of harvest from to = total (λ i. harvest_at harvest (from + i)) (to - from)

-- the most that a day can harvest, and that a job can cost
abbrev pub most_harvest : ℕ
most_harvest = most_counted * most_slots

abbrev pub most_cost : ℕ
most_cost = 65535 * 255
