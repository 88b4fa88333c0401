-- The loop keeps: the sum is that of the first k slots, every entry up to k is its own total, and zeros stand behind it.
use Prim.Native.Nat.{ℕ, ◌+◌, ◌*◌, ◌≤◌, ◌<◌}
use mathlib.Core.Path.{◌≡◌}
use lib.ListN.{length, get_or}
use Rattle.sheet.specs.Table.{most_slots, most_counted}
use Rattle.sheet.specs.Sums.{total, harvest_at, most_harvest}
use Rattle.totals.proofs.running.Given as goal

abbrev pub invariant-loop-k : goal.invariant-loop-k
invariant-loop-k l =
    record {
      sum : l.sum ≡ total (harvest_at l.harvest) l.k;
      within : l.sum ≤ most_counted * l.k;
      long : length l.sums ≡ most_slots + 1;
      entry : (j : ℕ) → j ≤ l.k → get_or l.sums j 0 ≡ total (harvest_at l.harvest) j;
      beyond : (j : ℕ) → l.k < j → get_or l.sums j 0 ≡ 0;
      small : (j : ℕ) → get_or l.sums j 0 ≤ most_harvest;
    }
