-- Running totals of a harvest, and a day that has them. No promise of the paper rests on this page.
use Rattle.std.specs.Prelude.{ℕ, min, ◌≤◌, ◌<◌, ◌≡◌, List, length, get_or}
use Rattle.sheet.specs.Sums.{total, harvest_at, most_harvest}
use Rattle.sheet.specs.Table.{most_slots, Day}
use Rattle.sheet.specs.WellFormed.{GoodDay}

-- entry k is the harvest of the first k slots; zeros behind the last
pub record TotalsOf (harvest totals : List ℕ) : Type 0 where
  pub entry : (k : ℕ) → k ≤ length harvest → k ≤ most_slots → get_or totals k 0 ≡ total (harvest_at harvest) k
  pub beyond : (k : ℕ) → min (length harvest) most_slots < k → get_or totals k 0 ≡ 0
  pub small : (k : ℕ) → get_or totals k 0 ≤ most_harvest

-- a well-formed day with the running totals of its harvest
pub record Summed (d : Day) (totals : List ℕ) : Type 0 where
  pub good : GoodDay d
  pub totals_are : TotalsOf d.harvest totals
