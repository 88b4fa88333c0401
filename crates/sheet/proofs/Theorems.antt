-- The theorems on `check` that are worth quoting, of any outcome that its promise allows. Any two of them are equal: `outcome_one`, in `Refusals.antt`.
use Prim.Native.Nat.{ℕ}
use mathlib.Core.Path.{◌≡◌}
use mathlib.Core.List.{List}
use mathlib.Core.Logic.{◌↔◌}
use Rattle.sheet.specs.HandedIn.{on_table}
use Rattle.sheet.specs.Refusals.{outcome_says}
use Rattle.sheet.specs.Table.{day_of, table_says}
use Rattle.sheet.specs.WellFormed.{GoodDay, TableStates, GivenFirst}
use Rattle.std.specs.Prelude.{Result, Ok, Err}
use Rattle.sheet.specs.declared.Refusal.{Refusal}
use Rattle.sheet.specs.declared.Table.{Table}
use Rattle.sheet.proofs.HandedIn.{outcome_accepted_exactly, outcome_refused_exactly}

module _ (t : Table) (harvest : List ℕ) (o : Result (Unit {0}) Refusal) (said : outcome_says o ≡ table_says (day_of t harvest)) where
  -- a table and a harvest are accepted exactly when they are well formed
  pub table_accepted_exactly : (o ≡ Ok tt) ↔ GoodDay (day_of t harvest)
  table_accepted_exactly = outcome_accepted_exactly (on_table t harvest) o said

  -- and refused with a number exactly when that refusal is stated and nothing earlier applies
  pub table_refused_exactly : (r : Refusal) → (o ≡ Err r) ↔ GivenFirst (TableStates (day_of t harvest)) r
  table_refused_exactly = outcome_refused_exactly (on_table t harvest) o said
