-- The theorems on the reader that are worth quoting, of any reading that its promise allows. (The round trips stand in the crate `theorems`.)
use Prim.Native.Nat.{ℕ}
use mathlib.Core.Path.{◌≡◌, sym, ◌∙◌}
use mathlib.Core.List.{List}
use mathlib.Core.Logic.{◌↔◌}
use Rattle.sheet.specs.HandedIn.{on_sheet}
use Rattle.sheet.specs.WellFormed.{WellFormed, SheetStates, GivenFirst}
use Rattle.std.specs.Prelude.{Ok, Err}
use Rattle.sheet.specs.declared.Refusal.{Refusal}
use Rattle.sheet.proofs.HandedIn.{outcome_accepted_exactly, outcome_refused_exactly}
use Rattle.sheet.proofs.Refusals.{outcome_one}
use Rattle.reader.specs.Promise.{Reads}
use Rattle.reader.specs.declared.Reading.{Reading}

-- any two results that the promise allows are equal
pub one_reading : {s : List ℕ} {r q : Reading} → Reads s r → Reads s q → r ≡ q
one_reading {r = r} {q = q} a b =
    let outcome : r.outcome ≡ q.outcome = outcome_one r.outcome q.outcome (a.answer ∙ sym b.answer) in
    let table : r.table ≡ q.table = a.table ∙ sym b.table in
    λ i. record { outcome = outcome i; table = table i }

module _ (s : List ℕ) (r : Reading) (read : Reads s r) where
  -- a sheet is accepted exactly when it is well formed
  pub sheet_accepted_exactly : (r.outcome ≡ Ok tt) ↔ WellFormed s
  sheet_accepted_exactly = outcome_accepted_exactly (on_sheet s) r.outcome read.answer

  -- and refused with a number exactly when that refusal is stated and nothing earlier applies
  pub sheet_refused_exactly : (why : Refusal) → (r.outcome ≡ Err why) ↔ GivenFirst (SheetStates s) why
  sheet_refused_exactly = outcome_refused_exactly (on_sheet s) r.outcome read.answer
