-- What the promise of running totals settles.
use Prim.Native.Nat.{ℕ, min}
use mathlib.Core.Path.{◌≡◌, sym, ◌∙◌}
use mathlib.Core.List.{List}
use native.Mathlib.Decide.{dec_le}
use native.Mathlib.Omega.{arith}
use lib.ListN.{length}
use lib.Seq.{ext_get_or}
use Rattle.sheet.specs.Table.{most_slots}
use Rattle.totals.specs.Totals.{TotalsOf}

-- any two results that the promise allows, both arrays of one length, are equal
pub one_totals : (harvest a b : List ℕ) → length a ≡ length b → TotalsOf harvest a → TotalsOf harvest b → a ≡ b
one_totals harvest a b long p q =
    ext_get_or 0 a b long
    (λ k h.
    elim (dec_le k (min (length harvest) most_slots)) [
      | yes l ↦ p.entry k (omega arith) (omega arith) ∙ sym (q.entry k (omega arith) (omega arith))
      | no l ↦ p.beyond k (omega arith) ∙ sym (q.beyond k (omega arith))
    ])
