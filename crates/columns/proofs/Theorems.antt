-- What the promise of columns settles.
use Prim.Native.Nat.{ℕ, ◌+◌, ◌*◌, ◌-◌, ◌<◌}
use mathlib.Core.Path.{◌≡◌, sym, ◌∙◌}
use mathlib.Core.List.{List}
use native.Mathlib.Decide.{dec_lt}
use native.Mathlib.Omega.{arith}
use lib.ListN.{length, get_or}
use lib.Seq.{ext_get_or}
use Rattle.sheet.specs.declared.Table.{Table}
use Rattle.columns.specs.Columns.{ColumnsOf}

-- any two results that the promise allows are equal
pub one_columns : (t : Table) (a b : List ℕ) → length a ≡ 256 → length b ≡ 256 → ColumnsOf t a → ColumnsOf t b → a ≡ b
one_columns t a b long_a long_b p q =
    ext_get_or 0 a b (long_a ∙ sym long_b)
    (λ i h.
    elim (dec_lt i 64) [
      | yes l ↦ same 0 i _ i (omega arith) (omega arith) (p.release i) (q.release i) (omega arith) (omega arith)
      | no l ↦
          elim (dec_lt i 128) [
            | yes m ↦ same 1 (i - 64) _ i (omega arith) (omega arith) (p.deadline (i - 64)) (q.deadline (i - 64)) (omega arith) (omega arith)
            | no m ↦
                elim (dec_lt i 192) [
                  | yes n ↦ same 2 (i - 128) _ i (omega arith) (omega arith) (p.wanted (i - 128)) (q.wanted (i - 128)) (omega arith) (omega arith)
                  | no n ↦ same 3 (i - 192) _ i (omega arith) (omega arith) (p.energy (i - 192)) (q.energy (i - 192)) (omega arith) (omega arith)
                ]
          ]
    ])
  where
    -- the two at place k of a column, which is place i of both
    same : (column k m i : ℕ) {v : ℕ} → m ≡ i → 64 * column + k ≡ i → (k < t.count → k < 64 → get_or a m 0 ≡ v)
        → (k < t.count → k < 64 → get_or b m 0 ≡ v) → column < 4 → k < 64 → get_or a i 0 ≡ get_or b i 0
    same column k m i e f here there few small =
        elim (dec_lt k t.count) [
          | yes l ↦ let x = here l small in let y = there l small in cc
          | no l ↦ let x = p.beyond column k few (omega arith) small in let y = q.beyond column k few (omega arith) small in cc
        ]
