-- The loop keeps: the bytes so far are digits, and the number is the one that they write.
use Prim.Native.Nat.{min}
use mathlib.Core.Path.{◌≡◌}
use mathlib.Core.Bool.{true}
use Rattle.evidence.specs.Decimal.{largest, are_digits, written}
use Rattle.evidence.proofs.argument.decimal.Given as goal

abbrev pub invariant-loop-byte : goal.invariant-loop-byte
invariant-loop-byte l = (are_digits l.text l.byte-index ≡ true) × (l.number ≡ min largest (written l.text l.byte-index))
