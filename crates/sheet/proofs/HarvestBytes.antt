-- All that is known of what a harvest byte counts for: the most that it does, and that the byte itself is that number.
use Prim.Native.Nat.{ℕ, ◌<◌, ◌≤◌}
use mathlib.Core.Path.{◌≡◌, refl}
use native.Mathlib.Omega.{arith}
use Rattle.sheet.specs.Table.{counted_as, most_counted}

pub counts_itself : (byte : ℕ) → byte < 256 → (byte ≡ counted_as byte) × (byte ≤ most_counted)
unfolding counted_as
counts_itself byte h = (refl, omega arith)
