-- A text of one ASCII byte, however often, is ASCII.
use Rattle.std.proofs.Common.{ℕ, zero, suc, arith, ◌<◌}
use Rattle.std.proofs.Math.ListN.{replicate}
use Rattle.std.specs.Prelude.{IsAscii}

pub IsAscii-replicate : (n byte : ℕ) → byte < 128 → IsAscii (replicate n byte)
IsAscii-replicate zero byte low i = omega arith
IsAscii-replicate (suc n) byte low zero = low
IsAscii-replicate (suc n) byte low (suc i) = IsAscii-replicate n byte low i
