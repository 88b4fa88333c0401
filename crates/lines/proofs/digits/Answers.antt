-- The space begins as 64 zeros in ASCII, and the digits are its front.
use Rattle.std.proofs.Common.{arith}
use Rattle.std.proofs.lemmas.Str.{IsAscii-take, IsUtf8-from_ascii}
use Rattle.lines.proofs.Ascii.{IsAscii-replicate}
use Rattle.lines.proofs.digits.Goals as goal

pub loop-k-init : goal.loop-k-init
loop-k-init c = IsAscii-replicate 64 48 (omega arith)

pub from_utf8_unchecked-requires : goal.from_utf8_unchecked-requires
from_utf8_unchecked-requires c = IsUtf8-from_ascii _ (IsAscii-take c.loop-k.space _ c.loop-k.invariant)
