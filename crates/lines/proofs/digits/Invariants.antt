-- The loop keeps: what stands in the space is ASCII.
use Rattle.std.specs.Prelude.{IsAscii}
use Rattle.lines.proofs.digits.Given as goal

abbrev pub invariant-loop-k : goal.invariant-loop-k
invariant-loop-k l = IsAscii l.space
