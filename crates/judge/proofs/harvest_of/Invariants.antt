-- The loop keeps: the sum is the harvest of the slots passed so far.
use Rattle.std.proofs.Common.{◌≤◌, ◌+◌, ◌*◌, ◌≡◌}
use Rattle.sheet.specs.Sums.{harvest_of}
use Rattle.judge.proofs.harvest_of.Given as goal

abbrev pub invariant-loop-byte : goal.invariant-loop-byte
invariant-loop-byte l = (l.sum ≡ harvest_of l.fn.harvest l.fn.from (l.fn.from + l.byte-index)) × (l.sum ≤ 255 * l.byte-index)
