-- The loop keeps: the first i bytes of the harvest are laid at the place.
use lib.ListN.{take}
use Rattle.writer.specs.Laid.{Laid}
use Rattle.writer.proofs.put_harvest.Given as goal

abbrev pub invariant-loop-i : goal.invariant-loop-i
invariant-loop-i l = Laid l.initial.out l.at (take l.i l.harvest) l.out
