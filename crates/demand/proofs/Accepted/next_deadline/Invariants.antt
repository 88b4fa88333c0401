-- The loop keeps: `least` is the least deadline after the slot among the jobs before k.
use Rattle.demand.proofs.Loops.{Least}
use Rattle.demand.proofs.Accepted.next_deadline.Given as goal

abbrev pub invariant-loop-own : goal.invariant-loop-own
invariant-loop-own l = Least l.self.table.now l.after l.own-index l.least
