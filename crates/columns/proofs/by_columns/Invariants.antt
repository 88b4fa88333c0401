-- The loop keeps: the columns hold the numbers of the jobs before k, and zeros in the other places.
use Rattle.columns.proofs.Making.{UpTo}
use Rattle.columns.proofs.by_columns.Given as goal

abbrev pub invariant-loop-k : goal.invariant-loop-k
invariant-loop-k l = UpTo l.fn.t l.k l.columns
