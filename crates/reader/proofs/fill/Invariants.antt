-- The loop keeps: no record before k refuses, and the jobs before k stand in their places.
use Rattle.reader.proofs.Records.{ReadTo}
use Rattle.reader.proofs.fill.Given as goal

abbrev pub invariant-loop-k : goal.invariant-loop-k
invariant-loop-k l = ReadTo l.bytes l.trailer.slots l.k l.table.jobs
