-- The loop keeps: the records before k are laid at the front.
use Rattle.sheet.specs.Table.{job_of}
use Rattle.sheet.proofs.Parts.{records_of}
use Rattle.writer.specs.Laid.{Laid}
use Rattle.writer.proofs.put_records.Given as goal

abbrev pub invariant-loop-k : goal.invariant-loop-k
invariant-loop-k l = Laid l.initial.out 0 (records_of (job_of l.day.table.now) l.k) l.out
