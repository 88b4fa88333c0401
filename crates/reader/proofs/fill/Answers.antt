-- The first record that is refused is the answer; where none is, all the jobs stand in their places.
use Rattle.std.proofs.Common.{arith}
use Rattle.sheet.proofs.Residual.{err_is}
use mathlib.Core.Path.{sym}
use borrow.Author.Rules.{rules}
use Rattle.reader.proofs.Records.{read_none, read_more, record_refuses}
use Rattle.reader.proofs.fill.Goals as goal

pub loop-k-init : goal.loop-k-init
loop-k-init c = read_none _ _ _ c.requires.empty_yet

pub returns-in_err-check_record : goal.returns-in_err-check_record
returns-in_err-check_record c =
    rw (err_is _ c.from_residual.ensures.1)
    (record_refuses _ _ c.requires.trailer_read _ _ c.loop-k.invariant (omega arith) _ c.job_in-job.ensures _ c.in_err-check_record.ensures)

pub loop-k-preserved : goal.loop-k-preserved
loop-k-preserved c =
    let numbers = c.requires.trailer_read in
    let few = numbers.few in
    read_more _ _ _ _ c.job_in-job.ensures _ c.in_ok-check_record.ensures _ c.loop-k.invariant (sym (search rules)) (omega arith)
