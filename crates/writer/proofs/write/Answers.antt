-- Each answer follows what the check said, and then the test of the room; the buffer is what `put_sheet` laid.
use Rattle.sheet.proofs.Residual.{err_is}
use Rattle.writer.proofs.Promised.{writes_refused, writes_no_room, writes_length}
use Rattle.writer.proofs.write.Goals as goal

pub returns-in_err-day : goal.returns-in_err-day
returns-in_err-day c =
    rw (err_is _ c.from_residual.ensures.1) (writes_refused _ _ _ c.in_err-day.ensures)

pub returns-then-out-length : goal.returns-then-out-length
returns-then-out-length c = writes_no_room _ _ c.in_ok-day.day c.in_ok-day.ensures _ c.sheet_length-length.ensures c.if-out-length.true

pub returns : goal.returns
returns c = writes_length _ _ c.in_ok-day.day c.in_ok-day.ensures _ c.sheet_length-length.ensures _ c.if-out-length.false c.put_sheet.ensures
