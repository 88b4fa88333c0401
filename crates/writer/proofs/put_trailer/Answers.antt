-- Its six runs of two bytes, one behind another, are the trailer.
use Rattle.writer.proofs.Parts.{trailer_laid}
use Rattle.writer.proofs.put_trailer.Goals as goal

pub returns : goal.returns
returns c =
    trailer_laid _ _ c.put_u16.ensures c.put_u16-2.ensures c.put_u16-3.ensures c.put_u16-4.ensures c.put_u16-5.ensures
    (rw c.from_le_bytes-mark.ensures at c.put_u16-6.ensures)
