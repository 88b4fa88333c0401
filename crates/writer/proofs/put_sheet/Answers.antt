-- The records, the harvest and the trailer, one behind another, are the sheet.
use mathlib.Core.Path.{refl}
use Rattle.writer.proofs.Parts.{sheet_laid}
use Rattle.writer.proofs.put_sheet.Goals as goal

pub returns : goal.returns
returns c = sheet_laid _ _ _ _ refl refl c.put_records.ensures c.put_harvest.ensures c.put_trailer.ensures
