-- The day of the sheet that was read is the sheet's.
use Rattle.reader.proofs.Harvesting.{hands_on_sheet}
use Rattle.planner.proofs.plan_sheet.Goals as goal

pub returns : goal.returns
returns c = c.plan_day.ensures _ (hands_on_sheet _ _ c.new-read.ensures _ c.day.ensures)
