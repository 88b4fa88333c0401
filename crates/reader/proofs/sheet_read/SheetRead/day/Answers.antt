-- A sheet that was read and not refused has a good day.
use Rattle.reader.proofs.sheet_read.SheetRead.day.Goals as goal

pub invariant_of-result : goal.invariant_of-result
invariant_of-result c = record { good = c.args.self.now.good c.in_ok-self.was }
