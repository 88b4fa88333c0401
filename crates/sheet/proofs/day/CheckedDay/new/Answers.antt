-- Where the check gives leave the day is a good one.
use mathlib.Core.Path.{sym}
use Rattle.sheet.proofs.Stated.{table_leaves}
use Rattle.sheet.proofs.day.CheckedDay.new.Goals as goal

pub invariant_of-result : goal.invariant_of-result
invariant_of-result c = record { good = (table_leaves _).0 (sym c.in_ok-check_table.ensures) }
