-- The answer, the table and the harvest are the sheet's.
use mathlib.Core.Path.{sym}
use Rattle.std.specs.Prelude.{Err}
use Rattle.reader.proofs.Harvesting.{none_behind, the_answer, the_table, the_harvest, the_good_day}
use Rattle.reader.proofs.sheet_read.SheetRead.new.Goals as goal

pub invariant_of-result : goal.invariant_of-result
invariant_of-result c =
    let empty = c.no_table.ensures in
    record { good = the_good_day _ (Err c.in-Err.why) _ (c.in-Err.ensures, empty) _ (sym (none_behind _ _ empty)) }

pub returns-in-Err : goal.returns-in-Err
returns-in-Err c =
    let why = c.in-Err.why in
    let says = c.in-Err.ensures in
    let empty = c.no_table.ensures in
    record {
      answer = the_answer _ (Err why) _ (says, empty) _ (sym (none_behind _ _ empty));
      table = the_table _ (Err why) _ (says, empty) _ (sym (none_behind _ _ empty));
      harvest = the_harvest _ (Err why) _ (says, empty) _ (sym (none_behind _ _ empty));
    }

pub invariant_of-result-2 : goal.invariant_of-result-2
invariant_of-result-2 c = record { good = the_good_day _ _ _ c.read_records-outcome.ensures _ c.stretch-harvest.ensures }

pub returns : goal.returns
returns c =
    let read = c.read_records-outcome.ensures in
    record {
      answer = the_answer _ _ _ read _ c.stretch-harvest.ensures;
      table = the_table _ _ _ read _ c.stretch-harvest.ensures;
      harvest = the_harvest _ _ _ read _ c.stretch-harvest.ensures;
    }
