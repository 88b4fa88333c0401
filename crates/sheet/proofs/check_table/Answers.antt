-- Each return follows the tests that led to it; the records' answer is that of `check_records`.
use mathlib.Core.Path.{sym, ◌∙◌}
use borrow.Author.Tests.{eq-eqb, ne_eqb}
use Rattle.sheet.specs.Table.{table_says}
use Rattle.sheet.proofs.Words.{counts_words}
use Rattle.sheet.proofs.check_table.Goals as goal

pub returns-then-counts_fault : goal.returns-then-counts_fault
unfolding table_says
returns-then-counts_fault c = rw (sym c.counts_fault.ensures ∙ c.if-counts_fault.true)

pub returns-then-harvest-t : goal.returns-then-harvest-t
unfolding table_says
returns-then-harvest-t c =
    rw (
      sym c.counts_fault.ensures ∙ c.if-counts_fault.false,
      ne_eqb _ _ c.if-harvest-t.true,
    )

pub check_records-requires : goal.check_records-requires
check_records-requires c =
    ((counts_words _ _).0 (sym c.counts_fault.ensures ∙ c.if-counts_fault.false)).0

pub returns : goal.returns
unfolding table_says
returns c =
    rw (
      sym c.counts_fault.ensures ∙ c.if-counts_fault.false,
      eq-eqb _ _ c.if-harvest-t.false,
    )
    c.check_records.ensures
