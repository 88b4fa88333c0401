-- Each refusal follows the tests that led to it; past them the trailer's numbers stand, and the records decide.
use mathlib.Core.Path.{sym, ◌∙◌}
use Rattle.sheet.proofs.Words.{counts_words}
use Rattle.reader.proofs.Records.{short_says, mark_says, counts_says, layout_says, numbers_read}
use borrow.Author.Rules.{rules}
use Rattle.reader.proofs.read_trailer.Goals as goal

pub layout_fault-requires-clause-count_value : goal.layout_fault-requires-clause-count_value
layout_fault-requires-clause-count_value c =
    let few = ((counts_words _ _).0 (sym c.counts_fault.ensures ∙ c.if-counts_fault.false)).0 in
    (search rules, search rules, few)

pub returns-then-length-lt-TRAILER_LENGTH : goal.returns-then-length-lt-TRAILER_LENGTH
returns-then-length-lt-TRAILER_LENGTH c = search short_says

pub returns-then-mark_fault : goal.returns-then-mark_fault
returns-then-mark_fault c = search mark_says

pub returns-then-counts_fault : goal.returns-then-counts_fault
returns-then-counts_fault c = search counts_says

pub returns-then-layout_fault : goal.returns-then-layout_fault
returns-then-layout_fault c = search layout_says

pub returns : goal.returns
returns c = search numbers_read
