-- Each return follows the tests that led to it.
use Rattle.sheet.specs.Sheet.{mark_fault}
use Rattle.sheet.proofs.Tests.{tests}
use Rattle.reader.proofs.mark_fault.Goals as goal

pub returns-then-bytes-length-ne-MARK_FIRST : goal.returns-then-bytes-length-ne-MARK_FIRST
unfolding mark_fault
returns-then-bytes-length-ne-MARK_FIRST c = search tests

pub returns : goal.returns
unfolding mark_fault
returns c = search tests
