-- Each return follows the tests that led to it.
use Rattle.sheet.specs.Table.{work_fault}
use Rattle.sheet.proofs.Tests.{tests}
use Rattle.sheet.proofs.work_fault.Goals as goal

pub returns-then-j-eq0 : goal.returns-then-j-eq0
unfolding work_fault
returns-then-j-eq0 c = search tests

pub returns-then-j-gt-MOST_SLOTS : goal.returns-then-j-gt-MOST_SLOTS
unfolding work_fault
returns-then-j-gt-MOST_SLOTS c = search tests

pub returns-then-j-eq0-2 : goal.returns-then-j-eq0-2
unfolding work_fault
returns-then-j-eq0-2 c = search tests

pub returns : goal.returns
unfolding work_fault
returns c = search tests
