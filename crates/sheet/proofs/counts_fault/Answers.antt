-- Each return follows the tests that led to it.
use Rattle.sheet.specs.Table.{counts_fault}
use Rattle.sheet.proofs.Tests.{tests}
use Rattle.sheet.proofs.counts_fault.Goals as goal

pub returns-then-count-gt-MOST_JOBS : goal.returns-then-count-gt-MOST_JOBS
unfolding counts_fault
returns-then-count-gt-MOST_JOBS c = search tests

pub returns-then-slots-eq0 : goal.returns-then-slots-eq0
unfolding counts_fault
returns-then-slots-eq0 c = search tests

pub returns : goal.returns
unfolding counts_fault
returns c = search tests
