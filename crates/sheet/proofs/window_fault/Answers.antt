-- Each return follows the tests that led to it.
use Rattle.sheet.specs.Table.{window_fault}
use Rattle.sheet.proofs.Tests.{tests}
use Rattle.sheet.proofs.window_fault.Goals as goal

pub returns-then-j : goal.returns-then-j
unfolding window_fault
returns-then-j c = search tests

pub returns : goal.returns
unfolding window_fault
returns c = search tests
