-- Each end follows the test that led to it.
use borrow.Author.Rules.{rules}
use Rattle.slacks.proofs.comes_before.Goals as goal

pub returns-then-slot-release : goal.returns-then-slot-release
returns-then-slot-release c = search rules

pub returns-else-slot-release : goal.returns-else-slot-release
returns-else-slot-release c = search rules
