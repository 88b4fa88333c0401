-- Each end follows the tests that led to it.
use borrow.Author.Rules.{rules}
use Rattle.slacks.proofs.coming_part.Goals as goal

pub returns-then-deadline-end : goal.returns-then-deadline-end
returns-then-deadline-end c = search rules

pub returns-else-slot-release : goal.returns-else-slot-release
returns-else-slot-release c = search rules
