-- Each end follows the tests that led to it.
use borrow.Author.Rules.{rules}
use Rattle.choice.proofs.is_ready.Goals as goal

pub returns-then-slot-deadline : goal.returns-then-slot-deadline
returns-then-slot-deadline c = search rules

pub returns-else-slot-deadline : goal.returns-else-slot-deadline
returns-else-slot-deadline c = search rules
