-- Each number's kind is the one that has it.
use borrow.Author.Rules.{rules}
use Rattle.interval.proofs.KindTryFromU64.try_from.Goals as goal

pub returns-in-0 : goal.returns-in-0
returns-in-0 c = search rules

pub returns-in-1 : goal.returns-in-1
returns-in-1 c = search rules
