-- What is answered is what `read_named` answers.
use borrow.Author.Rules.{rules}
use Rattle.evidence.proofs.file.read.Goals as goal

pub returns-in-Ok : goal.returns-in-Ok
returns-in-Ok c = λ t. search rules
