-- What is answered is a part of the room.
use borrow.Author.Rules.{rules}
use Rattle.evidence.proofs.file.read_named.Goals as goal

pub returns : goal.returns
returns c = λ t. search rules
