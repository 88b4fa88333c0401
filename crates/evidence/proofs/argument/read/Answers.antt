-- What is answered is a part of the room.
use native.Mathlib.Omega.{arith}
use borrow.Author.Rules.{rules}
use Rattle.evidence.proofs.argument.read.Goals as goal

pub returns-in-Err : goal.returns-in-Err
returns-in-Err c = λ t. omega arith

pub returns-in-Ok : goal.returns-in-Ok
returns-in-Ok c = λ t. search rules
