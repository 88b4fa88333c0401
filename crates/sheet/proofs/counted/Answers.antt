-- A byte counts for itself.
use Rattle.sheet.proofs.HarvestBytes.{counts_itself}
use borrow.Author.Rules.{rules}
use Rattle.sheet.proofs.counted.Goals as goal

pub returns : goal.returns
returns c = search (rules, counts_itself c.args.byte (search rules))
