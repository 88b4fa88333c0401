-- Its four runs of two bytes, one behind another, are the record.
use Rattle.writer.proofs.Parts.{record_laid}
use borrow.Author.Rules.{rules}
use Rattle.writer.proofs.put_record.Goals as goal

pub returns : goal.returns
returns c = search (record_laid, rules)
