-- Nothing stands on it.
use Rattle.std.proofs.Common.{rules}
use Rattle.lines.proofs.Line.new.Goals as goal

pub returns : goal.returns
returns c = search rules
