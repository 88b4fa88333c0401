-- Nothing stands on it any more.
use Rattle.std.proofs.Common.{rules}
use Rattle.lines.proofs.Line.print.Goals as goal

pub returns : goal.returns
returns c = search rules
