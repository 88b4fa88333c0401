-- Byte i is laid right behind the bytes before it.
use mathlib.Core.Path.{◌≡◌}
use native.Mathlib.Omega.{arith}
use lib.ListN.{length}
use lib.Seq.{take-length}
use Rattle.writer.proofs.Laying.{laid_none, laid_byte}
use borrow.Author.Rules.{rules}
use Rattle.writer.proofs.put_harvest.Goals as goal

pub loop-i-init : goal.loop-i-init
loop-i-init c = laid_none _ _

pub loop-i-preserved : goal.loop-i-preserved
loop-i-preserved c = search (laid_byte, rules)

pub returns : goal.returns
returns c =
    let at_end : c.loop-i.i ≡ length c.args.harvest.now = omega arith in
    rw (at_end, take-length) at c.loop-i.invariant
