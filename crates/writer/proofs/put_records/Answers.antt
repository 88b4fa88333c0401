-- Record k is laid right behind the records before it.
use Rattle.std.proofs.Common.{arith, ◌<◌}
use Rattle.std.proofs.lemmas.List.{get_or-take}
use Rattle.sheet.specs.Lists.{joined}
use Rattle.sheet.specs.Table.{no_job}
use Rattle.writer.proofs.Laying.{laid_none}
use Rattle.writer.proofs.Parts.{records_laid}
use Rattle.writer.proofs.put_records.Goals as goal

pub loop-k-init : goal.loop-k-init
unfolding joined
loop-k-init c = laid_none _ _

pub loop-k-preserved : goal.loop-k-preserved
loop-k-preserved c =
    let t = c.args.day.table.now in
    let in_table : c.loop-k.k < t.count = omega arith in
    records_laid t _ c.loop-k.invariant (rw (get_or-take t.count t.jobs c.loop-k.k no_job in_table) at c.put_record.ensures)
