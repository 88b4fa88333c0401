-- Each return follows the tests that led to it.
use native.Mathlib.Nat.{add-sub_cancel_left}
use Rattle.sheet.proofs.Tests.{tests}
use borrow.Author.Tests.{le-leb}
use lib.ListN.{take, drop}
use Prim.Native.Nat.{ℕ, ◌*◌}
use mathlib.Core.Path.{ap}
use Rattle.sheet.specs.Sheet.{record_length}
use Rattle.reader.specs.Promise.{harvest_behind}
use Rattle.reader.proofs.stretch.Goals as goal

pub returns-then-count-gt-MOST_JOBS : goal.returns-then-count-gt-MOST_JOBS
unfolding harvest_behind
returns-then-count-gt-MOST_JOBS c = search tests

pub returns-then-bytes-to : goal.returns-then-bytes-to
unfolding harvest_behind
returns-then-bytes-to c = search tests

pub returns : goal.returns
unfolding harvest_behind
returns c =
    simp (le-leb _ _ c.if-count-gt-MOST_JOBS.false, le-leb _ _ c.if-bytes-to.false)
    (ap (λ (n : ℕ). take n (drop (record_length * c.args.count) c.args.bytes.now)) (add-sub_cancel_left (record_length * c.args.count) c.args.slots))
