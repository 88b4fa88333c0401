-- The loop keeps: what is found so far has the latest start among the releases of the jobs before k.
use mathlib.Core.Path.{◌≡◌, sym, ◌∙◌}
use native.Mathlib.Omega.{arith}
use lib.ListN.{get_or, take}
use lib.Seq.{get_or-take}
use Rattle.sheet.specs.Table.{day_of}
use Rattle.demand.proofs.Loops.{latest_first, latest_stays, latest_moves, latest_found}
use Rattle.demand.proofs.Due.latest_start.Goals.{then-earliest-from+then-from-self+in-Some, then-earliest-from+then-from-self+in_default, else-earliest-from, else-earliest-from-via-then-earliest-from+else-from-self, else-earliest-from-via-else-earliest-from}
use Rattle.demand.proofs.Due.latest_start.Goals as goal

pub loop-from-init : goal.loop-from-init
loop-from-init c = λ harvest summed. latest_first _ _

pub loop-from-preserved : goal.loop-from-preserved
loop-from-preserved c = λ harvest summed.
    let k = c.loop-from.from-index in
    let due = c.args.self.now in
    let d = day_of due.day.table.now harvest in
    let releases = due.day.columns.now in
    let count = due.day.table.now.count in
    let from = get_or (take count releases) k 0 in
    let before = c.loop-from.invariant harvest summed in
    let is = get_or-take count releases k 0 (omega arith) ∙ due.day.by_columns.release k (omega arith) (omega arith) in
    elim c.if-earliest-from.branch [
      | then-earliest-from+then-from-self+in-Some w ↦
          rw (w.latest-is, w.earliest-is)
          (latest_moves d due.to k from is _ _ before _ _ (omega arith) w.if-earliest-from.true w.if-from-self.true (w.found_at-found.ensures harvest summed) w.in-Some.is)
      | then-earliest-from+then-from-self+in_default w ↦
          rw (w.latest-is, w.earliest-is) (latest_stays d due.to k from is _ _ before (λ a b. sym (w.found_at-found.ensures harvest summed) ∙ w.in_default.is))
      | else-earliest-from w ↦
          rw (w.latest-is, w.earliest-is)
          (latest_stays d due.to k from is _ _ before
          (λ a b.
          absurd
          (elim w.else-earliest-from.branch [
            | else-earliest-from-via-then-earliest-from+else-from-self v ↦ omega arith
            | else-earliest-from-via-else-earliest-from v ↦ omega arith
          ])))
    ]

pub returns : goal.returns
returns c harvest summed =
    let t = c.args.self.now.day.table.now in
    let at_end : c.loop-from.from-index ≡ t.count = omega arith in
    latest_found (day_of t harvest) _ _ _ (rw at_end at (c.loop-from.invariant harvest summed))
