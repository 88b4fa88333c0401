-- The loop keeps: `least` is the least deadline after the slot among the jobs before k.
use Prim.Native.Nat.{◌+◌, ◌-◌}
use mathlib.Core.Path.{◌∙◌}
use native.Mathlib.Omega.{arith}
use lib.ListN.{drop}
use lib.Seq.{get_or-take, get_or-drop}
use Rattle.demand.proofs.Loops.{least_stays, least_moves}
use Rattle.demand.proofs.Accepted.next_deadline.Goals.{then-after-own+then-own-least, else-after-own, else-after-own-via-then-after-own+else-own-least, else-after-own-via-else-after-own}
use Rattle.demand.proofs.Accepted.next_deadline.Goals as goal

pub loop-own-preserved : goal.loop-own-preserved
loop-own-preserved c =
    let day = c.args.self.now in
    let k = c.loop-own.own-index in
    let deadlines = drop 64 day.columns.now in
    let count = 64 + day.table.now.count - 64 in
    let is = get_or-take count deadlines k 0 (omega arith) ∙ get_or-drop 64 day.columns.now k 0 ∙ day.by_columns.deadline k (omega arith) (omega arith) in
    let before = c.loop-own.invariant in
    elim c.if-after-own.branch [
      | then-after-own+then-own-least w ↦ rw w.least-is (least_moves day.table.now c.args.after k _ _ is before (omega arith) w.if-after-own.true w.if-own-least.true)
      | else-after-own w ↦
          rw w.least-is
          (least_stays day.table.now c.args.after k _ _ is before
          (λ a.
          elim w.else-after-own.branch [
            | else-after-own-via-then-after-own+else-own-least v ↦ omega arith
            | else-after-own-via-else-after-own v ↦ omega arith
          ]))
    ]
