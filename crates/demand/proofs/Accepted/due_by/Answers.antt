-- The loop keeps: what is due of the jobs before k is set.
use Prim.Native.Nat.{ℕ, ◌*◌, ◌≤◌}
use mathlib.Core.Path.{ap₂, ◌∙◌}
use mathlib.Core.Bool.{cond}
use native.Mathlib.Nat.{mul-le-mul}
use native.Mathlib.Omega.{arith}
use lib.Dec.{leb}
use lib.ListN.{length-set}
use Rattle.interval.specs.declared.Kind.TheVariants.{Time, Energy}
use Rattle.demand.proofs.Loops.{due_more}
use Rattle.demand.proofs.Accepted.due_by.Goals as goal

pub loop-k-preserved : goal.loop-k-preserved
loop-k-preserved c =
    let k = c.loop-k.k in
    let job = c.args.self.by_columns in
    let due : ℕ → ℕ → ℕ = (λ d w. cond (leb d c.args.to) w 0) in
    let deadline = job.deadline k (omega arith) (omega arith) in
    let wanted = c.from-wanted.ensures ∙ job.wanted k (omega arith) (omega arith) in
    let energy = c.from.ensures ∙ job.energy k (omega arith) (omega arith) in
    let small : c.from.result ≤ 255 = let most = job.small k in omega arith in
    let fits : c.from-wanted.result ≤ 65535 = omega arith in
    let before = c.loop-k.invariant in (
      simp length-set before.0,
      simp length-set before.1,
      due_more Time c.args.self.table.now _ k _ _ (omega arith) before.2 (c.counted_if.ensures.0 ∙ ap₂ due deadline wanted) (omega arith),
      due_more Energy c.args.self.table.now _ k _ _ (omega arith) before.3
          (c.counted_if-in-loop-k.ensures.0 ∙ ap₂ due deadline (ap₂ ◌*◌ wanted energy)) (let most = mul-le-mul fits small in omega arith),
    )
