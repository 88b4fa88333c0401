-- The first record that refuses is the answer; where none does, the loop has passed them all.
use Rattle.std.proofs.Common.{arith, ◌<◌, ℕ, ◌≡◌, slice_index_or, take}
use Rattle.std.proofs.lemmas.List.{get_or-take}
use mathlib.Core.Path.{sym, ap, subst, ◌∙◌}
use Rattle.sheet.specs.Refusals.{record_says}
use Rattle.sheet.specs.Table.{no_job, window_fault, work_fault}
use Rattle.sheet.specs.declared.Job.{Job}
use Rattle.sheet.specs.declared.Table.{Table}
use Rattle.sheet.proofs.Order.{Refuses, in_order_none, in_order_clear, in_order_first}
use Rattle.sheet.proofs.Refusals.{refusal_refuses}
use Rattle.sheet.proofs.Residual.{err_is}
use Rattle.sheet.proofs.check_records.Invariants.{record_is}
use Rattle.sheet.proofs.check_records.Goals as goal

-- what is asked of the k-th of the first jobs is asked of job k
asked : (t : Table) (k : ℕ) → k < t.count
    → record_says (window_fault t.slots (slice_index_or (take t.count t.jobs) k no_job)) (work_fault (slice_index_or (take t.count t.jobs) k no_job) 0) k ≡ record_is t k
asked t k in_table = ap (λ (j : Job). record_says (window_fault t.slots j) (work_fault j 0) k) (get_or-take t.count t.jobs k no_job in_table)

pub loop-k-init : goal.loop-k-init
loop-k-init c = in_order_none _

pub returns-in_err-check_record : goal.returns-in_err-check_record
returns-in_err-check_record c =
    let in_table : c.loop-k.k < c.args.t.now.count = omega arith in
    let said = c.in_err-check_record.ensures ∙ asked c.args.t.now c.loop-k.k in_table in
    rw (err_is _ c.from_residual.ensures.1) (said ∙ sym (in_order_first (record_is c.args.t.now) c.loop-k.k c.args.t.now.count in_table c.loop-k.invariant (subst Refuses said (refusal_refuses _ _))))

pub loop-k-preserved : goal.loop-k-preserved
loop-k-preserved c =
    let in_table : c.loop-k.k < c.args.t.now.count = omega arith in
    in_order_clear (record_is c.args.t.now) c.loop-k.k c.loop-k.invariant (sym (c.in_ok-check_record.ensures ∙ asked c.args.t.now c.loop-k.k in_table))
