-- The loop keeps what a run keeps; in its body n is a slot of the day, and the state's.
use Rattle.std.proofs.Common.{◌∙◌, sym, ap, refl, arith}
use Rattle.sheet.specs.Checked.{the_day}
use Rattle.choice.specs.declared.State.{State}
use Rattle.slot_run.specs.Run.{plan_byte}
use Rattle.slot_run.proofs.Running.{small_byte, state_slot, run_none, run_more, run_all}
use Rattle.slot_run.proofs.whole_run.Goals as goal

pub loop-n-init : goal.loop-n-init
loop-n-init c = run_none _ _ _ (c.first_state-s.ensures)

pub take_slot-decision-requires-clause-in_day : goal.take_slot-decision-requires-clause-in_day
take_slot-decision-requires-clause-in_day c =
    let run = c.loop-n.invariant in
    (sym (ap (λ (x : State). x.slot) run.state ∙ state_slot (the_day c.args.day) c.loop-n.n), omega (arith, c.requires.room))

pub plan_byte-requires : goal.plan_byte-requires
plan_byte-requires c = rw c.take_slot-decision.ensures.decides (small_byte _ c.loop-n.s c.args.day.good.few_jobs)

pub loop-n-preserved : goal.loop-n-preserved
loop-n-preserved c =
    let took = c.take_slot-decision.ensures in
    run_more _ _ _ _ _ c.loop-n.invariant (omega arith) _ _ took.next (c.plan_byte.ensures ∙ ap plan_byte took.decides)

pub returns-clause-unfinished : goal.returns-clause-unfinished
returns-clause-unfinished c =
    let day = the_day c.args.day in
    let all = run_all day _ _ _ _ c.loop-n.invariant c.requires.room (omega arith) in
    c.find_unfinished.ensures day _ c.by_columns-jobs.ensures refl (sym (ap (λ (x : State). x.left) all.0))

pub returns-clause-plan : goal.returns-clause-plan
returns-clause-plan c = (run_all (the_day c.args.day) _ _ _ _ c.loop-n.invariant c.requires.room (omega arith)).1
