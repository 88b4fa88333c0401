-- Each return follows what was asked, 13, 14, 15 in turn.
use Prim.Native.Nat.{min, ◌-◌, ◌≤◌, ◌<◌}
use mathlib.Core.Path.{refl, sym, ap, ◌∙◌}
use native.Mathlib.Omega.{arith}
use borrow.Author.Tests.{lt-ltb, le-ltb, le-leb, lt-leb}
use Rattle.plan_slots.specs.Slots.{job_says}
use Rattle.plan_slots.proofs.judge_job.Goals as goal

pub returns-then-not-may_run : goal.returns-then-not-may_run
unfolding job_says
returns-then-not-may_run c = rw (sym c.may_run.ensures ∙ c.if-not-may_run.true)

pub returns-then-wanted-had : goal.returns-then-wanted-had
unfolding job_says
returns-then-wanted-had c =
    let all : c.args.j.wanted ≤ c.args.got.now = omega arith in
    rw (sym c.may_run.ensures ∙ c.if-not-may_run.false, le-leb _ _ all)

pub returns-then-charge-needed : goal.returns-then-charge-needed
unfolding job_says
returns-then-charge-needed c =
    let fewer : c.args.got.now < c.args.j.wanted = omega arith in
    let lacks : c.args.charge < c.args.j.energy = omega arith in
    rw (sym c.may_run.ensures ∙ c.if-not-may_run.false, lt-leb _ _ fewer, lt-ltb _ _ lacks)

pub returns : goal.returns
unfolding job_says
returns c =
    let fewer : c.args.got.now < c.args.j.wanted = omega arith in
    let enough : c.args.j.energy ≤ c.args.charge = omega arith in (
      rw (sym c.may_run.ensures ∙ c.if-not-may_run.false, lt-leb _ _ fewer, le-ltb _ _ enough),
      refl,
      c.cut.ensures ∙ ap (λ n. min c.args.capacity (c.args.charge - n)) c.from-needed.ensures,
    )
