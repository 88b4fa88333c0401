-- The harvest up to the job's deadline is a difference of two totals that goes up; with it, what is at hand up to there falls short or does not.
use Rattle.std.proofs.Common.{◌≡◌, ◌∙◌, sym, ap, ap₂, true, ltb, ◌+◌, ◌-◌, get_or, arith}
use Rattle.sheet.specs.Sums.{harvest_of}
use Rattle.sheet.specs.Table.{job_of}
use Rattle.choice.specs.Choosing.{deadline_of}
use Rattle.slacks.specs.Slack.{comes_before, coming}
use Rattle.slacks.proofs.SlackTests.{needs_charge_lem}
use Rattle.slot_run.proofs.Slots.{on_its_day, reads, harvest_told}
use Rattle.slot_run.proofs.slot.Slot.lacks_charge.Goals as goal

pub bounds-self-end : goal.bounds-self-end
bounds-self-end c =
    on_its_day c.args.self.now
    (λ d w. let job = reads d c.args.self.now w c.args.k c.requires.1 in omega (arith, job.deadline, job.job.in_day, w.summed.good.few_slots))

pub overflow_sub-self : goal.overflow_sub-self
overflow_sub-self c =
    on_its_day c.args.self.now (λ d w. let told = harvest_told d c.args.self.now w _ c.requires.1 _ (sym c.comes_before.ensures ∙ c.if-comes_before.true) in omega arith)

pub returns-then-comes_before : goal.returns-then-comes_before
returns-then-comes_before c =
    λ d w.
    let slot = c.args.self.now in
    let s = slot.state.now in
    let own = deadline_of d c.args.chosen in
    let job = reads d slot w c.args.k c.requires.1 in
    let chosen = reads d slot w c.args.chosen c.requires.0 in
    let asked = sym c.comes_before.ensures ∙ c.if-comes_before.true in
    let told = harvest_told d slot w c.args.k c.requires.1 _ asked in
    let harvest : get_or slot.totals.now (get_or slot.jobs.now (64 + c.args.k) 0) 0 - slot.harvested ≡ harvest_of d.harvest s.slot (deadline_of d c.args.k) = omega arith in
    let comes : comes_before d s own c.args.k ≡ true = rw (sym job.release, sym job.deadline, sym chosen.deadline) asked in
    c.leaves_too_little.ensures
    ∙ ap₂ ltb (ap (λ n. s.level + n) harvest) (ap₂ ◌+◌ (c.coming_up_to.ensures d w ∙ ap (coming d s) job.deadline) chosen.energy)
    ∙ sym (needs_charge_lem d s own (job_of d.table c.args.chosen).energy c.args.k ∙ rw comes)
