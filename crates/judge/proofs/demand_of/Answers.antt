-- Each job of the table adds its part to the demand, or none.
use Rattle.std.proofs.Common.{arith, ◌≡◌, ◌+◌, ◌<◌}
use Rattle.std.proofs.lemmas.Bool.{cond-true, cond-false}
use Rattle.std.proofs.lemmas.List.{get_or-take}
use mathlib.Core.Path.{refl, sym, ap, ap₂, ◌∙◌}
use Rattle.sheet.specs.Sums.{total}
use Rattle.sheet.specs.Table.{no_job}
use Rattle.sheet.specs.declared.Job.{Job}
use Rattle.sheet.proofs.Sums.{total_none, total_more}
use Rattle.interval.specs.Demand.{within, share_of}
use Rattle.judge.proofs.Weighing.{part_of, part_read, demand_is}
use borrow.Author.Rules.{rules}
use Rattle.judge.proofs.demand_of.Goals as goal
use Rattle.judge.proofs.demand_of.Goals.{then-is_within, else-is_within}

pub loop-job-init : goal.loop-job-init
loop-job-init c = (sym (total_none _), search rules)

pub loop-job-preserved : goal.loop-job-preserved
loop-job-preserved c =
    let claim = c.args.claim in
    let table = c.args.day.table.now in
    let k = c.loop-job.job-index in
    let in_table : k < table.count = omega arith in
    let same = get_or-take table.count table.jobs k no_job in_table in
    let asked = c.is_within.ensures ∙ ap (λ (j : Job). within claim.from claim.to j) same in
    let more = total_more (part_of claim.kind table claim.from claim.to) k in
    elim c.if-is_within.branch [
      | then-is_within w ↦
          let share = w.share-demand.ensures.0 ∙ ap (λ (j : Job). share_of claim.kind j) same in
          let part = part_read claim.kind table claim.from claim.to k _ _ _ asked share (cond-true _ _ _ w.if-is_within.true) in
          let small = w.share-demand.ensures.1 in
          let is : c.if-is_within.demand ≡ c.loop-job.demand + w.share-demand.result = w.demand-is in
          (is ∙ ap₂ ◌+◌ c.loop-job.invariant.0 part ∙ sym more, omega arith)
      | else-is_within w ↦
          let none = part_read claim.kind table claim.from claim.to k 0 _ _ asked refl (cond-false _ _ _ w.if-is_within.false) in
          let is : c.if-is_within.demand ≡ c.loop-job.demand = w.demand-is in
          let same : c.loop-job.demand ≡ c.loop-job.demand + 0 = omega arith in
          (is ∙ same ∙ ap₂ ◌+◌ c.loop-job.invariant.0 none ∙ sym more, omega arith)
    ]

pub returns : goal.returns
returns c =
    let claim = c.args.claim in
    let table = c.args.day.table.now in
    let at_end : c.loop-job.job-index ≡ table.count = omega arith in
    c.loop-job.invariant.0
    ∙ ap (total (part_of claim.kind table claim.from claim.to)) at_end
    ∙ demand_is claim.kind table c.args.day.harvest.now claim.from claim.to
