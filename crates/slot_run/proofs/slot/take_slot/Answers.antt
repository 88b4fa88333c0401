-- The slot is one of the day; a busy slot's job has a place, wants the slot and can be paid; the next state follows the kind of the slot.
use Rattle.std.proofs.Common.{◌≡◌, ◌∙◌, sym, ap, ℕ, ◌+◌, ◌-◌, ◌<◌, ◌≤◌, min, get_or, arith, refl}
use Rattle.sheet.specs.Sums.{harvest_at}
use Rattle.sheet.specs.Checked.{the_day}
use Rattle.sheet.specs.Table.{most_jobs, job_of, Day}
use Rattle.rules.specs.Rules.{busy, decision_says, at_hand, decided}
use Rattle.rules.specs.declared.BusyWhy.{BusyWhy}
use Rattle.rules.specs.declared.Decision.TheVariants.{Busy}
use Rattle.rules.proofs.RuleLaws.{busy_rule, idle_says, busy_says, busy_facts, idle_leaves, busy_leaves, next_by_parts}
use Rattle.slot_run.proofs.Slots.{shows}
use Rattle.slot_run.proofs.slot.take_slot.Goals.{After-decide-decision, In-Busy, in-Idle, in-Busy}
use Rattle.slot_run.proofs.slot.take_slot.Goals as goal

module _ (c : After-decide-decision) where
  abbrev day : Day
  day = the_day c.args.day

  does : decision_says c.decide-decision.result ≡ decided day c.args.s.now
  does = c.decide-decision.ensures day (shows _ _ _ _ _ _ _ (record { good = c.args.day.good; totals_are = c.requires.totals }) c.requires.columns c.requires.in_day c.at_hand-charge.ensures)

  charge_is : c.at_hand-charge.result ≡ at_hand day c.args.s.now
  charge_is = c.at_hand-charge.ensures ∙ ap (λ n. c.args.s.now.level + harvest_at c.args.day.harvest.now n) c.requires.in_day.0

  module _ (k : ℕ) (why : BusyWhy) (e : c.decide-decision.result ≡ Busy k why) where
    is_busy : decided day c.args.s.now ≡ busy (busy_rule why) k
    is_busy = sym does ∙ ap decision_says e ∙ busy_says k why

    -- a busy slot's job has a place, wants the slot and can be paid
    can : (k < most_jobs) × (1 ≤ get_or c.args.s.now.left k 0) × (get_or c.args.jobs.now (192 + k) 0 ≡ (job_of day.table k).energy)
        × ((job_of day.table k).energy ≤ c.at_hand-charge.result)
    can =
        let facts = busy_facts day _ _ k is_busy in
        let few : k < most_jobs = omega (arith, facts.0, c.args.day.good.few_jobs) in
        (few, facts.1, c.requires.columns.energy k facts.0 few, omega (arith, facts.2, charge_is))

pub spend-spent-requires : goal.spend-spent-requires
spend-spent-requires c = let may = can (goal.at.spend-spent-requires c).After-decide-decision c.in-Busy.k _ c.in-Busy.is in (may.0, may.1)

pub overflow_sub-charge : goal.overflow_sub-charge
overflow_sub-charge c =
    let before = (goal.at.overflow_sub-charge c).After-decide-decision in
    elim c.match-decision.branch [
      | in-Idle w ↦ omega (arith, w.spent-is)
      | in-Busy w ↦ let may = can before w.in-Busy.k _ w.in-Busy.is in omega (arith, w.spent-is, w.spend-spent.ensures.cost, may.2, may.3)
    ]

pub returns-clause-next : goal.returns-clause-next
returns-clause-next c =
    let before = (goal.at.returns-clause-next c).After-decide-decision in
    let d = day before in
    let s = c.args.s.now in
    elim c.match-decision.branch [
      | in-Idle w ↦
          let is = sym (does before) ∙ ap decision_says w.in-Idle.is ∙ idle_says w.in-Idle.field-0 in
          let whole : c.at_hand-charge.result - c.match-decision.spent ≡ c.at_hand-charge.result = omega (arith, w.spent-is) in
          rw w.s-is (next_by_parts d s _ _ (idle_leaves d s _ _ s.left (charge_is before) refl _ is (c.cut-s.ensures ∙ ap (min c.args.day.table.now.capacity) whole)))
      | in-Busy w ↦
          let may = can before w.in-Busy.k _ w.in-Busy.is in
          let price = w.spent-is ∙ w.spend-spent.ensures.cost ∙ may.2 in
          rw (w.s-is, w.spend-spent.ensures.taken)
          (next_by_parts d s _ _ (busy_leaves d s _ _ s.left (charge_is before) refl _ w.in-Busy.k _ (is_busy before w.in-Busy.k _ w.in-Busy.is) price c.cut-s.ensures))
    ]
