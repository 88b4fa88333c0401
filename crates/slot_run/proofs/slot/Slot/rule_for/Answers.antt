-- Each return goes by what was asked and answered before it.
use Rattle.std.proofs.Common.{◌≡◌, ◌∙◌, sym, ap, ap₂, ℕ, Bool, false, ◌<◌, ◌+◌, get_or}
use Rattle.sheet.specs.Table.{job_of, Day}
use Rattle.choice.specs.Choosing.{deadline_of}
use Rattle.slacks.specs.Slack.{slack_time, slack_energy, zero_or_less, is_below}
use Rattle.rules.specs.Rules.{Ruled, first_rule, rule_for}
use Rattle.rules.proofs.RuleLaws.{slacks_not_asked}
use Rattle.slot_run.specs.Slots.{IsOf}
use Rattle.slot_run.specs.declared.slot.Slot.{Slot}
use Rattle.slot_run.proofs.Slots.{reads}
use Rattle.slot_run.proofs.slot.Slot.rule_for.Goals as goal

module _ (slot : Slot) (chosen : ℕ) where
  -- the rules on what the code reads, with the two answers on the slacks
  abbrev rules : Bool → Bool → Ruled
  rules no_slack saves = first_rule slot.charge (get_or slot.jobs.now (192 + chosen) 0) slot.capacity no_slack saves chosen

  -- what rules 4 and 5 ask
  abbrev lacks_time : Day → Bool
  lacks_time d = zero_or_less (slack_time d slot.state.now)

  abbrev lacks_charge : Day → Bool
  lacks_charge d = is_below (slack_energy d slot.state.now (deadline_of d chosen)) (job_of d.table chosen).energy

  rules_read : chosen < slot.count → (d : Day) → IsOf d slot → rules (lacks_time d) (lacks_charge d) ≡ rule_for d slot.state.now chosen
  unfolding rule_for
  rules_read below d w = rw (w.charge_is, (reads d slot w chosen below).energy, w.capacity_is)

pub returns-then-settles : goal.returns-then-settles
returns-then-settles c =
    λ d w.
    let slot = c.args.self.now in
    let k = c.args.chosen in
    c.first_rule.ensures
    ∙ slacks_not_asked slot.charge _ slot.capacity k (sym c.settles.ensures ∙ c.if-settles.true) false false (lacks_time slot k d) (lacks_charge slot k d)
    ∙ rules_read slot k c.requires d w

pub returns-then-no_slack : goal.returns-then-no_slack
returns-then-no_slack c =
    λ d w.
    let slot = c.args.self.now in
    let k = c.args.chosen in
    c.first_rule-then-no_slack.ensures ∙ ap (λ b. rules slot k b (lacks_charge slot k d)) (sym c.if-no_slack.true ∙ c.no_slack.ensures d w) ∙ rules_read slot k c.requires d w

pub returns : goal.returns
returns c =
    λ d w.
    let slot = c.args.self.now in
    let k = c.args.chosen in
    c.first_rule-2.ensures ∙ ap₂ (rules slot k) (sym c.if-no_slack.false ∙ c.no_slack.ensures d w) (c.needs_charge-saves.ensures d w) ∙ rules_read slot k c.requires d w
