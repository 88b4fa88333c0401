-- The choice is nobody, or a job that is below the count; the rules for it decide.
use Rattle.std.proofs.Common.{◌∙◌, sym, ap, arith}
use Rattle.choice.proofs.Choosing.{chosen_is}
use Rattle.rules.specs.Rules.{rule_on, decided}
use Rattle.slot_run.proofs.Slots.{on_its_day}
use Rattle.slot_run.proofs.slot.Slot.decide.Goals as goal

pub rule_for-requires : goal.rule_for-requires
rule_for-requires c =
    on_its_day c.args.self.now (λ d w. let is = chosen_is d _ _ (sym (c.choose.ensures d w) ∙ c.in-Some.is) in omega (arith, is.below, w.count_is))

pub returns-in-None : goal.returns-in-None
unfolding decided
returns-in-None c = λ d w. ap (rule_on d _) (sym c.in-None.is ∙ c.choose.ensures d w)

pub returns-in-Some : goal.returns-in-Some
unfolding decided
returns-in-Some c = λ d w. c.rule_for.ensures d w ∙ ap (rule_on d _) (sym c.in-Some.is ∙ c.choose.ensures d w)
