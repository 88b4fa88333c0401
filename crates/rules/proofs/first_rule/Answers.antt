-- Each return follows the tests that led to it, which are the rules' own.
use Rattle.sheet.proofs.Tests.{tests}
use Rattle.rules.proofs.first_rule.Goals as goal

pub returns-then-charge-energy : goal.returns-then-charge-energy
returns-then-charge-energy c = search tests

pub returns-then-capacity-charge : goal.returns-then-capacity-charge
returns-then-capacity-charge c = search tests

pub returns-then-no_slack : goal.returns-then-no_slack
returns-then-no_slack c = rw c.if-no_slack.true (search tests)

pub returns-then-saves : goal.returns-then-saves
returns-then-saves c = rw (c.if-no_slack.false, c.if-saves.true) (search tests)

pub returns : goal.returns
returns c = rw (c.if-no_slack.false, c.if-saves.false) (search tests)
