-- Each return follows the tests that led to it.
use Rattle.sheet.proofs.Tests.{tests}
use Rattle.rules.proofs.settles.Goals as goal

pub returns-then-charge-energy : goal.returns-then-charge-energy
returns-then-charge-energy c = search tests

pub returns : goal.returns
returns c = search tests
