-- A refusal is passed on as it is.
use mathlib.Core.Path.{refl}
use Rattle.judge.proofs.PlanRefusalFromPlanFault.from.Goals as goal

pub returns : goal.returns
returns c = refl
