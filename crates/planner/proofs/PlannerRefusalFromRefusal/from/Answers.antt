-- A refusal is passed on as it is.
use mathlib.Core.Path.{refl}
use Rattle.planner.proofs.PlannerRefusalFromRefusal.from.Goals as goal

pub returns : goal.returns
returns c = refl
