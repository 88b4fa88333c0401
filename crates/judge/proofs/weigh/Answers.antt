-- The demand is the sum over the jobs; the supply follows the kind.
use mathlib.Core.Path.{refl}
use Rattle.judge.proofs.Promised.{weighed_time, weighed_energy}
use Rattle.judge.proofs.weigh.Goals as goal

pub returns-in-Time : goal.returns-in-Time
returns-in-Time c = weighed_time _ _ _ _ _ c.demand_of-demand.ensures c.in-Time.is c.from-supply.ensures

pub returns-in-Energy : goal.returns-in-Energy
returns-in-Energy c = weighed_energy _ _ _ _ _ c.demand_of-demand.ensures c.in-Energy.is _ _ refl c.wide.ensures.0 c.harvest_of.ensures.0
