-- The loop keeps: the columns hold the numbers of the jobs before k, and zeros in the other places.
use native.Mathlib.Omega.{arith}
use mathlib.Core.Path.{refl}
use Rattle.std.proofs.lemmas.Grind.{common_steps}
use Rattle.columns.proofs.Making.{none_yet, job_more}
use Rattle.columns.proofs.by_columns.Goals as goal

pub loop-k-init : goal.loop-k-init
loop-k-init c = none_yet _

pub loop-k-preserved : goal.loop-k-preserved
loop-k-preserved c = job_more _ _ _ _ _ c.loop-k.invariant (grind (arith, common_steps)) refl c.from.ensures (grind (arith, common_steps))
