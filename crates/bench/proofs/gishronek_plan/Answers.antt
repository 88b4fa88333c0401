-- The job of an undecided day is one of the table's, so its number is small.
use mathlib.Core.Path.{ap, ◌∙◌}
use native.Mathlib.Omega.{arith}
use Rattle.std.specs.Prelude.{Ok}
use Rattle.bench.proofs.Undecided.{undecided_few}
use Rattle.bench.proofs.gishronek_plan.Goals as goal

pub overflow_add-result : goal.overflow_add-result
overflow_add-result c =
    let few = undecided_few _ _ _ _ c.plan_sheet.ensures c.in-Ok-Undecided.k (c.in-Ok-Undecided.is ∙ ap Ok c.in-Ok-Undecided.field-0-is) in
    record { fits = omega arith }
