-- Energies are bytes.
use Rattle.std.proofs.Common.{◌+◌, ◌≤◌, get_or, arith}
use Rattle.slot_run.proofs.Slots.{on_its_day}
use Rattle.slot_run.proofs.slot.Slot.coming_part.Goals as goal

pub overflow_cast-self : goal.overflow_cast-self
overflow_cast-self c = let byte : get_or c.args.self.now.jobs.now (192 + c.args.i) 0 ≤ 255 = on_its_day c.args.self.now (λ d w. w.columns.small c.args.i) in omega arith
