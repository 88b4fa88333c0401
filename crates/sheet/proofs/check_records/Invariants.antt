-- The loop keeps: no record before k refuses.
use Prim.Native.Nat.{ℕ}
use mathlib.Core.Path.{◌≡◌}
use Rattle.sheet.specs.Paper.{Check, gives, in_order}
use Rattle.sheet.specs.Refusals.{record_says}
use Rattle.sheet.specs.Table.{job_of, window_fault, work_fault}
use Rattle.sheet.specs.declared.Table.{Table}
use Rattle.sheet.proofs.check_records.Given as goal

abbrev pub record_is : Table → ℕ → Check
record_is t k = record_says (window_fault t.slots (job_of t k)) (work_fault (job_of t k) 0) k

abbrev pub invariant-loop-k : goal.invariant-loop-k
invariant-loop-k l = in_order (record_is l.t) l.k ≡ gives tt
