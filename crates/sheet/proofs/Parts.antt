-- How long the parts of a sheet are.
use Prim.Native.Nat.{ℕ, ◌*◌}
use mathlib.Core.Path.{◌≡◌, refl}
use mathlib.Core.List.{List}
use native.Mathlib.Omega.{arith}
use lib.ListN.{length, length-append}
use Rattle.sheet.specs.Lists.{joined}
use Rattle.sheet.specs.Table.{job_of}
use Rattle.sheet.specs.Sheet.{record_bytes, record_length, trailer_bytes, trailer_length, sheet_bytes, sheet_length}
use Rattle.sheet.specs.declared.Job.{Job}
use Rattle.sheet.specs.declared.Table.{Table}
use Rattle.sheet.proofs.Lists.{joined_length}

pub record_length_lem : (j : Job) → length (record_bytes j) ≡ record_length
unfolding record_bytes
record_length_lem j = refl

pub trailer_length_lem : (t : Table) → length (trailer_bytes t) ≡ trailer_length
unfolding trailer_bytes
trailer_length_lem t = refl

-- the records of some jobs, one after the other
abbrev pub records_of : (ℕ → Job) → ℕ → List ℕ
records_of jobs n = joined (λ k. record_bytes (jobs k)) n

pub records_length : (jobs : ℕ → Job) (n : ℕ) → length (records_of jobs n) ≡ record_length * n
records_length jobs n = joined_length (λ k. record_bytes (jobs k)) record_length (λ k. record_length_lem (jobs k)) n

pub sheet_length_lem : (t : Table) (harvest : List ℕ) → length harvest ≡ t.slots → length (sheet_bytes t harvest) ≡ sheet_length t.count t.slots
unfolding sheet_bytes
sheet_length_lem t harvest e = simp length-append (omega (arith, records_length (job_of t) t.count, trailer_length_lem t))
