-- The parts of a day sheet, laid one behind the other.
use Prim.Native.Nat.{ℕ, ◌+◌, ◌*◌, ◌/◌, ◌%◌, ◌<◌}
use mathlib.Core.Path.{◌≡◌}
use mathlib.Core.List.{List, [], ◌∷◌}
use native.Mathlib.Omega.{arith}
use lib.ListN.{length, length-append}
use Rattle.sheet.specs.Table.{job_of}
use Rattle.sheet.specs.Sheet.{u16, record_bytes, record_length, mark_first, mark_second, trailer_bytes, sheet_bytes}
use Rattle.sheet.specs.declared.Job.{Job}
use Rattle.sheet.specs.declared.Table.{Table}
use Rattle.writer.specs.Laid.{Laid}
use Rattle.writer.proofs.Laying.{laid_next}
use Rattle.sheet.proofs.Lists.{joined_more}
use Rattle.sheet.proofs.Parts.{records_of, records_length}

-- a number below 256 as a u16 is itself and a zero
small_u16 : (n : ℕ) → n < 256 → u16 n ≡ n ∷ 0 ∷ []
small_u16 n h =
    let low : n % 256 ≡ n = omega arith in
    let high : n / 256 % 256 ≡ 0 = omega arith in
    rw (low, high)

pub record_laid : {l a b c n : List ℕ} (at : ℕ) (j : Job) (wide : ℕ)
    → Laid l at (u16 j.release) a
    → Laid a (at + 2) (u16 j.deadline) b
    → Laid b (at + 4) (u16 j.wanted) c
    → Laid c (at + 6) (u16 wide) n
    → wide ≡ j.energy
    → j.energy < 256
    → Laid l at (record_bytes j) n
unfolding record_bytes
record_laid at j wide release deadline wanted energy same small =
    laid_next (laid_next (laid_next release deadline (omega arith)) wanted (omega arith)) (rw (same, small_u16 j.energy small) at energy) (omega arith)

pub trailer_laid : {l a b c d e n : List ℕ} (at : ℕ) (t : Table)
    → Laid l at (u16 t.slots) a
    → Laid a (at + 2) (u16 (t.slots + record_length * t.count)) b
    → Laid b (at + 4) (u16 t.count) c
    → Laid c (at + 6) (u16 t.slots) d
    → Laid d (at + 8) (u16 t.capacity) e
    → Laid e (at + 10) (mark_first ∷ mark_second ∷ []) n
    → Laid l at (trailer_bytes t) n
unfolding trailer_bytes
trailer_laid at t harvest first jobs slots capacity mark =
    laid_next
    (laid_next (laid_next (laid_next (laid_next harvest first (omega arith)) jobs (omega arith)) slots (omega arith)) capacity (omega arith))
    mark (omega arith)

-- record k behind the records before it
pub records_laid : {l m n : List ℕ} (t : Table) (k : ℕ)
    → Laid l 0 (records_of (job_of t) k) m
    → Laid m (record_length * k) (record_bytes (job_of t k)) n
    → Laid l 0 (records_of (job_of t) (k + 1)) n
records_laid t k before this = rw joined_more (laid_next before this (omega (arith, records_length (job_of t) k)))

pub sheet_laid : {l a b n : List ℕ} (t : Table) (harvest : List ℕ) (at trailer : ℕ)
    → at ≡ record_length * t.count
    → trailer ≡ at + length harvest
    → Laid l 0 (records_of (job_of t) t.count) a
    → Laid a at harvest b
    → Laid b trailer (trailer_bytes t) n
    → Laid l 0 (sheet_bytes t harvest) n
unfolding sheet_bytes
sheet_laid t harvest at trailer place behind records middle last =
    laid_next (laid_next records middle (omega (arith, records_length (job_of t) t.count))) last
    (omega (arith, records_length (job_of t) t.count, length-append (records_of (job_of t) t.count) harvest))
