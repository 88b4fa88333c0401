-- A table's jobs by columns. No promise of the paper rests on this page.
use Rattle.std.specs.Prelude.{ℕ, ◌+◌, ◌*◌, ◌≤◌, ◌<◌, ◌≡◌, List, get_or}
use Rattle.sheet.specs.Table.{most_jobs, job_of}
use Rattle.sheet.specs.declared.Table.{Table}

-- where the columns begin, behind the releases
abbrev pub deadlines_from : ℕ
deadlines_from = 64

abbrev pub wanted_from : ℕ
wanted_from = 128

abbrev pub energies_from : ℕ
energies_from = 192

-- the numbers of job k stand in place k of the four columns, and zeros beyond the last job
pub record ColumnsOf (t : Table) (columns : List ℕ) : Type 0 where
  pub release : (k : ℕ) → k < t.count → k < most_jobs → get_or columns k 0 ≡ (job_of t k).release
  pub deadline : (k : ℕ) → k < t.count → k < most_jobs → get_or columns (deadlines_from + k) 0 ≡ (job_of t k).deadline
  pub wanted : (k : ℕ) → k < t.count → k < most_jobs → get_or columns (wanted_from + k) 0 ≡ (job_of t k).wanted
  pub energy : (k : ℕ) → k < t.count → k < most_jobs → get_or columns (energies_from + k) 0 ≡ (job_of t k).energy
  pub beyond : (column k : ℕ) → column < 4 → t.count ≤ k → k < most_jobs → get_or columns (most_jobs * column + k) 0 ≡ 0
  pub small : (k : ℕ) → get_or columns (energies_from + k) 0 ≤ 255
