-- Columns that are being made: those of the jobs before n, and what storing the four numbers of the next job leaves.
use Prim.Native.Nat.{ℕ, ◌+◌, ◌*◌, ◌≤◌, ◌<◌}
use mathlib.Core.Path.{◌≡◌, refl}
use mathlib.Core.List.{List}
use native.Mathlib.Omega.{arith}
use lib.ListN.{length, get_or, set, replicate, length-set}
use Rattle.std.proofs.lemmas.Grind.{common_steps}
use Rattle.sheet.specs.Table.{most_jobs, job_of}
use Rattle.sheet.specs.declared.Job.{Job}
use Rattle.sheet.specs.declared.Table.{Table}
use Rattle.sheet.proofs.Lists.{zeros_first}

pub record UpTo (t : Table) (n : ℕ) (l : List ℕ) : Type 0 where
  pub long : length l ≡ 256
  pub release : (k : ℕ) → k < n → get_or l k 0 ≡ (job_of t k).release
  pub deadline : (k : ℕ) → k < n → get_or l (64 + k) 0 ≡ (job_of t k).deadline
  pub wanted : (k : ℕ) → k < n → get_or l (128 + k) 0 ≡ (job_of t k).wanted
  pub energy : (k : ℕ) → k < n → get_or l (192 + k) 0 ≡ (job_of t k).energy
  pub beyond : (column k : ℕ) → column < 4 → n ≤ k → k < most_jobs → get_or l (most_jobs * column + k) 0 ≡ 0
  pub small : (k : ℕ) → get_or l (192 + k) 0 ≤ 255

pub none_yet : (t : Table) → UpTo t 0 (replicate 256 0)
none_yet t =
    record {
      long = refl;
      release = λ k h. absurd (omega arith);
      deadline = λ k h. absurd (omega arith);
      wanted = λ k h. absurd (omega arith);
      energy = λ k h. absurd (omega arith);
      beyond = λ column k h l m. zeros_first 256 (most_jobs * column + k);
      small = λ k. let e = zeros_first 256 (192 + k) in omega arith;
    }

module _ (t : Table) (n e : ℕ) (j : Job) (l : List ℕ) (up : UpTo t n l) (few : n < most_jobs) (own : j ≡ job_of t n) (e_is : e ≡ j.energy) (small : e ≤ 255) where
  abbrev stored : List ℕ
  stored = set (set (set (set l n j.release) (64 + n) j.deadline) (128 + n) j.wanted) (192 + n) e

  pub job_more : UpTo t (n + 1) stored
  job_more =
      let long = up.long in
      record {
        long = simp length-set long;
        release = λ k h. grind (arith, common_steps);
        deadline = λ k h. grind (arith, common_steps);
        wanted = λ k h. grind (arith, common_steps);
        energy = λ k h. grind (arith, common_steps);
        beyond = λ column k h m f. grind (arith, common_steps);
        small = λ k. grind (arith, common_steps);
      }
