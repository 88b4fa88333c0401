-- What is weighed, job by job.
use Prim.Native.Nat.{ℕ}
use mathlib.Core.Path.{◌≡◌, refl, sym, ap₂, ◌∙◌}
use mathlib.Core.Bool.{Bool, cond}
use mathlib.Core.List.{List}
use Rattle.sheet.specs.Sums.{total}
use Rattle.sheet.specs.Table.{job_of, day_of}
use Rattle.sheet.specs.declared.Table.{Table}
use Rattle.interval.specs.Demand.{within, share_of, demand_of}
use Rattle.interval.specs.declared.Kind.{Kind}

-- what job k adds to the demand of an interval
abbrev pub part_of : Kind → Table → ℕ → ℕ → ℕ → ℕ
part_of kind t from to k = cond (within from to (job_of t k)) (share_of kind (job_of t k)) 0

-- the same, as the code reads it
pub part_read : (kind : Kind) (t : Table) (from to k part share : ℕ) (counts : Bool) → counts ≡ within from to (job_of t k) → share ≡ share_of kind (job_of t k)
    → cond counts share 0 ≡ part → part ≡ part_of kind t from to k
part_read kind t from to k part share counts w s e = sym e ∙ ap₂ (λ (b : Bool) (x : ℕ). cond b x 0) w s

-- the demand of an interval is the sum over all jobs
pub demand_is : (kind : Kind) (t : Table) (harvest : List ℕ) (from to : ℕ) → total (part_of kind t from to) t.count ≡ demand_of kind (day_of t harvest) from to
unfolding demand_of
demand_is kind t harvest from to = refl
