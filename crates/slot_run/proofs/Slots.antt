-- What holds of a slot on whatever day, and what is read off its columns: the jobs' own numbers.
use Prim.Native.Nat.{ℕ, ◌+◌, ◌*◌, ◌<◌, ◌≤◌}
use mathlib.Core.Path.{◌≡◌, refl, sym, ap, ap₂, ◌∙◌}
use mathlib.Core.Bool.{Bool, true, ◌&&◌}
use mathlib.Core.List.{List}
use mathlib.Core.Logic.{∥∥₁_elim}
use native.Mathlib.Omega.{arith}
use lib.Dec.{ltb}
use lib.ListN.{get_or}
use borrow.Author.Tests.{ltb-true}
use Rattle.std.proofs.lemmas.Bool.{and_parts}
use Rattle.std.proofs.Math.Bridge.{le_prop}
use Rattle.sheet.specs.Table.{most_jobs, job_of, cost_of, Day, day_of}
use Rattle.sheet.specs.Sums.{harvest_at, harvest_of}
use Rattle.sheet.specs.WellFormed.{GoodJob}
use Rattle.sheet.specs.declared.Table.{Table}
use Rattle.totals.specs.Totals.{Summed}
use Rattle.totals.proofs.Entries.{harvest_read_lem}
use Rattle.columns.specs.Columns.{ColumnsOf}
use Rattle.choice.specs.declared.State.{State}
use Rattle.choice.specs.Choosing.{deadline_of}
use Rattle.slot_run.specs.Slots.{IsOf}
use Rattle.slot_run.specs.Steps.{Shows}
use Rattle.slot_run.specs.declared.slot.Slot.{Slot}

-- an order of two numbers that holds on each day the slot can be of
pub on_its_day : (slot : Slot) {m n : ℕ} → ((d : Day) → IsOf d slot → m ≤ n) → m ≤ n
on_its_day slot f = ∥∥₁_elim slot.of_a_day le_prop (λ p. f p.0 p.1)

-- job k as it stands in the columns
pub record Reads (d : Day) (jobs : List ℕ) (k : ℕ) : Type 0 where
  pub release : get_or jobs k 0 ≡ (job_of d.table k).release
  pub deadline : get_or jobs (64 + k) 0 ≡ deadline_of d k
  pub energy : get_or jobs (192 + k) 0 ≡ (job_of d.table k).energy
  pub cost : get_or jobs (128 + k) 0 * get_or jobs (192 + k) 0 ≡ cost_of (job_of d.table k)
  pub job : GoodJob d.table.slots (job_of d.table k)

pub reads : (d : Day) (slot : Slot) → IsOf d slot → (k : ℕ) → k < slot.count → Reads d slot.jobs.now k
reads d slot w k h =
    let below : k < d.table.count = omega (arith, w.count_is) in
    let few : k < most_jobs = omega (arith, slot.few) in
    let energy = w.columns.energy k below few in
    record {
      release = w.columns.release k below few;
      deadline = w.columns.deadline k below few;
      energy = energy;
      cost = ap₂ ◌*◌ (w.columns.wanted k below few) energy;
      job = w.summed.good.good_jobs k below;
    }

-- the harvest from a slot up to the deadline of a job that comes later, as the difference of two totals
pub harvest_told : (d : Day) (slot : Slot) → IsOf d slot → (k : ℕ) → k < slot.count → (b : Bool) → (ltb slot.state.now.slot (get_or slot.jobs.now k 0) && b) ≡ true
    → get_or slot.totals.now (get_or slot.jobs.now (64 + k) 0) 0 ≡ slot.harvested + harvest_of d.harvest slot.state.now.slot (deadline_of d k)
harvest_told d slot w k below b comes =
    let job = reads d slot w k below in
    let good = job.job in
    let later : slot.state.now.slot < get_or slot.jobs.now k 0 = ltb-true _ _ (and_parts _ b comes).0 in
    let end : slot.state.now.slot ≤ deadline_of d k = omega (arith, job.release) in
    ap (λ (n : ℕ). get_or slot.totals.now n 0) job.deadline
    ∙ harvest_read_lem d slot.totals.now w.summed slot.state.now.slot (deadline_of d k) end good.in_day
    ∙ ap (λ (n : ℕ). n + harvest_of d.harvest slot.state.now.slot (deadline_of d k)) (sym w.harvested_is)

-- what a slot of a checked day is made of shows the day
pub shows : (t : Table) (harvest jobs totals : List ℕ) (s : State) (at charge : ℕ) → Summed (day_of t harvest) totals → ColumnsOf t jobs → (at ≡ s.slot) × (at < t.slots)
    → charge ≡ s.level + harvest_at harvest at → Shows (day_of t harvest) t.count t.capacity charge (get_or totals at 0) s jobs totals
shows t harvest jobs totals s at charge summed columns here e =
    record {
      summed = summed;
      columns = columns;
      in_day = omega (arith, here.0, here.1);
      count_is = refl;
      capacity_is = refl;
      charge_is = e ∙ ap (λ (n : ℕ). s.level + harvest_at harvest n) here.0;
      harvested_is = ap (λ (n : ℕ). get_or totals n 0) here.0;
    }
