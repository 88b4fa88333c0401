-- What the judge's answers name stands in the plan, the table and the day: each is given only where it is stated.
use Prim.Native.Nat.{ℕ, ◌≤◌, ◌<◌}
use mathlib.Core.Path.{◌≡◌, sym, ap, ◌∙◌, subst}
use mathlib.Core.List.{List}
use native.Mathlib.Decide.{ℕ_discrete}
use native.Mathlib.Omega.{arith}
use lib.ListN.{length}
use Rattle.std.specs.Prelude.{Result, Ok, Err}
use Rattle.sheet.specs.HandedIn.{on_sheet, day_in}
use Rattle.sheet.specs.Sheet.{table_in}
use Rattle.sheet.specs.Table.{Day}
use Rattle.sheet.specs.WellFormed.{GoodDay, WellFormed}
use Rattle.sheet.specs.declared.Table.{Table}
use Rattle.sheet.proofs.Stated.{sheet_leaves}
use Rattle.reader.specs.Promise.{Reads}
use Rattle.reader.specs.declared.Reading.{Reading}
use Rattle.reader.proofs.Yielding.{table_given}
use Rattle.plan_slots.specs.declared.PlanFault.{PlanFault}
use Rattle.plan_slots.specs.declared.PlanFault.TheVariants.{WrongLength, NoJob, OutsideWindow, HasAllSlots, LacksCharge, LacksSlots}
use Rattle.plan_slots.proofs.Judging.{byte_stands}
use Rattle.judge.specs.Promise.{JudgesPlan, JudgesClaim}
use Rattle.judge.specs.Stated.{RunsIn, plan_turn, PlanGivenFirst}
use Rattle.judge.specs.declared.PlanRefusal.{PlanRefusal}
use Rattle.judge.specs.declared.PlanRefusal.TheVariants as Plan
use Rattle.judge.specs.declared.ClaimRefusal.{ClaimRefusal}
use Rattle.judge.specs.declared.ClaimRefusal.TheVariants as Claim
use Rattle.judge.specs.declared.Sums.{Sums}
use Rattle.judge.proofs.ClaimWords.{kind_number_lem, is_interval}
use Rattle.judge.proofs.Theorems.{plan_faulty_exactly, claim_accepted_exactly, claim_eighteen_exactly}
use Rattle.judge_words.specs.Words.{GoodJobs, IsJobs, Stands}

-- ---- a plan

module _ (d : Day) (plan : List ℕ) where
  -- where a refusal after 11 is given, the plan is of slots bytes
  of_slots : (f : PlanFault) → 0 < plan_turn d f → PlanGivenFirst d plan f → length plan ≡ d.table.slots
  of_slots f later given =
      elim (ℕ_discrete (length plan) d.table.slots) [
        | yes e ↦ e
        | no e ↦ absurd (given.1 WrongLength later e)
      ]

  jobs_slot : (i k : ℕ) → RunsIn d plan k i → length plan ≡ d.table.slots → IsJobs d.table plan i
  jobs_slot i k runs long =
      let h = runs.0 in
      let l = runs.1 in
      let named = runs.2 in
      let in_plan : i < length plan = omega arith in
      let byte = byte_stands plan i 0 in_plan in
      record { in_plan = in_plan; in_table = omega arith }

  given_stands : (f : PlanFault) → PlanGivenFirst d plan f → Stands d.table plan f
  given_stands WrongLength given = tt
  given_stands (NoJob i) given = let long = of_slots (NoJob i) (omega arith) given in let h = given.0.0 in omega arith
  given_stands (OutsideWindow i) given = jobs_slot i given.0.0 given.0.1 (of_slots (OutsideWindow i) (omega arith) given)
  given_stands (HasAllSlots i) given = jobs_slot i given.0.0 given.0.1 (of_slots (HasAllSlots i) (omega arith) given)
  given_stands (LacksCharge i) given = jobs_slot i given.0.0 given.0.1 (of_slots (LacksCharge i) (omega arith) given)
  given_stands (LacksSlots k) given = given.0.0

good_jobs_of : (d : Day) → GoodDay d → GoodJobs d.table
good_jobs_of d good =
    record {
      few = good.few_jobs;
      windows = λ k h. let window = (good.good_jobs k h).window in omega arith;
    }

-- the table that was read of a well-formed sheet
table_is : (s : List ℕ) (reading : Reading) → Reads s reading → WellFormed s → table_in s ≡ reading.table
table_is s reading read good = sym (read.table ∙ table_given s ((sheet_leaves s).1 good))

module _ (s : List ℕ) (reading : Reading) (read : Reads s reading) (plan : List ℕ) (r : Result (Unit {0}) PlanRefusal) (judged : JudgesPlan (on_sheet s) plan r)
    (why : PlanRefusal) (told : r ≡ Err why) (f : PlanFault) (faulty : why ≡ Plan.Plan f) where
  pub named : GoodJobs reading.table × Stands reading.table plan f
  named =
      let w = (plan_faulty_exactly (on_sheet s) plan r judged f).0 (told ∙ ap Err faulty) in
      let d = day_in (on_sheet s) in
      subst (λ (t : Table). GoodJobs t × Stands t plan f) (table_is s reading read w.0) (good_jobs_of d w.0.good_day, given_stands d plan f w.1)

-- ---- a claim

module _ (s : List ℕ) (number from to : ℕ) (r : Result Sums ClaimRefusal) (judged : JudgesClaim (on_sheet s) number from to r) (sums : Sums) where
  pub refused_weighed : (why : ClaimRefusal) → r ≡ Err why → why ≡ Claim.NotOverloaded sums → (number ≤ 1) × (0 < to)
  refused_weighed why told eighteen =
      let w = (claim_eighteen_exactly (on_sheet s) number from to r judged sums).0 (told ∙ ap Err eighteen) in
      let i = (is_interval (table_in s).slots number from to).0 w.1 in
      let order = i.in_order in
      (i.a_kind, omega arith)

  pub accepted_weighed : r ≡ Ok sums → (number ≤ 1) × (0 < to)
  accepted_weighed told =
      let a = ((claim_accepted_exactly (on_sheet s) number from to r judged sums).0 told).1 in
      let number_is = a.kind_is in
      let most = kind_number_lem a.kind in
      let order = a.in_order in
      (omega arith, omega arith)

-- ---- what stands, by the refusal

module _ (t : Table) (plan : List ℕ) (f : PlanFault) (stands : Stands t plan f) where
  pub slot_in_plan : (i : ℕ) → f ≡ NoJob i → i < length plan
  slot_in_plan i e = subst (Stands t plan) e stands

  pub slot_is_jobs_13 : (i : ℕ) → f ≡ OutsideWindow i → IsJobs t plan i
  slot_is_jobs_13 i e = subst (Stands t plan) e stands

  pub slot_is_jobs_14 : (i : ℕ) → f ≡ HasAllSlots i → IsJobs t plan i
  slot_is_jobs_14 i e = subst (Stands t plan) e stands

  pub slot_is_jobs_15 : (i : ℕ) → f ≡ LacksCharge i → IsJobs t plan i
  slot_is_jobs_15 i e = subst (Stands t plan) e stands

  pub job_in_table : (k : ℕ) → f ≡ LacksSlots k → k < t.count
  job_in_table k e = subst (Stands t plan) e stands
