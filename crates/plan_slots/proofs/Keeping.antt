-- What the pass over a plan keeps as slot i begins, and that it is kept through an idle slot and through a busy one.
use Prim.Native.Nat.{ℕ, min, ◌+◌, ◌-◌, ◌≤◌, ◌<◌}
use mathlib.Core.Path.{◌≡◌, refl, sym, ap, ap₂, ◌∙◌, subst}
use mathlib.Core.List.{List}
use native.Mathlib.Omega.{arith}
use lib.ListN.{length, get_or, set, replicate, length-set}
use lib.Seq.{get_or-set_same, get_or-set_other}
use Rattle.std.specs.Prelude.{Ok}
use Rattle.sheet.specs.Paper.{gives, in_order}
use Rattle.sheet.specs.Sums.{harvest_at}
use Rattle.sheet.specs.Table.{most_jobs, idle_byte, start_level, job_of, Day}
use Rattle.sheet.proofs.Order.{in_order_none, in_order_clear}
use Rattle.sheet.proofs.Lists.{zeros_first}
use Rattle.plan_slots.specs.Plan.{byte_of, slots_got, level_at}
use Rattle.plan_slots.specs.Slots.{job_says, slot_says, slots_say}
use Rattle.plan_slots.specs.Steps.{JobLeaves, ends_by}
use Rattle.plan_slots.specs.Numbers.{fault_says}
use Rattle.plan_slots.specs.declared.PlanFault.{PlanFault}
use Rattle.plan_slots.specs.declared.PlanFault.TheVariants.{NoJob}
use Rattle.plan_slots.proofs.Judging.{got_none, got_here, got_not_here, level_first, idle_says, idle_level, idle_got, stranger_says, busy_says, busy_level, first_refused, ends_decide, byte_stands}
use Rattle.plan_slots.proofs.SlotOrder.{fault_refuses}

-- the level and the slots that each job got are the plan's, and no slot before i is refused
pub record Kept (d : Day) (plan got : List ℕ) (level i : ℕ) : Type 0 where
  pub level_is : level ≡ level_at d plan i
  pub got_long : length got ≡ most_jobs
  pub got_is : (k : ℕ) → k < d.table.count → get_or got k 0 ≡ slots_got plan k i
  pub clear : in_order (slot_says d plan) i ≡ gives tt

pub kept_first : (d : Day) (plan : List ℕ) → Kept d plan (replicate most_jobs 0) (start_level d.table) 0
kept_first d plan =
    record {
      level_is = sym (level_first d plan);
      got_long = refl;
      got_is = λ k h. zeros_first most_jobs k ∙ sym (got_none plan k);
      clear = in_order_none _;
    }

-- ---- slot i of the day, with what is kept as it begins, and its byte and its charge as the code reads them

pub record SlotRead (d : Day) (plan got : List ℕ) (level i byte charge : ℕ) : Type 0 where
  pub few_jobs : d.table.count ≤ most_jobs
  pub kept : Kept d plan got level i
  pub in_day : i < d.table.slots
  pub in_plan : i < length plan
  pub byte_is : byte ≡ get_or plan i 0
  pub charge_is : charge ≡ level + harvest_at d.harvest i

module _ {d : Day} {plan got : List ℕ} {level i byte charge : ℕ} (read : SlotRead d plan got level i byte charge) where
  its_byte : byte ≡ byte_of plan i
  its_byte = read.byte_is ∙ byte_stands plan i 0 read.in_plan

  its_charge : charge ≡ level_at d plan i + harvest_at d.harvest i
  its_charge = read.charge_is ∙ ap (λ (n : ℕ). n + harvest_at d.harvest i) read.kept.level_is

  pub kept_idle : (level' : ℕ) → byte ≡ idle_byte → level' ≡ min d.table.capacity charge → Kept d plan got level' (i + 1)
  kept_idle level' idle e =
      let named = sym its_byte ∙ idle in
      record {
        level_is = e ∙ ap (min d.table.capacity) its_charge ∙ sym (idle_level d plan i read.few_jobs named);
        got_long = read.kept.got_long;
        got_is = λ k h. read.kept.got_is k h ∙ sym (idle_got d plan i read.few_jobs named k h);
        clear = in_order_clear (slot_says d plan) i read.kept.clear (idle_says d plan i read.few_jobs named);
      }

  pub refused_stranger : (byte ≡ idle_byte → ⊥) → d.table.count ≤ byte → fault_says (NoJob i) ≡ slots_say d plan
  refused_stranger busy h =
      let named = its_byte in
      sym (first_refused d plan i (fault_says (NoJob i)) read.in_day read.kept.clear (stranger_says d plan i (λ q. busy (named ∙ q)) (omega arith)) tt)

  -- ---- a slot that names a job

  module _ (h : byte < d.table.count) where
    slot_says_lem : job_says (job_of d.table byte) i (get_or got byte 0) charge ≡ slot_says d plan i
    slot_says_lem = ap₂ (job_says (job_of d.table byte) i) (read.kept.got_is byte h) its_charge ∙ sym (busy_says d plan i byte h (sym its_byte))

    pub refused_job : (f : PlanFault) → fault_says f ≡ job_says (job_of d.table byte) i (get_or got byte 0) charge → fault_says f ≡ slots_say d plan
    refused_job f said = sym (first_refused d plan i (fault_says f) read.in_day read.kept.clear (sym (said ∙ slot_says_lem)) (fault_refuses f))

    got_stored : (m : ℕ) → m < d.table.count → get_or (set got byte (get_or got byte 0 + 1)) m 0 ≡ slots_got plan m (i + 1)
    got_stored m l =
        let long = read.kept.got_long in
        let before = read.kept.got_is m l in
        let here = got_here plan m i in
        let other = got_not_here plan m i in
        let named = its_byte in
        grind (arith, get_or-set_same {A = ℕ}, get_or-set_other {A = ℕ})

    pub kept_busy : (after level' : ℕ) → JobLeaves (job_of d.table byte) i d.table.capacity charge (get_or got byte 0) after (Ok level')
        → Kept d plan (set got byte after) level' (i + 1)
    kept_busy after level' (nothing, more, e) =
        rw more
        (record {
          level_is = e ∙ ap (λ (n : ℕ). min d.table.capacity (n - (job_of d.table byte).energy)) its_charge ∙ sym (busy_level d plan i byte h (sym its_byte));
          got_long = length-set got byte _ ∙ read.kept.got_long;
          got_is = got_stored;
          clear = in_order_clear (slot_says d plan) i read.kept.clear (sym slot_says_lem ∙ nothing);
        })

-- after the last slot
pub kept_decides : {d : Day} {plan got : List ℕ} {level i : ℕ} → Kept d plan got level i → i ≡ d.table.slots → ends_by d.table got ≡ slots_say d plan
kept_decides {d} {plan} {got} kept at_end =
    ends_decide d plan got (subst (λ (n : ℕ). in_order (slot_says d plan) n ≡ gives tt) at_end kept.clear)
    (λ k h. kept.got_is k h ∙ ap (slots_got plan k) at_end)
