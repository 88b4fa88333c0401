-- Laws of a plan slot by slot: what each job got, the level, and what is said of a slot that is idle, that names no job, and that names one.
use Prim.Native.Nat.{ℕ, zero, suc, min, ◌+◌, ◌-◌, ◌≤◌, ◌<◌}
use mathlib.Core.Path.{◌≡◌, refl, sym, ap, ◌∙◌, subst}
use mathlib.Core.Bool.{Bool, true, false, cond}
use mathlib.Core.List.{List}
use native.Mathlib.Numerals.{add-one}
use native.Mathlib.Omega.{arith}
use lib.Dec.{ltb, eqb}
use lib.ListN.{length, get_or}
use borrow.Author.Tests.{lt-ltb, le-ltb, eq-eqb, ne_eqb}
use Rattle.std.proofs.lemmas.Bool.Decides.{nat_tests}
use Rattle.std.proofs.lemmas.List.{get_or_default}
use Rattle.sheet.specs.Paper.{Check, gives, ◌when◌, ◌else◌, in_order}
use Rattle.sheet.specs.Sums.{harvest_at}
use Rattle.sheet.specs.Table.{most_jobs, idle_byte, start_level, job_of, Day}
use Rattle.sheet.proofs.Sums.{total_none, total_more}
use Rattle.sheet.proofs.Order.{Refuses, else_stays, else_goes_on, in_order_first, in_order_same}
use Rattle.plan_slots.specs.Plan.{byte_of, names_job, slots_got, spent_in, level_at}
use Rattle.plan_slots.specs.Slots.{names_nothing, job_says, slot_says, end_says, slots_say}
use Rattle.plan_slots.specs.Numbers.{fault_says}
use Rattle.plan_slots.specs.Steps.{ends_by}
use Rattle.plan_slots.specs.declared.PlanFault.TheVariants.{NoJob, LacksSlots}

-- ---- the slots that a job got

pub got_none : (plan : List ℕ) (k : ℕ) → slots_got plan k 0 ≡ 0
unfolding slots_got
got_none plan k = total_none _

pub got_more : (plan : List ℕ) (k i : ℕ) → slots_got plan k (i + 1) ≡ slots_got plan k i + cond (eqb (byte_of plan i) k) 1 0
unfolding slots_got
got_more plan k i = total_more (λ n. cond (eqb (byte_of plan n) k) 1 0) i

pub got_here : (plan : List ℕ) (k i : ℕ) → byte_of plan i ≡ k → slots_got plan k (i + 1) ≡ slots_got plan k i + 1
got_here plan k i e = got_more plan k i ∙ ap (λ (b : Bool). slots_got plan k i + cond b 1 0) (eq-eqb (byte_of plan i) k e)

pub got_not_here : (plan : List ℕ) (k i : ℕ) → (byte_of plan i ≡ k → ⊥) → slots_got plan k (i + 1) ≡ slots_got plan k i
got_not_here plan k i e =
    let more = got_more plan k i ∙ ap (λ (b : Bool). slots_got plan k i + cond b 1 0) (ne_eqb (byte_of plan i) k e) in
    omega arith

pub got_grows : (plan : List ℕ) (k i n : ℕ) → slots_got plan k i ≤ slots_got plan k (i + n)
got_grows plan k i zero = let here : i + 0 ≡ i = omega arith in rw here (omega arith)
got_grows plan k i (suc n) =
    let here : i + suc n ≡ i + n + 1 = omega arith in
    let more = got_more plan k (i + n) in
    let before = got_grows plan k i n in
    rw here (omega arith)

-- ---- the level

module _ (d : Day) (plan : List ℕ) where
  pub level_first : level_at d plan 0 ≡ start_level d.table
  unfolding level_at
  level_first = refl

  pub level_next : (i : ℕ) → level_at d plan (i + 1) ≡ min d.table.capacity (level_at d plan i + harvest_at d.harvest i - spent_in d plan i)
  unfolding level_at
  level_next i = ap (level_at d plan) (add-one i)

  -- ---- what a slot spends, and what is said of it

  abbrev charge_at : ℕ → ℕ
  charge_at i = level_at d plan i + harvest_at d.harvest i

  module _ (i : ℕ) (few : d.table.count ≤ most_jobs) (idle : byte_of plan i ≡ idle_byte) where
    names_none : names_job d plan i ≡ false
    names_none = let h : d.table.count ≤ byte_of plan i = omega arith in le-ltb _ _ h

    pub idle_says : slot_says d plan i ≡ gives tt
    unfolding slot_says names_nothing
    idle_says = rw (names_none, eq-eqb _ _ idle)

    pub idle_level : level_at d plan (i + 1) ≡ min d.table.capacity (charge_at i)
    unfolding spent_in
    idle_level = let whole : charge_at i - 0 ≡ charge_at i = omega arith in level_next i ∙ rw (names_none, whole)

    pub idle_got : (k : ℕ) → k < d.table.count → slots_got plan k (i + 1) ≡ slots_got plan k i
    idle_got k h = got_not_here plan k i (λ e. omega arith)

  pub stranger_says : (i : ℕ) → (byte_of plan i ≡ idle_byte → ⊥) → d.table.count ≤ byte_of plan i → slot_says d plan i ≡ fault_says (NoJob i)
  unfolding slot_says names_nothing
  stranger_says i busy h = rw (ne_eqb _ _ busy, le-ltb _ _ h)

  module _ (i k : ℕ) (h : k < d.table.count) (named : byte_of plan i ≡ k) where
    names_it : names_job d plan i ≡ true
    names_it = let l : byte_of plan i < d.table.count = omega arith in lt-ltb _ _ l

    is_job : names_nothing d plan i ≡ false
    unfolding names_nothing
    is_job = let e = names_it in grind (arith, nat_tests)

    pub busy_says : slot_says d plan i ≡ job_says (job_of d.table k) i (slots_got plan k i) (charge_at i)
    unfolding slot_says
    busy_says = rw (is_job, names_it) (ap (λ (n : ℕ). job_says (job_of d.table n) i (slots_got plan n i) (charge_at i)) named)

    pub busy_spends : spent_in d plan i ≡ (job_of d.table k).energy
    unfolding spent_in
    busy_spends = rw names_it (ap (λ (n : ℕ). (job_of d.table n).energy) named)

    pub busy_level : level_at d plan (i + 1) ≡ min d.table.capacity (charge_at i - (job_of d.table k).energy)
    busy_level = level_next i ∙ ap (λ (n : ℕ). min d.table.capacity (charge_at i - n)) busy_spends

-- ---- what is said of a plan of which no slot before i is refused

-- a slot that refuses is the answer
pub first_refused : (d : Day) (plan : List ℕ) (i : ℕ) (r : Check) → i < d.table.slots → in_order (slot_says d plan) i ≡ gives tt
    → slot_says d plan i ≡ r → Refuses r → slots_say d plan ≡ r
unfolding slots_say
first_refused d plan i r h before here is_refusal =
    let says : in_order (slot_says d plan) d.table.slots ≡ r =
    in_order_first (slot_says d plan) i d.table.slots h before (subst Refuses (sym here) is_refusal) ∙ here in
    let ends : Check = in_order (end_says d plan) d.table.count in
    ap (λ (x : Check). x else ends) says ∙ else_stays r ends is_refusal

-- where no slot refuses, 16 decides
pub ends_decide : (d : Day) (plan got : List ℕ) → in_order (slot_says d plan) d.table.slots ≡ gives tt
    → ((k : ℕ) → k < d.table.count → get_or got k 0 ≡ slots_got plan k d.table.slots) → ends_by d.table got ≡ slots_say d plan
unfolding slots_say ends_by
ends_decide d plan got clear kept =
    in_order_same _ (end_says d plan) d.table.count
    (λ k h. ap (λ (n : ℕ). fault_says (LacksSlots k) when ltb n (job_of d.table k).wanted) (kept k h))
    ∙ sym (else_goes_on (in_order (slot_says d plan) d.table.slots) _ clear)

-- ---- a byte that stands in the plan

pub byte_stands : (plan : List ℕ) (i z : ℕ) → i < length plan → get_or plan i z ≡ byte_of plan i
byte_stands plan i z h = get_or_default plan i z idle_byte h
