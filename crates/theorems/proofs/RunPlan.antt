-- The plan of a run that leaves nothing unfinished is acceptable: slot by slot the plan's byte is what the run decides there, so the judge's level is the
-- run's, and what a job got and what it is left wanting add up to what it wants.
use Prim.Native.Nat.{ℕ, zero, suc, ◌+◌, ◌-◌, ◌<◌, ◌≤◌}
use mathlib.Core.Path.{◌≡◌, refl, sym, ap, ◌∙◌}
use mathlib.Core.Bool.{cond}
use mathlib.Core.List.{List}
use mathlib.Core.Logic.{◌⊎◌, inl, inr}
use native.Mathlib.Decide.{dec_lt, ℕ_discrete}
use native.Mathlib.Omega.{arith}
use lib.Dec.{ltb, leb, eqb}
use lib.ListN.{length, get_or, get_or-eq_default}
use lib.Seq.{get_or-set_same, get_or-set_other}
use borrow.Author.Tests.{ltb-true, leb-true, lt-ltb, le-ltb, eq-eqb, ne_eqb}
use Rattle.std.proofs.lemmas.Bool.{and_parts}
use Rattle.sheet.specs.Sums.{total, harvest_at}
use Rattle.sheet.specs.Table.{most_jobs, idle_byte, job_of, Day}
use Rattle.sheet.specs.WellFormed.{GoodDay}
use Rattle.sheet.proofs.Lists.{listed_length, listed_get, filled_get}
use Rattle.choice.specs.Choosing.{left_of, deadline_of, ready}
use Rattle.rules.specs.Rules.{Ruled, idle, busy, decided, spent, state_by, next_state}
use Rattle.slot_run.specs.Run.{first_state, state_at, plan_byte, plan_of}
use Rattle.choice.specs.declared.State.{State}
use Rattle.choice.proofs.Choosing.{chosen_is}
use Rattle.rules.proofs.RuleLaws.{busy_is_chosen, busy_facts}
use Rattle.slot_run.proofs.Running.{state_slot, byte_at}
use Rattle.plan_slots.specs.Plan.{byte_of, slots_got, spent_in, level_at}
use Rattle.judge.specs.Evidence.{AcceptablePlan}

-- ---- one slot, from any state

-- a place that holds anything is a place of the list
pub holds_a_place : (l : List ℕ) (k : ℕ) → 1 ≤ get_or l k 0 → k < length l
holds_a_place l k h =
    elim (dec_lt k (length l)) [
      | yes p ↦ p
      | no p ↦ let beyond = get_or-eq_default l 0 {n = k} (omega arith) in absurd (omega arith)
    ]

module _ (d : Day) (few : d.table.count ≤ most_jobs) (s : State) where
  -- what holds of an idle slot, and of one that is busy with a job that wants it, holds of what is decided
  idle_or_busy : (P : Ruled → Type 0) → ((rule : ℕ) → P (idle rule)) → ((rule k : ℕ) → k < d.table.count → 1 ≤ left_of s k → P (busy rule k)) → P (decided d s)
  idle_or_busy P when_idle when_busy = go (decided d s) refl
    where
      go : (x : Ruled) → decided d s ≡ x → P (decided d s)
      go (idle rule) e = rw e (when_idle rule)
      go (busy rule k) e = let facts = busy_facts d s rule k e in rw e (when_busy rule k facts.0 facts.1)

  -- the slot's byte is that of an idle slot, or names a job
  byte_is : (plan_byte (decided d s) ≡ idle_byte) ⊎ (plan_byte (decided d s) < d.table.count)
  byte_is = idle_or_busy (λ x. (plan_byte x ≡ idle_byte) ⊎ (plan_byte x < d.table.count)) (λ rule. inl refl) (λ rule k h wants. inr h)

  -- where it names a job, the slot is busy with it
  named_is_busy : (k : ℕ) → k < d.table.count → plan_byte (decided d s) ≡ k → (rule : ℕ) × (decided d s ≡ busy rule k)
  named_is_busy k h =
      idle_or_busy (λ x. plan_byte x ≡ k → (rule : ℕ) × (x ≡ busy rule k))
      (λ rule named. absurd (omega arith))
      (λ rule m l wants named. (rule, ap (busy rule) named))

  -- the energy of the job that it names is spent
  spends_named : cond (ltb (plan_byte (decided d s)) d.table.count) (job_of d.table (plan_byte (decided d s))).energy 0 ≡ spent d (decided d s)
  spends_named =
      idle_or_busy (λ x. cond (ltb (plan_byte x) d.table.count) (job_of d.table (plan_byte x)).energy 0 ≡ spent d x)
      (λ rule. rw (le-ltb idle_byte d.table.count (omega arith)))
      (λ rule k h wants. rw (lt-ltb k d.table.count h))

  -- one slot less is left of the job that it names, and as many of the others
  leaves_named : (k : ℕ) → k < d.table.count → left_of (next_state d s) k + cond (eqb (plan_byte (decided d s)) k) 1 0 ≡ left_of s k
  unfolding next_state
  leaves_named k h =
      idle_or_busy (λ x. left_of (state_by d s x) k + cond (eqb (plan_byte x) k) 1 0 ≡ left_of s k)
      (λ rule. rw (ne_eqb idle_byte k (λ e. omega arith)) (omega arith))
      (λ rule m l wants.
      elim (ℕ_discrete k m) [
        | yes same ↦
            let less = get_or-set_same s.left m (left_of s m - 1) 0 (holds_a_place s.left m wants) in
            rw (same, eq-eqb m m refl) (omega arith)
        | no other ↦
            let stays = get_or-set_other s.left m k (left_of s m - 1) 0 other in
            rw (ne_eqb m k (λ same. other (sym same))) (omega arith)
      ])

-- ---- the day

module _ (d : Day) (good : GoodDay d) where
  -- the plan's byte is what the run decides
  byte_of_run : (n : ℕ) → n < d.table.slots → byte_of (plan_of d) n ≡ byte_at d n
  unfolding plan_of
  byte_of_run n h = listed_get (byte_at d) idle_byte d.table.slots n h

  plan_length : length (plan_of d) ≡ d.table.slots
  unfolding plan_of
  plan_length = listed_length (byte_at d) d.table.slots

  -- so every slot is idle or names a job, and is busy with the job that it names
  idle_or_job_of_run : (n : ℕ) → n < d.table.slots → (byte_of (plan_of d) n ≡ idle_byte) ⊎ (byte_of (plan_of d) n < d.table.count)
  idle_or_job_of_run n h = rw (byte_of_run n h) (byte_is d good.few_jobs (state_at d n))

  busy_slot : (n k : ℕ) → n < d.table.slots → k < d.table.count → byte_of (plan_of d) n ≡ k → (rule : ℕ) × (decided d (state_at d n) ≡ busy rule k)
  busy_slot n k h l named = named_is_busy d good.few_jobs (state_at d n) k l (sym (byte_of_run n h) ∙ named)

  -- the judge's level is the run's
  level_of_run : (n : ℕ) → n ≤ d.table.slots → level_at d (plan_of d) n ≡ (state_at d n).level
  unfolding level_at state_at first_state next_state spent_in
  level_of_run zero h = refl
  level_of_run (suc n) h =
      let level = level_of_run n (omega arith) in
      let harvested = ap (harvest_at d.harvest) (state_slot d n) in
      let spends : spent_in d (plan_of d) n ≡ spent d (decided d (state_at d n)) =
      rw (byte_of_run n h) (spends_named d good.few_jobs (state_at d n)) in
      cc

  -- what a job got, and what is left of it, is what it wants
  got_and_left : (k : ℕ) → k < d.table.count → (n : ℕ) → n ≤ d.table.slots → left_of (state_at d n) k + slots_got (plan_of d) k n ≡ (job_of d.table k).wanted
  unfolding slots_got total state_at first_state
  got_and_left k l zero h = let all = filled_get (λ i. (job_of d.table i).wanted) 0 most_jobs d.table.count k l in omega arith
  got_and_left k l (suc n) h =
      let before = got_and_left k l n (omega arith) in
      let slot = leaves_named d good.few_jobs (state_at d n) k l in
      rw (byte_of_run n h) (omega arith)

  -- a job is run inside its window
  window_of_run : (n k : ℕ) → n < d.table.slots → k < d.table.count → byte_of (plan_of d) n ≡ k → ((job_of d.table k).release ≤ n) × (n < (job_of d.table k).deadline)
  unfolding ready
  window_of_run n k h l named =
      let s = state_at d n in
      let is_busy = busy_slot n k h l named in
      let is_ready = (chosen_is d s k (busy_is_chosen d s is_busy.0 k is_busy.1).0).passes in
      let window = (and_parts _ (ltb 0 (left_of s k)) is_ready).0 in
      let starts = leb-true (job_of d.table k).release s.slot (and_parts _ (ltb s.slot (deadline_of d k)) window).0 in
      let ends = ltb-true s.slot (deadline_of d k) (and_parts (leb (job_of d.table k).release s.slot) _ window).1 in
      let slot = state_slot d n in
      omega arith

  -- and paid
  charge_of_run : (n k : ℕ) → n < d.table.slots → k < d.table.count → byte_of (plan_of d) n ≡ k
      → (job_of d.table k).energy ≤ level_at d (plan_of d) n + harvest_at d.harvest n
  charge_of_run n k h l named =
      let is_busy = busy_slot n k h l named in
      let paid = (busy_facts d (state_at d n) is_busy.0 k is_busy.1).2 in
      rw (level_of_run n (omega arith)) (rw (state_slot d n) at paid)

-- The plan of a run after which no job wants a slot is acceptable.
pub met_run_is_acceptable : (d : Day) → GoodDay d
    → ((k : ℕ) → k < d.table.count → left_of (state_at d d.table.slots) k ≡ 0)
    → AcceptablePlan d (plan_of d)
met_run_is_acceptable d good met =
    record {
      byte_a_slot = plan_length d good;
      idle_or_job = idle_or_job_of_run d good;
      inside_window = window_of_run d good;
      gets_its_slots = λ k l. let both = got_and_left d good k l d.table.slots (omega arith) in let none = met k l in omega arith;
      has_charge = charge_of_run d good;
    }
