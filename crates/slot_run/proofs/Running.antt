-- Laws of the whole run: its states slot by slot, and its plan byte by byte.
use Prim.Native.Nat.{ℕ, zero, suc, ◌+◌, ◌<◌, ◌≤◌}
use mathlib.Core.Path.{◌≡◌, refl, sym, ap, ◌∙◌}
use mathlib.Core.List.{List}
use native.Mathlib.Numerals.{add-one}
use native.Mathlib.Omega.{arith}
use lib.ListN.{length, set}
use Rattle.sheet.specs.Table.{most_jobs, idle_byte, Day}
use Rattle.sheet.proofs.Lists.{over, over_none, over_more, over_all}
use Rattle.choice.specs.declared.State.{State}
use Rattle.rules.specs.Rules.{Ruled, idle, busy, decided, next_state}
use Rattle.rules.proofs.RuleLaws.{busy_facts}
use Rattle.slot_run.specs.Run.{first_state, state_at, plan_byte, plan_of}

pub state_first : (d : Day) → state_at d 0 ≡ first_state d
unfolding state_at
state_first d = refl

pub state_next : (d : Day) (n : ℕ) → state_at d (n + 1) ≡ next_state d (state_at d n)
unfolding state_at
state_next d n = ap (state_at d) (add-one n)

-- as slot n begins, the state's slot is n
pub state_slot : (d : Day) (n : ℕ) → (state_at d n).slot ≡ n
unfolding state_at next_state first_state
state_slot d zero = refl
state_slot d (suc n) = ap (λ (k : ℕ). k + 1) (state_slot d n) ∙ add-one n

-- every byte of a plan fits
pub small_byte : (d : Day) (s : State) → d.table.count ≤ most_jobs → plan_byte (decided d s) ≤ idle_byte
small_byte d s few = go (decided d s) refl
  where
    go : (what : Ruled) → decided d s ≡ what → plan_byte (decided d s) ≤ idle_byte
    go (idle rule) e = rw e (omega arith)
    go (busy rule k) e = let b = busy_facts d s rule k e in rw e (omega arith)

-- the plan's byte for slot n
abbrev pub byte_at : Day → ℕ → ℕ
byte_at d n = plan_byte (decided d (state_at d n))

-- ---- while a run goes on

-- as slot n begins: the state is that slot's, and the plan holds the bytes of the slots before it, over what was in the buffer
pub record RunTo (d : Day) (buffer : List ℕ) (n : ℕ) (s : State) (plan : List ℕ) : Type 0 where
  pub state : s ≡ state_at d n
  pub bytes : plan ≡ over (byte_at d) buffer n

pub run_none : (d : Day) (buffer : List ℕ) (s : State) → s ≡ first_state d → RunTo d buffer 0 s buffer
run_none d buffer s e = record { state = e ∙ sym (state_first d); bytes = over_none (byte_at d) buffer }

pub run_more : (d : Day) (buffer : List ℕ) (n : ℕ) (s : State) (plan : List ℕ) → RunTo d buffer n s plan → n < length buffer
    → (next : State) (byte : ℕ) → next ≡ next_state d s → byte ≡ plan_byte (decided d s) → RunTo d buffer (n + 1) next (set plan n byte)
run_more d buffer n s plan run h next byte e f =
    record {
      state = e ∙ ap (next_state d) run.state ∙ sym (state_next d n);
      bytes = rw (f ∙ ap (λ (x : State). plan_byte (decided d x)) run.state, run.bytes) (over_more (byte_at d) buffer n h);
    }

pub run_all : (d : Day) (buffer : List ℕ) (n : ℕ) (s : State) (plan : List ℕ) → RunTo d buffer n s plan → length buffer ≡ d.table.slots → n ≡ d.table.slots
    → (s ≡ state_at d d.table.slots) × (plan ≡ plan_of d)
unfolding plan_of
run_all d buffer n s plan run long e =
    (run.state ∙ ap (state_at d) e, run.bytes ∙ ap (over (byte_at d) buffer) e ∙ over_all (byte_at d) buffer d.table.slots long)
