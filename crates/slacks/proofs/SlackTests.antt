-- What rules 4 and 5 ask, as the code asks it: without signs, of some job.
use Prim.Native.Nat.{ℕ, ◌+◌}
use mathlib.Core.Path.{◌≡◌, sym, ap, ◌∙◌}
use mathlib.Core.Bool.{Bool, cond, ◌&&◌}
use native.Mathlib.Numerals.{add-one}
use lib.Dec.{ltb, leb, leb-suc-suc}
use Rattle.sheet.specs.Sums.{some, harvest_of}
use Rattle.sheet.specs.Table.{Day}
use Rattle.sheet.proofs.Sums.{some_same}
use Rattle.choice.specs.declared.State.{State}
use Rattle.choice.specs.Choosing.{deadline_of, left_of}
use Rattle.slacks.specs.Slack.{exactly, least, zero_or_less, is_below, wants, is_pending, pending, slack_time_at, slack_time, comes_before, coming, slack_energy_at, slack_energy}
use Rattle.slacks.proofs.Least.{least_below, zero_or_less_lem, below_one, below_two}

below_suc : (a b : ℕ) → ltb a (b + 1) ≡ leb a b
below_suc a b = ap (ltb a) (add-one b) ∙ leb-suc-suc a b

-- ---- slack time

-- what job i counts for in the work pending up to `end`
abbrev pub pending_part : Day → State → ℕ → ℕ → ℕ
pending_part d s end i = cond (is_pending d s end i) (left_of s i) 0

-- the same, with the job's deadline as the code reads it
pub pending_read : (d : Day) (s : State) (end i deadline part : ℕ) → deadline ≡ deadline_of d i
    → part ≡ cond (ltb s.slot deadline && leb deadline end) (left_of s i) 0 → part ≡ pending_part d s end i
pending_read d s end i deadline part p e = e ∙ ap (λ (a : ℕ). cond (ltb s.slot a && leb a end) (left_of s i) 0) p

-- job k still wants slots, and the work pending up to its deadline fills the time to it
abbrev pub lacks_slack : Day → State → ℕ → Bool
lacks_slack d s k = wants d s k && leb (deadline_of d k) (s.slot + pending d s (deadline_of d k))

-- job k by itself leaves no slack time
abbrev pub no_slack_by : Day → State → ℕ → Bool
no_slack_by d s k = wants d s k && zero_or_less (exactly (slack_time_at d s k))

pub lacks_slack_lem : (d : Day) (s : State) (k : ℕ) → no_slack_by d s k ≡ lacks_slack d s k
lacks_slack_lem d s k =
    ap (λ (b : Bool). wants d s k && b)
    (zero_or_less_lem (exactly (slack_time_at d s k))
    ∙ below_two (deadline_of d k) s.slot (pending d s (deadline_of d k)) 1
    ∙ below_suc (deadline_of d k) (s.slot + pending d s (deadline_of d k)))

pub no_slack_by_lem : (d : Day) (s : State) → some (no_slack_by d s) d.table.count ≡ zero_or_less (slack_time d s)
unfolding slack_time
no_slack_by_lem d s =
    some_same (no_slack_by d s) _ d.table.count (λ k h. ap (λ (b : Bool). wants d s k && b) (zero_or_less_lem (exactly (slack_time_at d s k))))
    ∙ sym (zero_or_less_lem (least (wants d s) (slack_time_at d s) d.table.count) ∙ least_below 1 (wants d s) (slack_time_at d s) d.table.count)

pub no_slack_is : (d : Day) (s : State) → some (lacks_slack d s) d.table.count ≡ zero_or_less (slack_time d s)
no_slack_is d s = sym (some_same (no_slack_by d s) (lacks_slack d s) d.table.count (λ k h. lacks_slack_lem d s k)) ∙ no_slack_by_lem d s

-- ---- slack energy

-- job k comes with a deadline below the chosen job's, and what is at hand up to there does not cover the coming work and the chosen job's energy
abbrev pub needs_charge : Day → State → ℕ → ℕ → ℕ → Bool
needs_charge d s own energy k =
    comes_before d s own k && ltb (s.level + harvest_of d.harvest s.slot (deadline_of d k)) (coming d s (deadline_of d k) + energy)

-- job k by itself leaves a slack energy below this
abbrev pub saves_by : Day → State → ℕ → ℕ → ℕ → Bool
saves_by d s own energy k = comes_before d s own k && is_below (exactly (slack_energy_at d s k)) energy

pub needs_charge_lem : (d : Day) (s : State) (own energy k : ℕ) → saves_by d s own energy k ≡ needs_charge d s own energy k
needs_charge_lem d s own energy k =
    ap (λ (b : Bool). comes_before d s own k && b)
    (below_one (s.level + harvest_of d.harvest s.slot (deadline_of d k)) (coming d s (deadline_of d k)) energy)

pub saving_by : (d : Day) (s : State) (own energy : ℕ) → some (saves_by d s own energy) d.table.count ≡ is_below (slack_energy d s own) energy
unfolding slack_energy
saving_by d s own energy = sym (least_below energy (comes_before d s own) (slack_energy_at d s) d.table.count)

pub saving_is : (d : Day) (s : State) (own energy : ℕ) → some (needs_charge d s own energy) d.table.count ≡ is_below (slack_energy d s own) energy
saving_is d s own energy =
    sym (some_same (saves_by d s own energy) (needs_charge d s own energy) d.table.count (λ k h. needs_charge_lem d s own energy k))
    ∙ saving_by d s own energy
