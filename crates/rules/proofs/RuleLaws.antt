-- Each rule, from what its tests showed; and what holds of any slot of a checked day.
use Prim.Native.Nat.{ℕ, min, ◌+◌, ◌-◌, ◌<◌, ◌≤◌}
use mathlib.Core.Path.{◌≡◌, refl, sym, ap, ◌∙◌, subst}
use mathlib.Core.Bool.{Bool, true, false, cond, ◌&&◌, ◌||◌}
use mathlib.Core.Logic.{⊎_elim}
use mathlib.Core.List.{List}
use native.Mathlib.Omega.{arith}
use lib.Dec.{ltb, leb}
use lib.ListN.{get_or, set}
use borrow.Author.Tests.{lt-ltb, le-ltb, ltb-true, ltb-false}
use Rattle.std.proofs.lemmas.Bool.{and_parts}
use Rattle.std.specs.Prelude.{Option, Some, None}
use Rattle.sheet.specs.Table.{job_of, Day}
use Rattle.choice.specs.declared.State.{State}
use Rattle.choice.specs.Choosing.{ready, chosen, deadline_of, left_of}
use Rattle.slacks.specs.Slack.{slack_time, slack_energy, zero_or_less, is_below}
use Rattle.rules.specs.Rules.{Ruled, idle, busy, decision_says, at_hand, first_rule, rule_for, rule_on, decided, next_state}
use Rattle.rules.specs.declared.BusyWhy.{BusyWhy}
use Rattle.rules.specs.declared.BusyWhy.TheVariants.{Full, NoSlack, Free}
use Rattle.rules.specs.declared.IdleWhy.{IdleWhy}
use Rattle.rules.specs.declared.IdleWhy.TheVariants.{Empty, Saving}
use Rattle.rules.specs.declared.Decision.TheVariants.{Busy, Idle}
use Rattle.sheet.proofs.Exactly.{either}
use Rattle.choice.proofs.Choosing.{chosen_is}

-- a test that holds gives the first, and one that does not the second
first_of : (test : Bool) (x y : Ruled) → test ≡ true → cond test x y ≡ x
first_of test x y e = ap (λ (b : Bool). cond b x y) e

second_of : (test : Bool) (x y : Ruled) → test ≡ false → cond test x y ≡ y
second_of test x y e = ap (λ (b : Bool). cond b x y) e

module _ (d : Day) (s : State) (k : ℕ) where
  pub rule_2 : at_hand d s < (job_of d.table k).energy → rule_for d s k ≡ idle 2
  unfolding rule_for
  rule_2 a = first_of _ _ _ (lt-ltb _ _ a)

  module _ (a : (job_of d.table k).energy ≤ at_hand d s) where
    pub rule_3 : d.table.capacity < at_hand d s → rule_for d s k ≡ busy 3 k
    unfolding rule_for
    rule_3 b = second_of _ _ _ (le-ltb _ _ a) ∙ first_of _ _ _ (lt-ltb _ _ b)

    module _ (b : at_hand d s ≤ d.table.capacity) where
      pub rule_4 : zero_or_less (slack_time d s) ≡ true → rule_for d s k ≡ busy 4 k
      unfolding rule_for
      rule_4 l = second_of _ _ _ (le-ltb _ _ a) ∙ second_of _ _ _ (le-ltb _ _ b) ∙ first_of _ _ _ l

      module _ (l : zero_or_less (slack_time d s) ≡ false) where
        pub rule_5 : is_below (slack_energy d s (deadline_of d k)) (job_of d.table k).energy ≡ true → rule_for d s k ≡ idle 5
        unfolding rule_for
        rule_5 e = second_of _ _ _ (le-ltb _ _ a) ∙ second_of _ _ _ (le-ltb _ _ b) ∙ second_of _ _ _ l ∙ first_of _ _ _ e

        pub rule_6 : is_below (slack_energy d s (deadline_of d k)) (job_of d.table k).energy ≡ false → rule_for d s k ≡ busy 6 k
        unfolding rule_for
        rule_6 e = second_of _ _ _ (le-ltb _ _ a) ∙ second_of _ _ _ (le-ltb _ _ b) ∙ second_of _ _ _ l ∙ second_of _ _ _ e

-- where rule 2 or rule 3 applies, nothing hangs on the slacks
pub slacks_not_asked : (charge energy capacity k : ℕ) → (ltb charge energy || ltb capacity charge) ≡ true → (a b x y : Bool)
    → first_rule charge energy capacity a b k ≡ first_rule charge energy capacity x y k
slacks_not_asked charge energy capacity k e a b x y =
    ⊎_elim
    (λ l. rw l)
    (λ l. let above : ltb capacity charge ≡ true = sym (ap (λ (t : Bool). t || ltb capacity charge) l) ∙ e in rw (l, above))
    (either (ltb charge energy))

-- ---- a busy slot

never_busy : (rule r k : ℕ) → idle rule ≡ busy r k → ⊥
never_busy rule r k e = let z : ◌≡◌ {A = ℕ} 0 1 = cc in omega arith

same_job : (r q m k : ℕ) → busy r m ≡ busy q k → m ≡ k
same_job r q m k e = cc

-- rules 2 to 6 keep the chosen job busy only, and only where it can be paid
for_busy : (d : Day) (s : State) (m r k : ℕ) → rule_for d s m ≡ busy r k → (m ≡ k) × ((job_of d.table m).energy ≤ at_hand d s)
for_busy d s m r k e =
    ⊎_elim
    (λ a. absurd (never_busy 2 r k (sym (rule_2 d s m (ltb-true _ _ a)) ∙ e)))
    (λ a.
    let paid : (job_of d.table m).energy ≤ at_hand d s = ltb-false _ _ a in
    ⊎_elim
    (λ b. (same_job 3 r m k (sym (rule_3 d s m paid (ltb-true _ _ b)) ∙ e), paid))
    (λ b.
    let fits : at_hand d s ≤ d.table.capacity = ltb-false _ _ b in
    ⊎_elim
    (λ l. (same_job 4 r m k (sym (rule_4 d s m paid fits l) ∙ e), paid))
    (λ l.
    ⊎_elim
    (λ f. absurd (never_busy 5 r k (sym (rule_5 d s m paid fits l f) ∙ e)))
    (λ f. (same_job 6 r m k (sym (rule_6 d s m paid fits l f) ∙ e), paid))
    (either (is_below (slack_energy d s (deadline_of d m)) (job_of d.table m).energy)))
    (either (zero_or_less (slack_time d s))))
    (either (ltb d.table.capacity (at_hand d s))))
    (either (ltb (at_hand d s) (job_of d.table m).energy))

-- a slot is busy only with the chosen job, and only where it can be paid
pub busy_is_chosen : (d : Day) (s : State) (r k : ℕ) → decided d s ≡ busy r k
    → (chosen d s ≡ Some k) × ((job_of d.table k).energy ≤ at_hand d s)
unfolding decided
busy_is_chosen d s r k e = go (chosen d s) refl
  where
    go : (c : Option ℕ) → chosen d s ≡ c → (chosen d s ≡ Some k) × ((job_of d.table k).energy ≤ at_hand d s)
    go None w = absurd (never_busy 1 r k (sym (ap (rule_on d s) w) ∙ e))
    go (Some m) w =
        let b = for_busy d s m r k (sym (ap (rule_on d s) w) ∙ e) in
        (w ∙ ap Some b.0, subst (λ (i : ℕ). (job_of d.table i).energy ≤ at_hand d s) b.0 b.1)

-- so it is below the count, wants the slot and can be paid
pub busy_facts : (d : Day) (s : State) (r k : ℕ) → decided d s ≡ busy r k
    → (k < d.table.count) × (1 ≤ left_of s k) × ((job_of d.table k).energy ≤ at_hand d s)
unfolding ready
busy_facts d s r k e =
    let b = busy_is_chosen d s r k e in
    let c = chosen_is d s k b.0 in
    (c.below, ltb-true 0 (left_of s k) (and_parts (leb (job_of d.table k).release s.slot && ltb s.slot (deadline_of d k)) (ltb 0 (left_of s k)) c.passes).1, b.1)

-- ---- decisions

abbrev pub busy_rule : BusyWhy → ℕ
busy_rule Full = 3
busy_rule NoSlack = 4
busy_rule Free = 6

abbrev pub idle_rule : IdleWhy → ℕ
idle_rule IdleWhy.None = 1
idle_rule Empty = 2
idle_rule Saving = 5

pub busy_says : (k : ℕ) (why : BusyWhy) → decision_says (Busy k why) ≡ busy (busy_rule why) k
busy_says k Full = refl
busy_says k NoSlack = refl
busy_says k Free = refl

pub idle_says : (why : IdleWhy) → decision_says (Idle why) ≡ idle (idle_rule why)
idle_says IdleWhy.None = refl
idle_says Empty = refl
idle_says Saving = refl

-- ---- what a slot leaves, with the charge at hand and the jobs' slots left as the code reads them

module _ (d : Day) (s : State) (charge level : ℕ) (left : List ℕ) (charge_is : charge ≡ at_hand d s) (left_is : left ≡ s.left) where
  pub idle_leaves : (rule : ℕ) → decided d s ≡ idle rule → level ≡ min d.table.capacity charge
      → (level ≡ (next_state d s).level) × (left ≡ (next_state d s).left)
  unfolding next_state
  idle_leaves rule e l =
      let whole : charge - 0 ≡ charge = omega arith in
      (rw (e, ← charge_is, whole) l, rw e left_is)

  pub busy_leaves : (rule k price : ℕ) → decided d s ≡ busy rule k → price ≡ (job_of d.table k).energy → level ≡ min d.table.capacity (charge - price)
      → (level ≡ (next_state d s).level) × (set left k (get_or left k 0 - 1) ≡ (next_state d s).left)
  unfolding next_state
  busy_leaves rule k price e p l = (rw (e, ← charge_is, ← p) l, rw (e, left_is))

-- the next state, by its parts
pub next_by_parts : (d : Day) (s : State) (level : ℕ) (left : List ℕ)
    → (level ≡ (next_state d s).level) × (left ≡ (next_state d s).left)
    → record { slot = s.slot + 1; level = level; left = left } ≡ next_state d s
unfolding next_state
next_by_parts d s level left e = rw (e.0, e.1)
