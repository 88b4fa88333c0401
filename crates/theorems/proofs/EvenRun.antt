-- The run of an even day: each slot's rule gives the numbers of `EvenNumbers.antt` what they ask, so no job is left unfinished.
use Prim.Native.Nat.{ℕ, zero, suc, min, ◌+◌, ◌-◌, ◌*◌, ◌<◌, ◌≤◌}
use mathlib.Core.Path.{◌≡◌, refl, sym, ap, ◌∙◌, subst}
use mathlib.Core.Bool.{true, false, cond}
use mathlib.Core.List.{List}
use mathlib.Core.Logic.{inl, inr, ⊎_elim}
use native.Mathlib.Decide.{dec_lt, dec_le, ℕ_discrete}
use native.Mathlib.Omega.{arith}
use lib.Dec.{ltb}
use lib.ListN.{get_or, set}
use lib.Seq.{get_or-set_same, get_or-set_other}
use borrow.Author.Tests.{le-leb, lt-leb, ltb-true, ltb-false}
use Rattle.std.proofs.lemmas.Bool.{and_from}
use Rattle.std.specs.Prelude.{Option, Some, None}
use Rattle.sheet.specs.Sums.{harvest_at, harvest_of}
use Rattle.sheet.specs.Table.{most_jobs, job_of, cost_of, Day}
use Rattle.sheet.specs.WellFormed.{GoodDay}
use Rattle.sheet.proofs.Exactly.{either}
use Rattle.sheet.proofs.Lists.{filled_get}
use Rattle.sheet.proofs.Sums.{total_same, total_bound, harvest_from}
use Rattle.interval.specs.Demand.{within, demand_of, Overloaded}
use Rattle.interval.specs.declared.Kind.{Kind}
use Rattle.interval.specs.declared.Kind.TheVariants.{Time, Energy}
use Rattle.demand.proofs.Shrinking.{not_empty}
use Rattle.choice.specs.declared.State.{State}
use Rattle.choice.specs.Choosing.{ready, chosen, deadline_of, left_of}
use Rattle.slacks.specs.Slack.{slack_time, zero_or_less, slack_energy, is_below}
use Rattle.rules.specs.Rules.{Ruled, idle, busy, at_hand, rule_for, rule_on, decided, next_state}
use Rattle.slot_run.specs.Run.{first_state, state_at}
use Rattle.choice.proofs.Choosing.{chosen_is, nobody_ready}
use Rattle.slot_run.proofs.Running.{state_first, state_next, state_slot}
use Rattle.rules.proofs.RuleLaws.{rule_2, rule_3, rule_4, rule_5, rule_6, busy_facts, idle_leaves, busy_leaves}
use Rattle.theorems.specs.Even.{EvenDay}
use Rattle.theorems.proofs.RunPlan.{holds_a_place}
use Rattle.theorems.proofs.EvenNumbers
use Rattle.theorems.proofs.EvenNumbers.{Numbers, Rests, Serves, Ground, Did, IsEvenRun, full, noslack, free, none, empty, saving, done_in_time}
use Rattle.theorems.proofs.EvenWork.{sum_at_most, sum_falls, up_to, work_left, left_at_most, NoneReady, all_later, slack_left, energy_left, no_slack_left}

-- ---- what a slot leaves of each job

module _ (d : Day) (s : State) where
  -- the state after the slot
  abbrev after : State
  after = next_state d s

  module _ (rule : ℕ) (e : decided d s ≡ idle rule) where
    -- an idle slot
    idle_level : after.level ≡ min d.table.capacity (at_hand d s)
    idle_level = sym (idle_leaves d s (at_hand d s) _ s.left refl refl rule e refl).0

    idle_left : (k : ℕ) → left_of after k ≡ left_of s k
    idle_left k = ap (λ (l : List ℕ). get_or l k 0) (sym (idle_leaves d s (at_hand d s) _ s.left refl refl rule e refl).1)

    idle_work : (end : ℕ) → work_left d after end ≡ work_left d s end
    unfolding work_left
    idle_work end = total_same _ _ d.table.count (λ k h. ap (λ (x : ℕ). cond (up_to d end k) x 0) (idle_left k))

  module _ (rule m : ℕ) (e : decided d s ≡ busy rule m) where
    -- a slot busy with job m
    busy_level : (job_of d.table m).energy ≡ 1 → after.level ≡ min d.table.capacity (at_hand d s - 1)
    busy_level one = sym (busy_leaves d s (at_hand d s) _ s.left refl refl rule m 1 e (sym one) refl).0

    busy_list : after.left ≡ set s.left m (left_of s m - 1)
    busy_list = sym (busy_leaves d s (at_hand d s) _ s.left refl refl rule m _ e refl refl).1

    busy_own : left_of after m + 1 ≡ left_of s m
    busy_own =
        let some_left = (busy_facts d s rule m e).1 in
        let stored = ap (λ (l : List ℕ). get_or l m 0) busy_list ∙ get_or-set_same s.left m (left_of s m - 1) 0 (holds_a_place s.left m some_left) in
        omega arith

    busy_other : (k : ℕ) → (k ≡ m → ⊥) → left_of after k ≡ left_of s k
    busy_other k differs = ap (λ (l : List ℕ). get_or l k 0) busy_list ∙ get_or-set_other s.left m k (left_of s m - 1) 0 differs

    -- it serves every end from its deadline on
    busy_serves : (end : ℕ) → deadline_of d m ≤ end → work_left d after end + 1 ≡ work_left d s end
    unfolding work_left
    busy_serves end h = sum_falls (up_to d end) (left_of s) (left_of after) d.table.count m (busy_facts d s rule m e).0 (le-leb _ _ h) busy_own busy_other

    -- and none before
    busy_stays : (end : ℕ) → end < deadline_of d m → work_left d after end ≡ work_left d s end
    unfolding work_left
    busy_stays end h = total_same _ _ d.table.count same
      where
        same : (k : ℕ) → k < d.table.count → cond (up_to d end k) (left_of after k) 0 ≡ cond (up_to d end k) (left_of s k) 0
        same k l =
            elim (ℕ_discrete k m) [
              | yes own ↦ let out = ap (up_to d end) own ∙ lt-leb (deadline_of d m) end h in rw out
              | no other ↦ ap (λ (x : ℕ). cond (up_to d end k) x 0) (busy_other k other)
            ]

  -- no job has more left after a slot than before it
  left_falls : (k : ℕ) → left_of after k ≤ left_of s k
  left_falls k = go (decided d s) refl
    where
      go : (x : Ruled) → decided d s ≡ x → left_of after k ≤ left_of s k
      go (idle rule) e = let same = idle_left rule e k in omega arith
      go (busy rule m) e =
          elim (ℕ_discrete k m) [
            | yes own ↦ let less = busy_own rule m e in subst (λ (j : ℕ). left_of after j ≤ left_of s j) (sym own) (omega arith)
            | no other ↦ let same = busy_other rule m e k other in omega arith
          ]

-- ---- the day's numbers

-- `demand` is time demand, which on an even day is energy demand too
abbrev numbers_of : Day → Numbers
numbers_of d =
    record {
      slots = d.table.slots;
      capacity = d.table.capacity;
      work = λ n. work_left d (state_at d n);
      level = λ n. (state_at d n).level;
      comes = harvest_at d.harvest;
      harvest = harvest_of d.harvest;
      demand = demand_of Time d;
    }

-- no job ever has more left than it wanted
at_most_wanted : (d : Day) (n k : ℕ) → k < d.table.count → left_of (state_at d n) k ≤ (job_of d.table k).wanted
unfolding state_at first_state
at_most_wanted d zero k h = let first = filled_get (λ i. (job_of d.table i).wanted) 0 most_jobs d.table.count k h in omega arith
at_most_wanted d (suc n) k h =
    let before = at_most_wanted d n k h in
    let falls = left_falls d (state_at d n) k in
    omega arith

module _ (d : Day) (good : GoodDay d) (even : EvenDay d) where
  -- ---- what slot n does, where every job with its deadline up to n is done

  module _ (n : ℕ) (in_day : n < d.table.slots) (done : work_left d (state_at d n) n ≡ 0) where
    abbrev s : State
    s = state_at d n

    -- the numbers at slot n, for those of its state
    slot_is : s.slot ≡ n
    slot_is = state_slot d n

    hand : at_hand d s ≡ s.level + harvest_at d.harvest n
    hand = ap (λ (m : ℕ). s.level + harvest_at d.harvest m) slot_is

    past_done : work_left d s s.slot ≡ 0
    past_done = ap (work_left d s) slot_is ∙ done

    -- nothing ready up to `end`: the work up to there is the demand from the next slot on
    later : (end : ℕ) → NoneReady d s end → work_left d s end ≤ demand_of Time d (n + 1) end
    later end none_ready =
        let most = all_later d s past_done (at_most_wanted d n) end none_ready in
        let from = ap (λ (m : ℕ). demand_of Time d (m + 1) end) slot_is in
        omega arith

    -- an idle slot
    rests : (rule : ℕ) → decided d s ≡ idle rule → Rests (numbers_of d) n
    rests rule e =
        record {
          work_stays = λ end. ap (λ (x : State). work_left d x end) (state_next d n) ∙ idle_work d s rule e end;
          level_after = ap (λ (x : State). x.level) (state_next d n) ∙ idle_level d s rule e ∙ ap (min d.table.capacity) hand;
        }

    -- busy with the chosen job, which has the smallest deadline of those that are ready
    module _ (k : ℕ) (w : chosen d s ≡ Some k) (costs : 1 ≤ at_hand d s) where
      none_before : (end : ℕ) → end < deadline_of d k → NoneReady d s end
      none_before end h i l m =
          ⊎_elim
          (λ e. let smallest = (chosen_is d s k w).smallest i l e in absurd (omega arith))
          (λ e. e)
          (either (ready d s i))

      serves : (rule : ℕ) → decided d s ≡ busy rule k → Serves (numbers_of d) n (deadline_of d k)
      serves rule e =
          record {
            serves = λ end h. ap (λ (x : State). work_left d x end + 1) (state_next d n) ∙ busy_serves d s rule k e end h;
            work_stays = λ end h. ap (λ (x : State). work_left d x end) (state_next d n) ∙ busy_stays d s rule k e end h;
            all_later = λ end h. later end (none_before end h);
            is_paid = let same = hand in omega arith;
            level_after =
                ap (λ (x : State). x.level) (state_next d n)
                ∙ busy_level d s rule k e (even.costs_one k (chosen_is d s k w).below)
                ∙ ap (λ (c : ℕ). min d.table.capacity (c - 1)) hand;
          }

      -- ground `noslack`
      tight : zero_or_less (slack_time d s) ≡ true → Ground (numbers_of d) n (deadline_of d k)
      tight e =
          let full_up = no_slack_left d s e in
          let i : ℕ = full_up.0 in
          let ahead = full_up.2 in
          let fills = full_up.3 in
          let slot = slot_is in
          noslack (deadline_of d i) (omega arith) (good.good_jobs i full_up.1).in_day (omega arith)

      -- ground `free`
      slack : is_below (slack_energy d s (deadline_of d k)) 1 ≡ false → Ground (numbers_of d) n (deadline_of d k)
      slack e =
          free
          (λ end h.
          let from = ap (λ (m : ℕ). harvest_of d.harvest m end) slot_is in
          ⊎_elim inl (λ more. inr (omega arith))
          (energy_left d s past_done (at_most_wanted d n) (deadline_of d k) e even.costs_one none_before end h))

    -- rules 2 to 6, for the chosen job
    by_rules : (k : ℕ) → chosen d s ≡ Some k → Did (numbers_of d) n
    unfolding decided
    by_rules k w =
        let rule : decided d s ≡ rule_for d s k = ap (rule_on d s) w in
        let one : (job_of d.table k).energy ≡ 1 = even.costs_one k (chosen_is d s k w).below in
        let same = hand in
        let slot = slot_is in
        ⊎_elim
        (λ a.
        let low : at_hand d s < (job_of d.table k).energy = ltb-true _ _ a in
        empty (rests 2 (rule ∙ rule_2 d s k low)) (omega arith))
        (λ a.
        let paid : (job_of d.table k).energy ≤ at_hand d s = ltb-false _ _ a in
        ⊎_elim
        (λ b.
        let spills : d.table.capacity < at_hand d s = ltb-true _ _ b in
        EvenNumbers.busy (deadline_of d k) (serves k w (omega arith) 3 (rule ∙ rule_3 d s k paid spills)) (full (omega arith)))
        (λ b.
        let fits : at_hand d s ≤ d.table.capacity = ltb-false _ _ b in
        ⊎_elim
        (λ c. EvenNumbers.busy (deadline_of d k) (serves k w (omega arith) 4 (rule ∙ rule_4 d s k paid fits c)) (tight k w (omega arith) c))
        (λ c.
        ⊎_elim
        (λ f.
        saving (rests 5 (rule ∙ rule_5 d s k paid fits c f)) (omega arith)
        (λ end h l. let left = slack_left d s past_done (at_most_wanted d n) c end (omega arith) in omega arith))
        (λ f.
        EvenNumbers.busy (deadline_of d k) (serves k w (omega arith) 6 (rule ∙ rule_6 d s k paid fits c f))
        (slack k w (omega arith) (ap (is_below (slack_energy d s (deadline_of d k))) (sym one) ∙ f)))
        (either (is_below (slack_energy d s (deadline_of d k)) (job_of d.table k).energy)))
        (either (zero_or_less (slack_time d s))))
        (either (ltb d.table.capacity (at_hand d s))))
        (either (ltb (at_hand d s) (job_of d.table k).energy))

    -- every slot, by its rule
    did : Did (numbers_of d) n
    unfolding decided
    did = go (chosen d s) refl
      where
        go : (c : Option ℕ) → chosen d s ≡ c → Did (numbers_of d) n
        go None w = none (rests 1 (ap (rule_on d s) w)) (λ end. later end (λ k h l. (nobody_ready d s).0 w k h))
        go (Some k) w = by_rules k w

  -- ---- demand, harvest and the work at first

  -- a busy slot costs 1, so energy demand is time demand
  same_demand : (from to : ℕ) → demand_of Energy d from to ≡ demand_of Time d from to
  unfolding demand_of
  same_demand from to =
      total_same _ _ d.table.count
      (λ k h.
      let cost : cost_of (job_of d.table k) ≡ (job_of d.table k).wanted = ap (λ (e : ℕ). (job_of d.table k).wanted * e) (even.costs_one k h) ∙ omega arith in
      ap (λ (x : ℕ). cond (within from to (job_of d.table k)) x 0) cost)

  -- a stretch of slots harvests at most 1 each
  harvest_at_most : (from to : ℕ) → from ≤ to → to ≤ d.table.slots → from + harvest_of d.harvest from to ≤ to
  unfolding harvest_of
  harvest_at_most from to h l =
      let most = total_bound (λ i. harvest_at d.harvest (from + i)) 1 (to - from) (λ i j. even.harvests_at_most_one (from + i) (omega arith)) in
      omega arith

  -- at first every job wants all its slots
  wanted_first : (end : ℕ) → work_left d (state_at d 0) end ≤ demand_of Time d 0 end
  unfolding work_left demand_of
  wanted_first end =
      sum_at_most (up_to d end) (λ k. within 0 end (job_of d.table k)) (left_of (state_at d 0)) (λ k. (job_of d.table k).wanted) d.table.count
      (λ k h p l. (and_from _ _ (le-leb 0 (job_of d.table k).release (omega arith)) p, at_most_wanted d 0 k h))

  -- ---- no interval is overloaded

  module _ (clear : (kind : Kind) (from to : ℕ) → from < to → to ≤ d.table.slots → Overloaded kind d from to → ⊥) where
    -- nor is one without slots
    not_over : (kind : Kind) (from to : ℕ) → from ≤ to → to ≤ d.table.slots → Overloaded kind d from to → ⊥
    not_over kind from to h l over =
        elim (dec_lt from to) [
          | yes i ↦ clear kind from to i l over
          | no i ↦
              let end : from ≡ to = omega arith in
              not_empty d good kind to (subst (λ (n : ℕ). Overloaded kind d n to) end over)
        ]

    time_fits : (from to : ℕ) → from ≤ to → to ≤ d.table.slots → from + demand_of Time d from to ≤ to
    time_fits from to h l = elim (dec_le (from + demand_of Time d from to) to) [ yes i ↦ i | no i ↦ absurd (not_over Time from to h l (omega arith)) ]

    energy_fits : (from to : ℕ) → from ≤ to → to ≤ d.table.slots → demand_of Time d from to ≤ d.table.capacity + harvest_of d.harvest from to
    energy_fits from to h l =
        let same = same_demand from to in
        elim (dec_le (demand_of Time d from to) (d.table.capacity + harvest_of d.harvest from to)) [
          | yes i ↦ i
          | no i ↦ absurd (not_over Energy from to h l (omega arith))
        ]

    -- The work at first can be paid: the level starts at capacity. Nothing else is asked of the starting level.
    paid_first : ((state_at d 0).level ≤ d.table.capacity)
        × ((end : ℕ) → end ≤ d.table.slots → work_left d (state_at d 0) end ≤ (state_at d 0).level + harvest_of d.harvest 0 end)
    unfolding first_state
    paid_first =
        let start : (state_at d 0).level ≡ d.table.capacity = ap (λ (x : State). x.level) (state_first d) in (
          omega arith,
          (λ end l. let wanted = wanted_first end in let fits = energy_fits 0 end (omega arith) l in omega arith),
        )

    is_even_run : IsEvenRun (numbers_of d)
    is_even_run =
        record {
          wanted_first = wanted_first;
          paid_first = paid_first.1;
          level_first = paid_first.0;
          time_fits = time_fits;
          energy_fits = energy_fits;
          comes_at_most_one = even.harvests_at_most_one;
          harvest_first = harvest_from d.harvest;
          harvest_at_most = harvest_at_most;
          did = did;
        }

-- On an even day with no overloaded interval, the run leaves no job unfinished.
pub even_run_finishes : (d : Day) → GoodDay d → EvenDay d
    → ((kind : Kind) (from to : ℕ) → from < to → to ≤ d.table.slots → Overloaded kind d from to → ⊥)
    → (k : ℕ) → k < d.table.count → left_of (state_at d d.table.slots) k ≡ 0
even_run_finishes d good even clear k h =
    let done : work_left d (state_at d d.table.slots) d.table.slots ≡ 0 =
    done_in_time (numbers_of d) (is_even_run d good even clear) d.table.slots (omega arith) in
    let part = left_at_most d (state_at d d.table.slots) d.table.slots k h (good.good_jobs k h).in_day in
    omega arith
