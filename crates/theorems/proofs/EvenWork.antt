-- The work left up to a deadline: a sum over the jobs, compared job by job with demand, with the work that the slacks count, and with what a slot leaves.
use Prim.Native.Nat.{ℕ, zero, suc, ◌+◌, ◌*◌, ◌<◌, ◌≤◌}
use mathlib.Core.Path.{◌≡◌, sym, ap, ◌∙◌, subst}
use mathlib.Core.Bool.{Bool, true, false, cond, ◌&&◌}
use mathlib.Core.Logic.{◌⊎◌, inl, inr, ⊎_elim}
use native.Mathlib.Nat.{not-suc-le-zero}
use native.Mathlib.Decide.{dec_lt, dec_le}
use native.Mathlib.Omega.{arith}
use lib.Dec.{ltb, leb, eqb}
use borrow.Author.Tests.{lt-ltb, le-leb, eq-eqb, ltb-true, ltb-false, leb-true, leb-false, eqb-true}
use Rattle.std.proofs.lemmas.Bool.{and_from, and_parts}
use Rattle.sheet.specs.Sums.{total, total_of, some, harvest_of}
use Rattle.sheet.specs.Table.{job_of, cost_of, Day}
use Rattle.sheet.proofs.Exactly.{either, never_both}
use Rattle.sheet.proofs.Sums.{total_same, total_at_most, total_bound, term_at_most, some_where, not_some, harvest_grows}
use Rattle.interval.specs.Demand.{within, demand_of}
use Rattle.interval.specs.declared.Kind.TheVariants.{Time}
use Rattle.choice.specs.declared.State.{State}
use Rattle.choice.specs.Choosing.{deadline_of, left_of, ready}
use Rattle.slacks.specs.Slack.{wants, pending, slack_time, zero_or_less, comes_before, coming, slack_energy, is_below}
use Rattle.slacks.proofs.SlackTests.{lacks_slack, no_slack_is, needs_charge, saving_is}

-- an `and` whose first test holds
and_fails : (a b : Bool) → a ≡ true → (a && b) ≡ false → b ≡ false
and_fails a b p e = ap (λ (x : Bool). x && b) (sym p) ∙ e

-- ---- sums over the numbers that pass a test

-- what counts in the one sum counts in the other, for no less
pub sum_at_most : (p q : ℕ → Bool) (f g : ℕ → ℕ) (n : ℕ) → ((k : ℕ) → k < n → p k ≡ true → 1 ≤ f k → (q k ≡ true) × (f k ≤ g k))
    → total_of p f n ≤ total_of q g n
sum_at_most p q f g n each = total_at_most _ _ n part
  where
    part : (k : ℕ) → k < n → cond (p k) (f k) 0 ≤ cond (q k) (g k) 0
    part k h =
        ⊎_elim
        (λ e.
        rw e
        (elim (dec_le 1 (f k)) [
          | yes l ↦ let both = each k h e l in rw both.0 both.1
          | no l ↦ omega arith
        ]))
        (λ e. rw e (omega arith))
        (either (p k))

-- nothing counts
pub sum_nothing : (p : ℕ → Bool) (f : ℕ → ℕ) (n : ℕ) → ((k : ℕ) → k < n → p k ≡ true → 1 ≤ f k → ⊥) → total_of p f n ≡ 0
sum_nothing p f n none = let most = total_bound (λ k. cond (p k) (f k) 0) 0 n part in omega arith
  where
    part : (k : ℕ) → k < n → cond (p k) (f k) 0 ≤ 0
    part k h =
        ⊎_elim
        (λ e. rw e (elim (dec_le 1 (f k)) [ yes l ↦ absurd (none k h e l) | no l ↦ omega arith ]))
        (λ e. rw e (omega arith))
        (either (p k))

-- what counts is at most the sum
pub part_at_most : (p : ℕ → Bool) (f : ℕ → ℕ) (n k : ℕ) → k < n → p k ≡ true → f k ≤ total_of p f n
part_at_most p f n k h e = let part = term_at_most (λ i. cond (p i) (f i) 0) n k h in let own = ap (λ (b : Bool). cond b (f k) 0) e in omega arith

-- one term falls by 1 and the others stay
total_falls : (f g : ℕ → ℕ) (n m : ℕ) → m < n → g m + 1 ≡ f m → ((k : ℕ) → k < n → (k ≡ m → ⊥) → g k ≡ f k) → total g n + 1 ≡ total f n
unfolding total
total_falls f g zero m h e others = absurd (not-suc-le-zero h)
total_falls f g (suc n) m h e others =
    elim (dec_lt m n) [
      | yes l ↦
          let before = total_falls f g n m l e (λ k i d. others k (omega arith) d) in
          let last = others n (omega arith) (λ q. omega arith) in
          omega arith
      | no l ↦
          let same : m ≡ n = omega arith in
          let before = total_same g f n (λ k i. others k (omega arith) (λ q. omega arith)) in
          let last = subst (λ (j : ℕ). g j + 1 ≡ f j) same e in
          omega arith
    ]

pub sum_falls : (p : ℕ → Bool) (f g : ℕ → ℕ) (n m : ℕ) → m < n → p m ≡ true → g m + 1 ≡ f m → ((k : ℕ) → (k ≡ m → ⊥) → g k ≡ f k)
    → total_of p g n + 1 ≡ total_of p f n
sum_falls p f g n m h d e others =
    total_falls (λ k. cond (p k) (f k) 0) (λ k. cond (p k) (g k) 0) n m h (rw d e) (λ k i d. ap (λ (x : ℕ). cond (p k) x 0) (others k d))

-- ---- the work left

-- a job with its deadline up to `end`
abbrev pub up_to : Day → ℕ → ℕ → Bool
up_to d end k = leb (deadline_of d k) end

-- the slots still wanted by the jobs with deadlines up to `end`, released or not
unfoldable pub work_left : Day → State → ℕ → ℕ
work_left d s end = total_of (up_to d end) (left_of s) d.table.count

module _ (d : Day) (s : State) where
  -- a job's own part of it
  pub left_at_most : (end k : ℕ) → k < d.table.count → deadline_of d k ≤ end → left_of s k ≤ work_left d s end
  unfolding work_left
  left_at_most end k h l = part_at_most (up_to d end) (left_of s) d.table.count k h (le-leb _ _ l)

  -- the last of it: a job that still wants slots, with a deadline up to which all of it counts
  pub record LastJob (end k : ℕ) : Type 0 where
    pub is_job : k < d.table.count
    pub still_wants : 1 ≤ left_of s k
    pub ends : deadline_of d k ≤ end
    pub all_work : work_left d s end ≤ work_left d s (deadline_of d k)

  -- job k still wants slots, with its deadline at `end`
  abbrev ends_at : ℕ → ℕ → Bool
  ends_at end k = eqb (deadline_of d k) end && ltb 0 (left_of s k)

  ends_here : (end : ℕ) → some (ends_at end) d.table.count ≡ true → (k : ℕ) × LastJob end k
  ends_here end e =
      let w = some_where (ends_at end) d.table.count e in
      let k : ℕ = w.0 in
      let here : deadline_of d k ≡ end = eqb-true _ _ (and_parts (eqb (deadline_of d k) end) (ltb 0 (left_of s k)) w.2).0 in
      let all = ap (work_left d s) here in (
        k,
        record {
          is_job = w.1;
          still_wants = ltb-true _ _ (and_parts (eqb (deadline_of d k) end) (ltb 0 (left_of s k)) w.2).1;
          ends = omega arith;
          all_work = omega arith;
        },
      )

  -- no job that still wants slots has its deadline at `end`
  ends_earlier : (end : ℕ) → some (ends_at end) d.table.count ≡ false → (k : ℕ) → k < d.table.count → up_to d end k ≡ true → 1 ≤ left_of s k → deadline_of d k < end
  ends_earlier end e k h p l =
      let most : deadline_of d k ≤ end = leb-true _ _ p in
      elim (dec_lt (deadline_of d k) end) [
        | yes i ↦ i
        | no i ↦ absurd (never_both (and_from _ _ (eq-eqb (deadline_of d k) end (omega arith)) (lt-ltb 0 (left_of s k) l)) (not_some (ends_at end) d.table.count k e h))
      ]

  -- there is no work, or a last job of it
  pub last_job : (end : ℕ) → (work_left d s end ≡ 0) ⊎ ((k : ℕ) × LastJob end k)
  unfolding work_left
  last_job zero =
      ⊎_elim
      (λ e. inr (ends_here 0 e))
      (λ e. inl (sum_nothing (up_to d 0) (left_of s) d.table.count (λ k h p l. not-suc-le-zero (ends_earlier 0 e k h p l))))
      (either (some (ends_at 0) d.table.count))
  last_job (suc end) =
      ⊎_elim
      (λ e. inr (ends_here (suc end) e))
      (λ e.
      let fewer : work_left d s (suc end) ≤ work_left d s end =
      sum_at_most (up_to d (suc end)) (up_to d end) (left_of s) (left_of s) d.table.count
      (λ k h p l. let less = ends_earlier (suc end) e k h p l in (le-leb (deadline_of d k) end (omega arith), omega arith)) in
      ⊎_elim
      (λ nothing. inl (omega arith))
      (λ last.
      let job = last.1 in
      let ends = job.ends in
      let all = job.all_work in
      inr (last.0, record { is_job = job.is_job; still_wants = job.still_wants; ends = omega arith; all_work = omega arith }))
      (last_job end))
      (either (some (ends_at (suc end)) d.table.count))

-- nothing that is ready has its deadline up to `end`
abbrev pub NoneReady : Day → State → ℕ → Type 0
NoneReady d s end = (k : ℕ) → k < d.table.count → deadline_of d k ≤ end → ready d s k ≡ false

-- ---- the work left, where every job with its deadline behind is done and none has more left than it wanted at first

module _ (d : Day) (s : State) (past_done : work_left d s s.slot ≡ 0) (at_most_wanted : (k : ℕ) → k < d.table.count → left_of s k ≤ (job_of d.table k).wanted) where
  -- a job that still wants slots has its deadline ahead
  pub ahead : (k : ℕ) → k < d.table.count → 1 ≤ left_of s k → s.slot < deadline_of d k
  ahead k h l =
      elim (dec_lt s.slot (deadline_of d k)) [
        | yes i ↦ i
        | no i ↦ let part = left_at_most d s s.slot k h (omega arith) in absurd (omega arith)
      ]

  -- one that is not ready is released later
  pub released_later : (k : ℕ) → k < d.table.count → 1 ≤ left_of s k → ready d s k ≡ false → s.slot < (job_of d.table k).release
  unfolding ready
  released_later k h l e =
      elim (dec_lt s.slot (job_of d.table k).release) [
        | yes i ↦ i
        | no i ↦
            absurd
            (never_both
            (and_from _ _ (and_from _ _ (le-leb (job_of d.table k).release s.slot (omega arith)) (lt-ltb s.slot (deadline_of d k) (ahead k h l))) (lt-ltb 0 (left_of s k) l))
            e)
      ]

  -- where none is ready up to an end, what is left up to there is wanted from the next slot on, as time demand
  pub all_later : (end : ℕ) → NoneReady d s end → work_left d s end ≤ demand_of Time d (s.slot + 1) end
  unfolding work_left demand_of
  all_later end none =
      sum_at_most (up_to d end) (λ k. within (s.slot + 1) end (job_of d.table k)) (left_of s) (λ k. (job_of d.table k).wanted) d.table.count
      (λ k h p l.
      let later = released_later k h l (none k h (leb-true _ _ p)) in
      (and_from _ _ (le-leb (s.slot + 1) (job_of d.table k).release (omega arith)) p, at_most_wanted k h))

  -- and, at an energy of 1, as the work that slack energy counts
  pub all_coming : ((k : ℕ) → k < d.table.count → (job_of d.table k).energy ≡ 1) → (end : ℕ) → NoneReady d s end → work_left d s end ≤ coming d s end
  unfolding work_left coming
  all_coming costs_one end none =
      sum_at_most (up_to d end) (λ k. ltb s.slot (job_of d.table k).release && leb (deadline_of d k) end) (left_of s)
      (λ k. cost_of (job_of d.table k)) d.table.count
      (λ k h p l.
      let most = at_most_wanted k h in
      let cost = ap (λ (e : ℕ). (job_of d.table k).wanted * e) (costs_one k h) in
      (and_from _ _ (lt-ltb _ _ (released_later k h l (none k h (leb-true _ _ p)))) p, omega arith))

  -- slack time counts all that is left
  pub all_pending : (end : ℕ) → work_left d s end ≤ pending d s end
  unfolding work_left pending
  all_pending end =
      sum_at_most (up_to d end) (λ k. ltb s.slot (deadline_of d k) && leb (deadline_of d k) end) (left_of s) (left_of s) d.table.count
      (λ k h p l. (and_from _ _ (lt-ltb _ _ (ahead k h l)) p, omega arith))

  -- slack time above 0: the work up to every end ahead leaves a slot
  pub slack_left : zero_or_less (slack_time d s) ≡ false → (end : ℕ) → s.slot < end → s.slot + work_left d s end < end
  slack_left e end h =
      ⊎_elim
      (λ nothing. omega arith)
      (λ last.
      let k : ℕ = last.0 in
      let job = last.1 in
      let ends = job.ends in
      let all = job.all_work in
      let counted = all_pending (deadline_of d k) in
      let still : wants d s k ≡ true = and_from _ _ (lt-ltb _ _ (ahead k job.is_job job.still_wants)) (lt-ltb 0 (left_of s k) job.still_wants) in
      let slack : s.slot + pending d s (deadline_of d k) < deadline_of d k =
      leb-false _ _ (and_fails (wants d s k) _ still (not_some (lacks_slack d s) d.table.count k (no_slack_is d s ∙ e) job.is_job)) in
      omega arith)
      (last_job d s end)

  -- slack energy of 1 or more, and nothing ready before `own`: the work up to an end before it can be paid, and one slot more
  pub energy_left : (own : ℕ) → is_below (slack_energy d s own) 1 ≡ false → ((k : ℕ) → k < d.table.count → (job_of d.table k).energy ≡ 1)
      → ((end : ℕ) → end < own → NoneReady d s end) → (end : ℕ) → end < own
      → (work_left d s end ≡ 0) ⊎ (work_left d s end + 1 ≤ s.level + harvest_of d.harvest s.slot end)
  energy_left own e costs_one none end h =
      ⊎_elim
      (λ nothing. inl nothing)
      (λ last.
      let k : ℕ = last.0 in
      let job = last.1 in
      let ends = job.ends in
      let all = job.all_work in
      let counted = all_coming costs_one (deadline_of d k) (none (deadline_of d k) (omega arith)) in
      let after = ahead k job.is_job job.still_wants in
      let later = released_later k job.is_job job.still_wants (none end h k job.is_job ends) in
      let comes : comes_before d s own k ≡ true = and_from _ _ (lt-ltb _ _ later) (lt-ltb (deadline_of d k) own (omega arith)) in
      let slack : coming d s (deadline_of d k) + 1 ≤ s.level + harvest_of d.harvest s.slot (deadline_of d k) =
      ltb-false _ _ (and_fails (comes_before d s own k) _ comes (not_some (needs_charge d s own 1) d.table.count k (saving_is d s own 1 ∙ e) job.is_job)) in
      let more = harvest_grows d.harvest s.slot (deadline_of d k) s.slot end (omega arith) (omega arith) ends in
      inr (omega arith))
      (last_job d s end)

pending_left : (d : Day) (s : State) (end : ℕ) → pending d s end ≤ work_left d s end
unfolding work_left pending
pending_left d s end =
    sum_at_most (λ k. ltb s.slot (deadline_of d k) && leb (deadline_of d k) end) (up_to d end) (left_of s) (left_of s) d.table.count
    (λ k h p l. ((and_parts (ltb s.slot (deadline_of d k)) (leb (deadline_of d k) end) p).1, omega arith))

-- slack time 0 or less: the work up to some end ahead fills the time to it
pub no_slack_left : (d : Day) (s : State) → zero_or_less (slack_time d s) ≡ true
    → (k : ℕ) × (k < d.table.count) × (s.slot < deadline_of d k) × (deadline_of d k ≤ s.slot + work_left d s (deadline_of d k))
no_slack_left d s e =
    let w = some_where (lacks_slack d s) d.table.count (no_slack_is d s ∙ e) in
    let k : ℕ = w.0 in
    let still : wants d s k ≡ true = (and_parts (wants d s k) _ w.2).0 in
    let filled : deadline_of d k ≤ s.slot + pending d s (deadline_of d k) = leb-true _ _ (and_parts (wants d s k) _ w.2).1 in
    let counted = pending_left d s (deadline_of d k) in
    (k, w.1, ltb-true _ _ (and_parts (ltb s.slot (deadline_of d k)) (ltb 0 (left_of s k)) still).0, omega arith)
