-- The even day in numbers alone. Forwards from slot to slot: the day stays in time, because the work up to an end either can be paid from the
-- level and the harvest up to there, or some later end has no slack left.
use Prim.Native.Nat.{ℕ, zero, suc, min, ◌+◌, ◌-◌, ◌<◌, ◌≤◌}
use mathlib.Core.Path.{◌≡◌, subst}
use mathlib.Core.Logic.{◌⊎◌, inl, inr, ⊎_elim}
use native.Mathlib.Numerals.{add-one}
use native.Mathlib.Decide.{dec_le}
use native.Mathlib.Omega.{arith}

-- a day's numbers: `work s end` is left to do as slot s begins, of the jobs with a deadline up to `end`, released or not; `comes s` is the
-- harvest of slot s; `harvest` and `demand` are those of the slots from .. to - 1
pub record Numbers : Type 0 where
  pub slots : ℕ
  pub capacity : ℕ
  pub work : ℕ → ℕ → ℕ
  pub level : ℕ → ℕ
  pub comes : ℕ → ℕ
  pub harvest : ℕ → ℕ → ℕ
  pub demand : ℕ → ℕ → ℕ

module _ (day : Numbers) where
  open day use {slots, capacity, work, level, comes, harvest, demand}

  -- ---- what a slot did

  -- nothing ready in slot s has its deadline up to `end`, so the work up to there is wanted from slot s + 1 on
  abbrev pub AllLater : ℕ → ℕ → Type 0
  AllLater s end = work s end ≤ demand (s + 1) end

  -- idle: the work stays, and the level keeps what fits
  pub record Rests (s : ℕ) : Type 0 where
    pub work_stays : (end : ℕ) → work (s + 1) end ≡ work s end
    pub level_after : level (s + 1) ≡ min capacity (level s + comes s)

  -- busy with a job of this deadline: it serves every end from there on, and nothing that is ready has a smaller one
  pub record Serves (s deadline : ℕ) : Type 0 where
    pub serves : (end : ℕ) → deadline ≤ end → work (s + 1) end + 1 ≡ work s end
    pub work_stays : (end : ℕ) → end < deadline → work (s + 1) end ≡ work s end
    pub all_later : (end : ℕ) → end < deadline → AllLater s end
    pub is_paid : 1 ≤ level s + comes s
    pub level_after : level (s + 1) ≡ min capacity (level s + comes s - 1)

  -- the three grounds of a busy slot
  pub data Ground (s deadline : ℕ) : Type 0 where
    full : capacity < level s + comes s → Ground s deadline
    noslack : (end : ℕ) → s < end → end ≤ slots → end ≤ s + work s end → Ground s deadline
    free : ((end : ℕ) → end < deadline → (work s end ≡ 0) ⊎ (work s end + 1 ≤ level s + harvest s end)) → Ground s deadline

  -- the three grounds of an idle slot, and a busy one
  pub data Did (s : ℕ) : Type 0 where
    none : Rests s → ((end : ℕ) → AllLater s end) → Did s
    empty : Rests s → level s + comes s < 1 → Did s
    saving : Rests s → level s + comes s ≤ capacity → ((end : ℕ) → s < end → end ≤ slots → s + work s end < end) → Did s
    busy : (deadline : ℕ) → Serves s deadline → Ground s deadline → Did s

  -- an even day with no overloaded interval, run by the rules
  pub record IsEvenRun : Type 0 where
    pub wanted_first : (end : ℕ) → work 0 end ≤ demand 0 end
    pub paid_first : (end : ℕ) → end ≤ slots → work 0 end ≤ level 0 + harvest 0 end
    pub level_first : level 0 ≤ capacity
    pub time_fits : (from to : ℕ) → from ≤ to → to ≤ slots → from + demand from to ≤ to
    pub energy_fits : (from to : ℕ) → from ≤ to → to ≤ slots → demand from to ≤ capacity + harvest from to
    pub comes_at_most_one : (s : ℕ) → s < slots → comes s ≤ 1
    pub harvest_first : (from to : ℕ) → from < to → harvest from to ≡ comes from + harvest (from + 1) to
    pub harvest_at_most : (from to : ℕ) → from ≤ to → to ≤ slots → from + harvest from to ≤ to
    pub did : (s : ℕ) → s < slots → work s s ≡ 0 → Did s

  -- ---- in time, and paid

  -- the work up to every end fits the time up to it
  abbrev pub InTime : ℕ → Type 0
  InTime s = (end : ℕ) → s ≤ end → end ≤ slots → s + work s end ≤ end

  -- the work up to `end` can be paid
  abbrev Paid : ℕ → ℕ → Type 0
  Paid s end = work s end ≤ level s + harvest s end

  -- some end after this one has no slack
  abbrev TightAfter : ℕ → ℕ → Type 0
  TightAfter s end = (later : ℕ) × (end < later) × (later ≤ slots) × (later ≤ s + work s later)

  -- what the day keeps beside being in time
  abbrev PaidOrTight : ℕ → Type 0
  PaidOrTight s = (end : ℕ) → s ≤ end → end ≤ slots → Paid s end ⊎ TightAfter s end

  module _ (run : IsEvenRun) where
    -- a slot does one slot's work at most, so an end without slack stays without
    falls : (s : ℕ) → Did s → (end : ℕ) → work s end ≤ work (s + 1) end + 1
    falls s (none rests later) end = let same = rests.work_stays end in omega arith
    falls s (empty rests low) end = let same = rests.work_stays end in omega arith
    falls s (saving rests fits slack) end = let same = rests.work_stays end in omega arith
    falls s (busy deadline serves ground) end =
        elim (dec_le deadline end) [
          | yes l ↦ let less = serves.serves end l in omega arith
          | no l ↦ let same = serves.work_stays end (omega arith) in omega arith
        ]

    stays_tight : (s : ℕ) → Did s → (end : ℕ) → TightAfter s end → TightAfter (s + 1) end
    stays_tight s did end (later, after, ends, tight) = let less = falls s did later in (later, after, ends, omega arith)

    module _ (s : ℕ) (in_day : s < slots) where
      -- An empty slot stays in time, the latest end first. Work that can be paid from nothing, at 1 a slot from the next on, leaves this slot free; and
      -- no later end is without slack, as that one would not be in time any more.
      empty_in_time : PaidOrTight s → Rests s → level s + comes s < 1 → (n end : ℕ) → slots < end + n → s + 1 ≤ end → end ≤ slots
          → s + 1 + work (s + 1) end ≤ end
      empty_in_time paid rests low zero end m h l = absurd (omega arith)
      empty_in_time paid rests low (suc n) end m h l =
          ⊎_elim
          (λ can.
          let same = rests.work_stays end in
          let first = run.harvest_first s end (omega arith) in
          let rest = run.harvest_at_most (s + 1) end h l in
          omega arith)
          (λ tight.
          let after = tight.1 in
          let ends = tight.2 in
          let no_slack = tight.3 in
          let same = rests.work_stays tight.0 in
          let in_time = empty_in_time paid rests low n tight.0 (omega arith) (omega arith) ends in
          absurd (omega arith))
          (paid end (omega arith) l)

      -- so does any other: it serves the end, or has slack, or nothing that is ready has its deadline up to there
      stays_in_time : InTime s → PaidOrTight s → Did s → InTime (s + 1)
      stays_in_time in_time paid (none rests later) end h l =
          let same = rests.work_stays end in
          let wanted = later end in
          let fits = run.time_fits (s + 1) end h l in
          omega arith
      stays_in_time in_time paid (empty rests low) end h l = empty_in_time paid rests low (slots + 1) end (omega arith) h l
      stays_in_time in_time paid (saving rests fits slack) end h l =
          let same = rests.work_stays end in
          let some_slack = slack end (omega arith) l in
          omega arith
      stays_in_time in_time paid (busy deadline serves ground) end h l =
          elim (dec_le deadline end) [
            | yes i ↦
                let less = serves.serves end i in
                let before = in_time end (omega arith) l in
                omega arith
            | no i ↦
                let same = serves.work_stays end (omega arith) in
                let wanted = serves.all_later end (omega arith) in
                let fits = run.time_fits (s + 1) end h l in
                omega arith
          ]

      -- Work that can be paid can be paid after the slot, or a later end has no slack. Charge is spilled, or spent on a later deadline, only where nothing
      -- that is ready has its deadline up to the end: then a full level pays, or slack energy left enough, or slack time had run out.
      stays_paid : level s ≤ capacity → Did s → (end : ℕ) → s + 1 ≤ end → end ≤ slots → Paid s end → Paid (s + 1) end ⊎ TightAfter (s + 1) end
      stays_paid within (none rests later) end h l can =
          let same = rests.work_stays end in
          let after = rests.level_after in
          let first = run.harvest_first s end (omega arith) in
          let wanted = later end in
          let fits = run.energy_fits (s + 1) end h l in
          inl (omega arith)
      stays_paid within (empty rests low) end h l can =
          let same = rests.work_stays end in
          let after = rests.level_after in
          let first = run.harvest_first s end (omega arith) in
          inl (omega arith)
      stays_paid within (saving rests fits slack) end h l can =
          let same = rests.work_stays end in
          let after = rests.level_after in
          let first = run.harvest_first s end (omega arith) in
          inl (omega arith)
      stays_paid within (busy deadline serves ground) end h l can =
          elim (dec_le deadline end) [
            | yes i ↦
                let less = serves.serves end i in
                let paid = serves.is_paid in
                let after = serves.level_after in
                let first = run.harvest_first s end (omega arith) in
                let one = run.comes_at_most_one s in_day in
                inl (omega arith)
            | no i ↦ other ground (omega arith)
          ]
        where
          other : Ground s deadline → end < deadline → Paid (s + 1) end ⊎ TightAfter (s + 1) end
          other (full spills) i =
              let same = serves.work_stays end i in
              let after = serves.level_after in
              let wanted = serves.all_later end i in
              let fits = run.energy_fits (s + 1) end h l in
              inl (omega arith)
          other (noslack tight after ends no_slack) i =
              elim (dec_le tight end) [
                | yes j ↦
                    let wanted = serves.all_later tight (omega arith) in
                    let fits = run.time_fits (s + 1) tight (omega arith) ends in
                    absurd (omega arith)
                | no j ↦ inr (stays_tight s (busy deadline serves ground) end (tight, omega arith, ends, no_slack))
              ]
          other (free slack) i =
              let same = serves.work_stays end i in
              let paid = serves.is_paid in
              let after = serves.level_after in
              let first = run.harvest_first s end (omega arith) in
              let one = run.comes_at_most_one s in_day in
              ⊎_elim (λ done. inl (omega arith)) (λ some_slack. inl (omega arith)) (slack end i)

      -- the level stays within capacity
      stays_within : Did s → level (s + 1) ≤ capacity
      stays_within (none rests later) = let after = rests.level_after in omega arith
      stays_within (empty rests low) = let after = rests.level_after in omega arith
      stays_within (saving rests fits slack) = let after = rests.level_after in omega arith
      stays_within (busy deadline serves ground) = let after = serves.level_after in omega arith

    -- ---- the whole day

    -- what holds as slot s begins
    record Well (s : ℕ) : Type 0 where
      in_time : InTime s
      paid : PaidOrTight s
      within : level s ≤ capacity

    well : (s : ℕ) → s ≤ slots → Well s
    well zero h =
        record {
          in_time = λ end _ l. let wanted = run.wanted_first end in let fits = run.time_fits 0 end (omega arith) l in omega arith;
          paid = λ end _ l. inl (run.paid_first end l);
          within = run.level_first;
        }
    well (suc s) h =
        let before = well s (omega arith) in
        let done = before.in_time s (omega arith) (omega arith) in
        let did = run.did s h (omega arith) in
        subst Well (add-one s)
        (record {
          in_time = stays_in_time s h before.in_time before.paid did;
          paid =
              λ end i l.
              ⊎_elim
              (λ can. stays_paid s h before.within did end i l can)
              (λ tight. inr (stays_tight s did end tight))
              (before.paid end (omega arith) l);
          within = stays_within s h did;
        })

    -- every job is done as its deadline comes
    pub done_in_time : (end : ℕ) → end ≤ slots → work end end ≡ 0
    done_in_time end h = let fits = (well end h).in_time end (omega arith) h in omega arith
