-- The judge's promises at each of its answers: on a table that was checked, and from there on anything handed in.
use Prim.Native.Nat.{ℕ, ◌+◌, ◌-◌, ◌≤◌, ◌<◌}
use mathlib.Core.Path.{◌≡◌, sym, ap, ap₂, ◌∙◌}
use mathlib.Core.List.{List}
use mathlib.Core.Bool.{true, false, not, ◌||◌}
use lib.Dec.{ltb, eqb}
use lib.ListN.{length}
use borrow.Author.Tests.{lt-ltb, le-ltb, eq-eqb, ne_eqb, ltb-true, ltb-false, not-false}
use Rattle.std.proofs.lemmas.Bool.{or_parts}
use Rattle.sheet.specs.HandedIn.{HandedIn, check_says, day_in}
use Rattle.sheet.specs.Paper.{gives, ◌when◌}
use Rattle.std.specs.Prelude.{Result, Ok, Err}
use Rattle.sheet.specs.Refusals.{refusal_says}
use Rattle.sheet.specs.Sums.{harvest_of}
use Rattle.sheet.specs.Table.{Day}
use Rattle.sheet.specs.declared.Refusal.{Refusal}
use Rattle.sheet.proofs.HandedIn.{hands_on, past_check}
use Rattle.sheet.proofs.Refusals.{refusal_gives_nothing}
use Rattle.plan_slots.specs.Slots.{slots_say}
use Rattle.plan_slots.specs.declared.PlanFault.TheVariants.{WrongLength}
use Rattle.interval.specs.Demand.{kind_number, demand_of, supply_of, overloaded}
use Rattle.interval.specs.declared.Kind.{Kind}
use Rattle.interval.specs.declared.Kind.TheVariants.{Time, Energy}
use Rattle.judge.specs.Judge.{plan_says, judged_plan, kind_of, claim_fault, claim_says, judged_claim, no_sums, sums_of, judged_sums}
use Rattle.judge.specs.Numbers.{no_interval}
use Rattle.judge.specs.Promise.{plan_answered, JudgesPlan, JudgesClaim}
use Rattle.judge.specs.declared.PlanRefusal.{PlanRefusal}
use Rattle.judge.specs.declared.PlanRefusal.TheVariants as Plan
use Rattle.judge.specs.declared.Sums.{Sums}
use Rattle.judge.specs.declared.ClaimRefusal.TheVariants as Claim

-- ---- a refusal is handed on

module _ (h : HandedIn) (why : Refusal) (refused : check_says h ≡ refusal_says why) where
  pub plan_refused : (plan : List ℕ) → JudgesPlan h plan (Err (Plan.HandedIn why))
  unfolding judged_plan
  plan_refused plan = record { answer = sym (hands_on h _ why refused) }

  pub claim_refused : (number from to : ℕ) → JudgesClaim h number from to (Err (Claim.HandedIn why))
  unfolding judged_claim judged_sums
  claim_refused number from to =
      record {
        answer = sym (hands_on h _ why refused);
        sums = sym (rw (hands_on h (no_interval when claim_fault (day_in h).table.slots number from to) why refused) (refusal_gives_nothing _ why _ no_sums));
      }

-- ---- a plan, past the check

module _ (h : HandedIn) (d : Day) (plan : List ℕ) (checked : (check_says h ≡ gives tt) × (d ≡ day_in h)) where
  plan_here : (r : Result (Unit {0}) PlanRefusal) → plan_answered r ≡ plan_says d plan → JudgesPlan h plan r
  unfolding judged_plan
  plan_here r e = record { answer = e ∙ ap (λ (x : Day). plan_says x plan) checked.1 ∙ sym (past_check h _ checked.0) }

  pub says_eleven : (length plan ≡ d.table.slots → ⊥) → JudgesPlan h plan (Err (Plan.Plan WrongLength))
  unfolding plan_says
  says_eleven unfit = plan_here _ (rw (ne_eqb _ _ unfit))

  pub says_found : length plan ≡ d.table.slots → (r : Result (Unit {0}) PlanRefusal) → plan_answered r ≡ slots_say d plan → JudgesPlan h plan r
  unfolding plan_says
  says_found fits r said = plan_here r (said ∙ rw (eq-eqb _ _ fits))

-- ---- a claim, past the check

-- what was weighed
module _ (kind : Kind) (d : Day) (from to : ℕ) (sums : Sums) (demand_is : sums.demand ≡ demand_of kind d from to) where
  weighed : sums.supply ≡ supply_of kind d from to → sums ≡ sums_of kind d from to
  unfolding sums_of
  weighed e = rw (← demand_is, ← e)

  pub weighed_time : kind ≡ Time → sums.supply ≡ to - from → sums ≡ sums_of kind d from to
  weighed_time told e = weighed (e ∙ ap (λ (k : Kind). supply_of k d from to) (sym told))

  pub weighed_energy : kind ≡ Energy → (level came : ℕ) → sums.supply ≡ level + came → level ≡ d.table.capacity → came ≡ harvest_of d.harvest from to
      → sums ≡ sums_of kind d from to
  weighed_energy told level came e l c = weighed (e ∙ ap₂ ◌+◌ l c ∙ ap (λ (k : Kind). supply_of k d from to) (sym told))

-- 17 does not apply: an interval of the day
pub claim_in_day : (slots number from to : ℕ) → claim_fault slots number from to ≡ false → (from < to) × (to ≤ slots)
unfolding claim_fault
claim_in_day slots number from to e =
    let kind = not (eqb number (kind_number Time) || eqb number (kind_number Energy)) in
    let order = not (ltb from to) in (
      ltb-true from to (not-false _ (or_parts kind order (or_parts (kind || order) (ltb slots to) e).0).1),
      ltb-false slots to (or_parts (kind || order) (ltb slots to) e).1,
    )

module _ (h : HandedIn) (d : Day) (checked : (check_says h ≡ gives tt) × (d ≡ day_in h)) (number from to : ℕ) where
  asked : claim_fault d.table.slots number from to ≡ claim_fault (day_in h).table.slots number from to
  asked = ap (λ (x : Day). claim_fault x.table.slots number from to) checked.1

  pub judged_seventeen : claim_fault d.table.slots number from to ≡ true → JudgesClaim h number from to (Err Claim.NoInterval)
  unfolding judged_claim claim_says judged_sums
  judged_seventeen is = record { answer = rw (checked.0, sym asked ∙ is); sums = rw (checked.0, sym asked ∙ is) }

  module _ (is : claim_fault d.table.slots number from to ≡ false) (kind : Kind) (told : kind ≡ kind_of number) (sums : Sums) (said : sums ≡ sums_of kind d from to) where
    said_there : sums ≡ sums_of (kind_of number) (day_in h) from to
    said_there = said ∙ ap₂ (λ (k : Kind) (x : Day). sums_of k x from to) told checked.1

    demand_is : sums.demand ≡ demand_of (kind_of number) (day_in h) from to
    unfolding sums_of
    demand_is = ap (λ (x : Sums). x.demand) said_there

    supply_is : sums.supply ≡ supply_of (kind_of number) (day_in h) from to
    unfolding sums_of
    supply_is = ap (λ (x : Sums). x.supply) said_there

    test_is : overloaded (kind_of number) (day_in h) from to ≡ ltb sums.supply sums.demand
    unfolding overloaded
    test_is = sym (ap₂ ltb supply_is demand_is)

    weighs : sums ≡ judged_sums h number from to
    unfolding judged_sums
    weighs = rw (checked.0, sym asked ∙ is) said_there

    pub judged_accepted : sums.supply < sums.demand → JudgesClaim h number from to (Ok sums)
    unfolding judged_claim claim_says
    judged_accepted above = record { answer = rw (checked.0, sym asked ∙ is, test_is ∙ lt-ltb _ _ above); sums = weighs }

    pub judged_eighteen : sums.demand ≤ sums.supply → JudgesClaim h number from to (Err (Claim.NotOverloaded sums))
    unfolding judged_claim claim_says
    judged_eighteen within = record { answer = rw (checked.0, sym asked ∙ is, test_is ∙ le-ltb _ _ within); sums = weighs }
