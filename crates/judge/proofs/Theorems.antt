-- The theorems on the judge that are worth quoting. Each speaks of any result that a call's promise allows, once for whatever was handed in, so that no
-- definition stands in between but those that say what evidence is (`specs/Evidence.antt`) and when a refusal is stated (`specs/Stated.antt`).
use Prim.Native.Nat.{ℕ}
use mathlib.Core.Path.{◌≡◌, refl, sym, ap, ap₂, ◌∙◌}
use mathlib.Core.Bool.{Bool, true, false, cond, not}
use mathlib.Core.List.{List}
use mathlib.Core.Logic.Iff
use mathlib.Core.Logic.{◌↔◌, ⊎_elim}
use native.Mathlib.Omega.{arith}
use lib.Dec.{eqb}
use Rattle.sheet.specs.HandedIn.{HandedIn, on_sheet, on_table, day_in, Sound, States}
use Rattle.sheet.specs.Paper.{Check, gives, refuses, refuses_at, ◌when◌, number_of}
use Rattle.sheet.specs.Refusals.{refusal_says}
use Rattle.sheet.specs.Table.{day_of}
use Rattle.sheet.specs.WellFormed.{GoodDay, WellFormed, SheetStates, TableStates, GivenFirst}
use Rattle.sheet.specs.declared.Refusal.{Refusal}
use Rattle.sheet.specs.declared.Table.{Table}
use Rattle.sheet.proofs.HandedIn.{check_leaves, handed_on_exactly, own_exactly}
use Rattle.sheet.proofs.Refusals.{by_refusal, by_refusal_lem, said_one, said_exactly, sheet_has, Own, own_given, own_number, own_else}
use Rattle.plan_slots.specs.Numbers.{fault_says}
use Rattle.plan_slots.specs.declared.PlanFault.{PlanFault}
use Rattle.plan_slots.specs.declared.PlanFault.TheVariants.{WrongLength, NoJob, OutsideWindow, HasAllSlots, LacksCharge, LacksSlots}
use Rattle.plan_slots.proofs.SlotOrder.{fault_meant}
use Rattle.interval.specs.Demand.{overloaded}
use Rattle.judge.specs.Evidence.{AcceptablePlan, AcceptableClaim}
use Rattle.judge.specs.Judge.{plan_says, judged_plan, kind_of, claim_fault, claim_says, judged_claim, sums_of, judged_sums}
use Rattle.judge.specs.Promise.{plan_answered, JudgesPlan, claim_answered, sums_told, JudgesClaim}
use Rattle.judge.specs.Numbers.{no_interval, not_overloaded}
use Rattle.judge.specs.Stated.{PlanGivenFirst, ClaimStated, NotOverloadedStated, SumsAre}
use Rattle.judge.specs.declared.PlanRefusal.{PlanRefusal}
use Rattle.judge.specs.declared.PlanRefusal.TheVariants as Plan
use Rattle.judge.specs.declared.Sums.{Sums}
use Rattle.judge.specs.declared.ClaimRefusal.{ClaimRefusal}
use Rattle.judge.specs.declared.ClaimRefusal.TheVariants as Claim
use Rattle.judge.proofs.Acceptable.{given_exactly, acceptable_exactly}
use Rattle.judge.proofs.ClaimWords.{kind_meant_lem, kind_number_lem, kind_of_number, IsInterval, is_interval, interval_words, claim_accepted, claim_seventeen, claim_eighteen}
use Rattle.judge.proofs.PlanOrder.{decided}
use Rattle.std.specs.Prelude.{Result, Ok, Err}

-- ---- a plan

-- 11 to 16 are numbers that no sheet has
own_fault : (f : PlanFault) → Own (fault_says f)
unfolding sheet_has
own_fault WrongLength = own_number _ refl
own_fault (NoJob i) = own_number _ refl
own_fault (OutsideWindow i) = own_number _ refl
own_fault (HasAllSlots i) = own_number _ refl
own_fault (LacksCharge i) = own_number _ refl
own_fault (LacksSlots k) = own_number _ refl

abbrev handed_plan : Refusal → Result (Unit {0}) PlanRefusal
handed_plan why = Err (Plan.HandedIn why)

own_plan : Check → Result (Unit {0}) PlanRefusal
own_plan (gives x) = Ok tt
own_plan (refuses n) = Err (Plan.Plan (fault_meant (refuses n)))
own_plan (refuses_at n k) = Err (Plan.Plan (fault_meant (refuses_at n k)))

plan_meant : Check → Result (Unit {0}) PlanRefusal
plan_meant a = by_refusal handed_plan (own_plan a) a

plan_back : (p : Result (Unit {0}) PlanRefusal) → plan_meant (plan_answered p) ≡ p
unfolding plan_meant by_refusal own_plan fault_meant
plan_back (Err (Plan.HandedIn why)) = by_refusal_lem _ handed_plan _ why
plan_back (Err (Plan.Plan WrongLength)) = refl
plan_back (Err (Plan.Plan (NoJob i))) = refl
plan_back (Err (Plan.Plan (OutsideWindow i))) = refl
plan_back (Err (Plan.Plan (HasAllSlots i))) = refl
plan_back (Err (Plan.Plan (LacksCharge i))) = refl
plan_back (Err (Plan.Plan (LacksSlots k))) = refl
plan_back (Ok leave) = refl

-- any two results that the promise allows are equal
pub one_judgement : {h : HandedIn} {plan : List ℕ} {r q : Result (Unit {0}) PlanRefusal} → JudgesPlan h plan r → JudgesPlan h plan q → r ≡ q
one_judgement {r = r} {q = q} a b = said_one plan_answered plan_meant plan_back r q (a.answer ∙ sym b.answer)

module _ (h : HandedIn) (plan : List ℕ) (r : Result (Unit {0}) PlanRefusal) (judged : JudgesPlan h plan r) where
  plan_is : (q : Result (Unit {0}) PlanRefusal) → (r ≡ q) ↔ (judged_plan h plan ≡ plan_answered q)
  plan_is q = said_exactly plan_answered plan_meant plan_back r q _ judged.answer

  plan_own : Own (plan_says (day_in h) plan)
  plan_own q e = ⊎_elim (λ c. own_given tt q (sym c.0 ∙ e)) (λ w. own_fault w.0 q (sym w.1 ∙ e)) (decided (day_in h) plan)

  -- a plan is accepted exactly when what was handed in is well formed and the plan is acceptable
  pub plan_accepted_exactly : (r ≡ Ok tt) ↔ (Sound h × AcceptablePlan (day_in h) plan)
  unfolding judged_plan
  plan_accepted_exactly = Iff.trans (plan_is (Ok tt)) (own_exactly h _ (gives tt) (own_given tt) (acceptable_exactly (day_in h) plan))

  -- 11 to 16 are given exactly when each is stated and nothing earlier applies
  pub plan_faulty_exactly : (f : PlanFault) → (r ≡ Err (Plan.Plan f)) ↔ (Sound h × PlanGivenFirst (day_in h) plan f)
  unfolding judged_plan
  plan_faulty_exactly f = Iff.trans (plan_is (Err (Plan.Plan f))) (own_exactly h _ (fault_says f) (own_fault f) (given_exactly (day_in h) plan f))

  -- 1 to 6 are given exactly as every call gives them
  pub judged_refused_exactly : (why : Refusal) → (r ≡ Err (Plan.HandedIn why)) ↔ GivenFirst (States h) why
  unfolding judged_plan
  judged_refused_exactly why = Iff.trans (plan_is (Err (Plan.HandedIn why))) (handed_on_exactly h _ plan_own why)

-- ---- a claim

abbrev handed_claim : Refusal → Result Sums ClaimRefusal
handed_claim why = Err (Claim.HandedIn why)

own_claim : Check → Sums → Result Sums ClaimRefusal
own_claim (gives x) sums = Ok sums
own_claim (refuses n) sums = cond (eqb n (number_of no_interval)) (Err Claim.NoInterval) (Err (Claim.NotOverloaded sums))
own_claim (refuses_at n k) sums = Err Claim.NoInterval

claim_meant : Check → Sums → Result Sums ClaimRefusal
claim_meant a sums = by_refusal handed_claim (own_claim a sums) a

claim_meant_lem : (r : Result Sums ClaimRefusal) → claim_meant (claim_answered r) (sums_told r) ≡ r
unfolding claim_meant by_refusal own_claim
claim_meant_lem (Err (Claim.HandedIn why)) = by_refusal_lem _ handed_claim _ why
claim_meant_lem (Err Claim.NoInterval) = refl
claim_meant_lem (Err (Claim.NotOverloaded sums)) = refl
claim_meant_lem (Ok sums) = refl

claim_one : (r q : Result Sums ClaimRefusal) → claim_answered r ≡ claim_answered q → sums_told r ≡ sums_told q → r ≡ q
claim_one r q e w = sym (claim_meant_lem r) ∙ ap₂ claim_meant e w ∙ claim_meant_lem q

-- any two results that the promise allows are equal
pub one_claim : {h : HandedIn} {number from to : ℕ} {r q : Result Sums ClaimRefusal} → JudgesClaim h number from to r → JudgesClaim h number from to q → r ≡ q
one_claim {r = r} {q = q} a b = claim_one r q (a.answer ∙ sym b.answer) (a.sums ∙ sym b.sums)

module _ (h : HandedIn) (number from to : ℕ) (r : Result Sums ClaimRefusal) (judged : JudgesClaim h number from to r) where
  claim_is : (a : Check) → (claim_answered r ≡ a) ↔ (judged_claim h number from to ≡ a)
  claim_is a = ((λ e. sym judged.answer ∙ e), (λ e. judged.answer ∙ e))

  -- where nothing is weighed, the result is told by its number alone
  told_alone : (q : Result Sums ClaimRefusal) → ((sums : Sums) → claim_meant (claim_answered q) sums ≡ q) → (r ≡ q) ↔ (claim_answered r ≡ claim_answered q)
  told_alone q alone = (ap claim_answered, (λ e. sym (claim_meant_lem r) ∙ ap (λ (a : Check). claim_meant a (sums_told r)) e ∙ alone (sums_told r)))

  claim_own : Own (claim_says (day_in h) number from to)
  unfolding claim_says sheet_has
  claim_own = own_else no_interval (claim_fault (day_in h).table.slots number from to) _ refl (own_last (not (overloaded (kind_of number) (day_in h) from to)))
    where
      own_last : (b : Bool) → Own (not_overloaded when b)
      own_last true = own_number not_overloaded refl
      own_last false = own_given tt

  -- 17 is given exactly when it is stated and nothing earlier applies
  pub claim_seventeen_exactly : (r ≡ Err Claim.NoInterval) ↔ (Sound h × ClaimStated (day_in h).table.slots number from to)
  unfolding judged_claim claim_meant by_refusal own_claim sheet_has
  claim_seventeen_exactly =
      Iff.trans (told_alone (Err Claim.NoInterval) (λ sums. refl))
      (Iff.trans (claim_is no_interval) (own_exactly h _ no_interval (own_number no_interval refl) (claim_seventeen (day_in h) number from to)))

  -- 1 to 6 are given exactly as every call gives them
  pub claimed_refused_exactly : (why : Refusal) → (r ≡ Err (Claim.HandedIn why)) ↔ GivenFirst (States h) why
  unfolding judged_claim claim_meant
  claimed_refused_exactly why =
      Iff.trans (told_alone (Err (Claim.HandedIn why)) (λ sums. by_refusal_lem _ handed_claim _ why))
      (Iff.trans (claim_is (refusal_says why)) (handed_on_exactly h _ claim_own why))

  says_accepted : (claim_answered r ≡ gives tt) ↔ (Sound h × AcceptableClaim (day_in h) number from to)
  unfolding judged_claim
  says_accepted = Iff.trans (claim_is (gives tt)) (own_exactly h _ (gives tt) (own_given tt) (claim_accepted (day_in h) number from to))

  says_eighteen : (claim_answered r ≡ not_overloaded) ↔ (Sound h × ((ClaimStated (day_in h).table.slots number from to → ⊥) × NotOverloadedStated (day_in h) number from to))
  unfolding judged_claim sheet_has
  says_eighteen = Iff.trans (claim_is not_overloaded) (own_exactly h _ not_overloaded (own_number not_overloaded refl) (claim_eighteen (day_in h) number from to))

  -- the sums that are told of an interval of the day are its demand and supply
  module _ (good : Sound h) (i : IsInterval (day_in h).table.slots number from to) where
    told_of_interval : sums_told r ≡ sums_of (kind_of number) (day_in h) from to
    unfolding judged_sums
    told_of_interval = judged.sums ∙ rw ((check_leaves h).1 good, (interval_words (day_in h).table.slots number from to).1 i)

    told_are : (sums : Sums) → sums_told r ≡ sums → SumsAre (day_in h) number from to sums
    unfolding sums_of
    told_are sums e =
        let same = sym e ∙ told_of_interval in
        record {
          kind = kind_of number;
          kind_is = kind_of_number number i.a_kind;
          demand_is = ap (λ (x : Sums). x.demand) same;
          supply_is = ap (λ (x : Sums). x.supply) same;
        }

    are_told : (sums : Sums) → SumsAre (day_in h) number from to sums → sums_told r ≡ sums
    unfolding sums_of
    are_told sums w = told_of_interval ∙ rw (kind_meant_lem number w.kind w.kind_is, ← w.demand_is, ← w.supply_is)

  accepted_interval : AcceptableClaim (day_in h) number from to → IsInterval (day_in h).table.slots number from to
  accepted_interval a =
      let number_is = a.kind_is in
      let most = kind_number_lem a.kind in
      record { a_kind = omega arith; in_order = a.in_order; in_day = a.in_day }

  -- a claim is accepted exactly when what was handed in is well formed and its interval's demand exceeds its supply, and these are the sums that are told
  pub claim_accepted_exactly : (sums : Sums) → (r ≡ Ok sums) ↔ (Sound h × AcceptableClaim (day_in h) number from to × SumsAre (day_in h) number from to sums)
  claim_accepted_exactly sums = (
    (λ e.
        let w = says_accepted.0 (ap claim_answered e) in
        (w.0, w.1, told_are w.0 (accepted_interval w.1) sums (ap sums_told e))),
    (λ w. claim_one r (Ok sums) (says_accepted.1 (w.0, w.1)) (are_told w.0 (accepted_interval w.1) sums w.2)),
  )

  -- 18 is given exactly when it is stated and nothing earlier applies
  pub claim_eighteen_exactly : (sums : Sums) → (r ≡ Err (Claim.NotOverloaded sums))
      ↔ (Sound h × (ClaimStated (day_in h).table.slots number from to → ⊥) × NotOverloadedStated (day_in h) number from to × SumsAre (day_in h) number from to sums)
  claim_eighteen_exactly sums = (
    (λ e.
        let w = says_eighteen.0 (ap claim_answered e) in
        (w.0, w.1.0, w.1.1, told_are w.0 ((is_interval (day_in h).table.slots number from to).0 w.1.0) sums (ap sums_told e))),
    (λ w.
        claim_one r (Err (Claim.NotOverloaded sums)) (says_eighteen.1 (w.0, (w.1, w.2)))
        (are_told w.0 ((is_interval (day_in h).table.slots number from to).0 w.1) sums w.3)),
  )

-- ---- what is acceptable, the judge accepts, and gives no other answer

pub acceptable_is_accepted : (h : HandedIn) (plan : List ℕ) → Sound h → AcceptablePlan (day_in h) plan
    → JudgesPlan h plan (Ok tt) × ((r : Result (Unit {0}) PlanRefusal) → JudgesPlan h plan r → r ≡ Ok tt)
unfolding judged_plan
acceptable_is_accepted h plan good ok =
    let says : judged_plan h plan ≡ gives tt =
    (own_exactly h (plan_says (day_in h) plan) (gives tt) (own_given tt) (acceptable_exactly (day_in h) plan)).1 (good, ok) in
    let is : JudgesPlan h plan (Ok tt) = record { answer = sym says } in
    (is, (λ r judged. one_judgement judged is))

pub overloaded_is_accepted : (h : HandedIn) (number from to : ℕ) → Sound h → AcceptableClaim (day_in h) number from to
    → (sums : Sums) × JudgesClaim h number from to (Ok sums) × ((r : Result Sums ClaimRefusal) → JudgesClaim h number from to r → r ≡ Ok sums)
unfolding judged_claim
overloaded_is_accepted h number from to good ok =
    let says : judged_claim h number from to ≡ gives tt =
    (own_exactly h (claim_says (day_in h) number from to) (gives tt) (own_given tt) (claim_accepted (day_in h) number from to)).1 (good, ok) in
    let is : JudgesClaim h number from to (Ok (judged_sums h number from to)) = record { answer = sym says; sums = refl } in
    (judged_sums h number from to, is, (λ r judged. one_claim judged is))

-- ---- the two ways in, each under its own name

module _ (s : List ℕ) where
  pub sheet_plan_accepted_exactly : (plan : List ℕ) (r : Result (Unit {0}) PlanRefusal) → JudgesPlan (on_sheet s) plan r → (r ≡ Ok tt) ↔ (WellFormed s × AcceptablePlan (day_in (on_sheet s)) plan)
  sheet_plan_accepted_exactly = plan_accepted_exactly (on_sheet s)

  pub sheet_plan_faulty_exactly : (plan : List ℕ) (r : Result (Unit {0}) PlanRefusal) → JudgesPlan (on_sheet s) plan r → (f : PlanFault)
      → (r ≡ Err (Plan.Plan f)) ↔ (WellFormed s × PlanGivenFirst (day_in (on_sheet s)) plan f)
  sheet_plan_faulty_exactly = plan_faulty_exactly (on_sheet s)

  pub judged_sheet_refused_exactly : (plan : List ℕ) (r : Result (Unit {0}) PlanRefusal) → JudgesPlan (on_sheet s) plan r → (why : Refusal) → (r ≡ Err (Plan.HandedIn why)) ↔ GivenFirst (SheetStates s) why
  judged_sheet_refused_exactly = judged_refused_exactly (on_sheet s)

  pub one_sheet_judgement : {plan : List ℕ} {r q : Result (Unit {0}) PlanRefusal} → JudgesPlan (on_sheet s) plan r → JudgesPlan (on_sheet s) plan q → r ≡ q
  one_sheet_judgement = one_judgement

  module _ (number from to : ℕ) (r : Result Sums ClaimRefusal) (judged : JudgesClaim (on_sheet s) number from to r) where
    pub sheet_claim_accepted_exactly : (sums : Sums) → (r ≡ Ok sums)
        ↔ (WellFormed s × AcceptableClaim (day_in (on_sheet s)) number from to × SumsAre (day_in (on_sheet s)) number from to sums)
    sheet_claim_accepted_exactly = claim_accepted_exactly (on_sheet s) number from to r judged

    pub sheet_claim_seventeen_exactly : (r ≡ Err Claim.NoInterval) ↔ (WellFormed s × ClaimStated (day_in (on_sheet s)).table.slots number from to)
    sheet_claim_seventeen_exactly = claim_seventeen_exactly (on_sheet s) number from to r judged

    pub sheet_claim_eighteen_exactly : (sums : Sums) → (r ≡ Err (Claim.NotOverloaded sums))
        ↔ (WellFormed s
        × (ClaimStated (day_in (on_sheet s)).table.slots number from to → ⊥)
        × NotOverloadedStated (day_in (on_sheet s)) number from to
        × SumsAre (day_in (on_sheet s)) number from to sums)
    sheet_claim_eighteen_exactly = claim_eighteen_exactly (on_sheet s) number from to r judged

    pub claimed_sheet_refused_exactly : (why : Refusal) → (r ≡ Err (Claim.HandedIn why)) ↔ GivenFirst (SheetStates s) why
    claimed_sheet_refused_exactly = claimed_refused_exactly (on_sheet s) number from to r judged

  pub one_sheet_claim : {number from to : ℕ} {r q : Result Sums ClaimRefusal} → JudgesClaim (on_sheet s) number from to r → JudgesClaim (on_sheet s) number from to q → r ≡ q
  one_sheet_claim = one_claim

module _ (t : Table) (harvest : List ℕ) where
  pub table_plan_accepted_exactly : (plan : List ℕ) (r : Result (Unit {0}) PlanRefusal) → JudgesPlan (on_table t harvest) plan r → (r ≡ Ok tt) ↔ (GoodDay (day_of t harvest) × AcceptablePlan (day_of t harvest) plan)
  table_plan_accepted_exactly = plan_accepted_exactly (on_table t harvest)

  pub table_plan_faulty_exactly : (plan : List ℕ) (r : Result (Unit {0}) PlanRefusal) → JudgesPlan (on_table t harvest) plan r → (f : PlanFault)
      → (r ≡ Err (Plan.Plan f)) ↔ (GoodDay (day_of t harvest) × PlanGivenFirst (day_of t harvest) plan f)
  table_plan_faulty_exactly = plan_faulty_exactly (on_table t harvest)

  pub judged_table_refused_exactly : (plan : List ℕ) (r : Result (Unit {0}) PlanRefusal) → JudgesPlan (on_table t harvest) plan r → (why : Refusal) → (r ≡ Err (Plan.HandedIn why)) ↔ GivenFirst (TableStates (day_of t harvest)) why
  judged_table_refused_exactly = judged_refused_exactly (on_table t harvest)

  pub one_table_judgement : {plan : List ℕ} {r q : Result (Unit {0}) PlanRefusal} → JudgesPlan (on_table t harvest) plan r → JudgesPlan (on_table t harvest) plan q → r ≡ q
  one_table_judgement = one_judgement

  module _ (number from to : ℕ) (r : Result Sums ClaimRefusal) (judged : JudgesClaim (on_table t harvest) number from to r) where
    pub table_claim_accepted_exactly : (sums : Sums) → (r ≡ Ok sums)
        ↔ (GoodDay (day_of t harvest) × AcceptableClaim (day_of t harvest) number from to × SumsAre (day_of t harvest) number from to sums)
    table_claim_accepted_exactly = claim_accepted_exactly (on_table t harvest) number from to r judged

    pub table_claim_seventeen_exactly : (r ≡ Err Claim.NoInterval) ↔ (GoodDay (day_of t harvest) × ClaimStated t.slots number from to)
    table_claim_seventeen_exactly = claim_seventeen_exactly (on_table t harvest) number from to r judged

    pub table_claim_eighteen_exactly : (sums : Sums) → (r ≡ Err (Claim.NotOverloaded sums))
        ↔ (GoodDay (day_of t harvest)
        × (ClaimStated t.slots number from to → ⊥)
        × NotOverloadedStated (day_of t harvest) number from to
        × SumsAre (day_of t harvest) number from to sums)
    table_claim_eighteen_exactly = claim_eighteen_exactly (on_table t harvest) number from to r judged

    pub claimed_table_refused_exactly : (why : Refusal) → (r ≡ Err (Claim.HandedIn why)) ↔ GivenFirst (TableStates (day_of t harvest)) why
    claimed_table_refused_exactly = claimed_refused_exactly (on_table t harvest) number from to r judged

  pub one_table_claim : {number from to : ℕ} {r q : Result Sums ClaimRefusal} → JudgesClaim (on_table t harvest) number from to r → JudgesClaim (on_table t harvest) number from to q → r ≡ q
  one_table_claim = one_claim
