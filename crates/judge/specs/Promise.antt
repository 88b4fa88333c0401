-- What the judge promises, for anything handed in, any plan and any claim. A plan that is judged is read and never written.
use Rattle.std.specs.Prelude.{ℕ, ◌≡◌, List, Result, Ok, Err}
use Rattle.sheet.specs.HandedIn.{HandedIn}
use Rattle.sheet.specs.Paper.{Check, gives}
use Rattle.sheet.specs.Refusals.{refusal_says}
use Rattle.plan_slots.specs.Numbers.{fault_says}
use Rattle.judge.specs.Judge.{judged_plan, judged_claim, no_sums, judged_sums}
use Rattle.judge.specs.Numbers.{no_interval, not_overloaded}
use Rattle.judge.specs.declared.PlanRefusal.{PlanRefusal}
use Rattle.judge.specs.declared.PlanRefusal.TheVariants as Plan
use Rattle.judge.specs.declared.Sums.{Sums}
use Rattle.judge.specs.declared.ClaimRefusal.{ClaimRefusal}
use Rattle.judge.specs.declared.ClaimRefusal.TheVariants as Claim

-- the answer to a plan as the paper writes it
abbrev pub plan_answered : Result (Unit {0}) PlanRefusal → Check
plan_answered (Err (Plan.HandedIn r)) = refusal_says r
plan_answered (Err (Plan.Plan f)) = fault_says f
plan_answered (Ok leave) = gives tt

pub record JudgesPlan (h : HandedIn) (plan : List ℕ) (r : Result (Unit {0}) PlanRefusal) : Type 0 where
  pub answer : plan_answered r ≡ judged_plan h plan

-- the answer to a claim as the paper writes it, and the sums that it tells
abbrev pub claim_answered : Result Sums ClaimRefusal → Check
claim_answered (Err (Claim.HandedIn r)) = refusal_says r
claim_answered (Err Claim.NoInterval) = no_interval
claim_answered (Err (Claim.NotOverloaded sums)) = not_overloaded
claim_answered (Ok sums) = gives tt

abbrev pub sums_told : Result Sums ClaimRefusal → Sums
sums_told (Err (Claim.HandedIn r)) = no_sums
sums_told (Err Claim.NoInterval) = no_sums
sums_told (Err (Claim.NotOverloaded sums)) = sums
sums_told (Ok sums) = sums

pub record JudgesClaim (h : HandedIn) (number from to : ℕ) (r : Result Sums ClaimRefusal) : Type 0 where
  pub answer : claim_answered r ≡ judged_claim h number from to
  pub sums : sums_told r ≡ judged_sums h number from to
