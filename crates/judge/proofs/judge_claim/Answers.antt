-- The refusal of what was handed in, 17, or the two sums compared.
use mathlib.Core.Path.{◌≡◌, ap₂, ◌∙◌, subst}
use Rattle.std.proofs.Common.{ℕ, ◌<◌, ◌≤◌}
use Rattle.sheet.proofs.Residual.{err_is}
use Rattle.sheet.specs.Checked.{Checks, the_day}
use Rattle.judge.specs.Judge.{sums_of}
use Rattle.judge.proofs.Promised.{claim_refused, claim_in_day, judged_seventeen, judged_accepted, judged_eighteen}
use Rattle.judge.proofs.judge_claim.Goals.{In_ok-claim, After-weigh-sums}
use Rattle.judge.proofs.judge_claim.Goals as goal

-- an interval of the day
in_day : (c : In_ok-claim) → (c.in_ok-claim.claim.from < c.in_ok-claim.claim.to) × (c.in_ok-claim.claim.to ≤ c.in_ok-day.day.table.now.slots)
in_day c =
    let named = c.in_ok-claim.ensures in
    rw (named.2, named.3) (claim_in_day _ _ _ _ named.0)

-- what was weighed
weighed : (c : After-weigh-sums) → c.weigh-sums.result ≡ sums_of c.in_ok-claim.claim.kind (the_day c.in_ok-day.day) c.args.start c.args.end
weighed c =
    let named = c.in_ok-claim.ensures in
    c.weigh-sums.ensures ∙ ap₂ (λ (from to : ℕ). sums_of c.in_ok-claim.claim.kind (the_day c.in_ok-day.day) from to) named.2 named.3

pub returns-in_err-day : goal.returns-in_err-day
returns-in_err-day c h checks =
    rw (err_is _ c.from_residual.ensures.1) (claim_refused h _ (subst (Checks h) c.in_err-day.was checks) _ _ _)

pub returns-in_err-claim : goal.returns-in_err-claim
returns-in_err-claim c h checks =
    let seventeen = c.in_err-claim.ensures in
    rw (err_is _ c.from_residual-in_err-claim.ensures.1, seventeen.1) (judged_seventeen h _ (subst (Checks h) c.in_ok-day.was checks) _ _ _ seventeen.0)

pub weigh-sums-requires : goal.weigh-sums-requires
weigh-sums-requires c = in_day c

pub returns-then-sums : goal.returns-then-sums
returns-then-sums c h checks =
    let named = c.in_ok-claim.ensures in
    judged_accepted h _ (subst (Checks h) c.in_ok-day.was checks) _ _ _ named.0 _ named.1 _ (weighed (goal.at.returns-then-sums c).After-weigh-sums) c.if-sums.true

pub returns-else-sums : goal.returns-else-sums
returns-else-sums c h checks =
    let named = c.in_ok-claim.ensures in
    judged_eighteen h _ (subst (Checks h) c.in_ok-day.was checks) _ _ _ named.0 _ named.1 _ (weighed (goal.at.returns-else-sums c).After-weigh-sums) c.if-sums.false
