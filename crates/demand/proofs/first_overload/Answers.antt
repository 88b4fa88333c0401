-- The loop keeps: nothing is found up to the slot `after`.
use Prim.Native.Nat.{ℕ}
use mathlib.Core.Path.{◌≡◌, sym, ◌∙◌}
use mathlib.Core.List.{List}
use native.Mathlib.Omega.{arith}
use Rattle.sheet.specs.Table.{day_of}
use Rattle.totals.specs.Totals.{Summed}
use Rattle.demand.specs.Search.{smallest_end}
use Rattle.demand.proofs.Loops.{totalled, ends_first, ends_next, ends_stay, ends_none}
use Rattle.demand.proofs.first_overload.Goals.{After-latest_start-found}
use Rattle.demand.proofs.first_overload.Goals as goal

-- what `latest_start` finds is what is found up to this end
up_to : (c : After-latest_start-found) (harvest : List ℕ) → Summed (day_of c.args.t.now harvest) c.args.totals.now
    → smallest_end (day_of c.args.t.now harvest) c.in-Some.to ≡ c.latest_start-found.result
up_to c harvest summed =
    let d = day_of c.args.t.now harvest in
    let is = c.due_by.ensures in
    let found = rw (is.same_table, is.same_totals, is.end) at (c.latest_start-found.ensures harvest) in
    ends_next d c.loop-to.after (c.loop-to.invariant.1 harvest summed) c.in-Some.to c.in-Some.ensures ∙ sym (found summed)

-- the day that is searched is accepted
pub invariant_of-day : goal.invariant_of-day
invariant_of-day c = record { few = c.requires.1.good.few_jobs; by_columns = c.by_columns-columns.ensures; totalled = totalled _ _ c.requires.1 }

pub loop-to-init : goal.loop-to-init
loop-to-init c = (omega arith, λ harvest summed. ends_first _)

pub loop-to-preserved : goal.loop-to-preserved
loop-to-preserved c =
    let here = goal.at.loop-to-preserved c in
    (c.in-Some.ensures.in_day, λ harvest summed. up_to here.After-latest_start-found harvest summed ∙ c.in_default-found.is)

pub loop-to-smaller : goal.loop-to-smaller
loop-to-smaller c =
    let next = c.in-Some.ensures in
    omega arith

pub returns-in-Some-found : goal.returns-in-Some-found
returns-in-Some-found c harvest summed =
    let here = goal.at.returns-in-Some-found c in
    let found = c.in-Some-found.is in
    found ∙ sym (ends_stay _ _ _ _ c.in-Some.ensures.in_day (up_to here.After-latest_start-found harvest summed ∙ found))

pub returns : goal.returns
returns c harvest summed =
    let kept = c.loop-to.invariant in
    sym (ends_none (day_of c.args.t.now harvest) c.loop-to.after (kept.1 harvest summed) kept.0 (rw c.in_default.is at c.next_deadline.ensures))
