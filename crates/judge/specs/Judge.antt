-- The judge's answer: "For a plan: 11, then slot by slot 12, 13, 14, 15, then 16. A claim is a kind, a start and an end: 17, then 18." Before them, 1 to 6.
use Rattle.std.specs.Prelude.{ℕ, List, Bool, cond, not, ◌||◌, ltb, eqb, length}
use Rattle.sheet.specs.HandedIn.{HandedIn, check_says, day_in}
use Rattle.sheet.specs.Paper.{Check, ◌when◌, ◌else◌, where_given}
use Rattle.sheet.specs.Table.{Day}
use Rattle.plan_slots.specs.Numbers.{fault_says}
use Rattle.plan_slots.specs.Slots.{slots_say}
use Rattle.plan_slots.specs.declared.PlanFault.TheVariants.{WrongLength}
use Rattle.interval.specs.Demand.{kind_number, demand_of, supply_of, overloaded}
use Rattle.interval.specs.declared.Kind.{Kind}
use Rattle.interval.specs.declared.Kind.TheVariants.{Time, Energy}
use Rattle.judge.specs.Numbers.{no_interval, not_overloaded}
use Rattle.judge.specs.declared.Sums.{Sums}

-- ---- a plan

-- "judged plan's length is not slots", and then the slots
unfoldable pub plan_says : Day → List ℕ → Check
plan_says d plan = fault_says WrongLength when not (eqb (length plan) d.table.slots) else slots_say d plan

-- on what is checked first
unfoldable pub judged_plan : HandedIn → List ℕ → Check
judged_plan h plan = check_says h else plan_says (day_in h) plan

-- ---- a claim: the number of a kind, and the slots from .. to - 1

-- the kind of that number, where it is one
abbrev pub kind_of : ℕ → Kind
kind_of number = cond (eqb number (kind_number Time)) Time Energy

-- "claim's kind neither 0 (time) nor 1 (energy), start not below end, or end above slots"
unfoldable pub claim_fault : ℕ → ℕ → ℕ → ℕ → Bool
claim_fault slots number from to =
    not (eqb number (kind_number Time) || eqb number (kind_number Energy)) || not (ltb from to) || ltb slots to

-- 17, and then 18, "claimed interval is not overloaded in the claimed kind"
unfoldable pub claim_says : Day → (number from to : ℕ) → Check
claim_says d number from to =
    no_interval when claim_fault d.table.slots number from to
    else not_overloaded when not (overloaded (kind_of number) d from to)

unfoldable pub judged_claim : HandedIn → (number from to : ℕ) → Check
judged_claim h number from to = check_says h else claim_says (day_in h) number from to

-- the demand and the supply of an interval in a kind
unfoldable pub sums_of : Kind → Day → (from to : ℕ) → Sums
sums_of kind d from to = record { demand = demand_of kind d from to; supply = supply_of kind d from to }

abbrev pub no_sums : Sums
no_sums = record { demand = 0; supply = 0 }

-- those of the claimed interval in the claimed kind; both 0 where 1 to 6 or 17 refuse
unfoldable pub judged_sums : HandedIn → (number from to : ℕ) → Sums
judged_sums h number from to =
    where_given (check_says h else no_interval when claim_fault (day_in h).table.slots number from to) (sums_of (kind_of number) (day_in h) from to) no_sums
