-- "The planner's answer", on whatever was handed in.
use Rattle.std.specs.Prelude.{ℕ, List, not, eqb, length, Option, Some, None}
use Rattle.sheet.specs.HandedIn.{HandedIn, check_says, day_in}
use Rattle.sheet.specs.Paper.{Paper, gives, refuses, ◌when◌, ◌else◌, where_given}
use Rattle.sheet.specs.Table.{Day}
use Rattle.demand.specs.Search.{Interval, overload_says, first_overload}
use Rattle.demand.specs.declared.Overload.{Overload}
use Rattle.choice.specs.Choosing.{unfinished}
use Rattle.slot_run.specs.Run.{state_at, plan_of}

-- the answer to a day that is planned
pub data Verdict : Type 0 where
  overloaded : Interval → Verdict
  met : Verdict
  undecided : (job : ℕ) → Verdict

-- "met if every job got its slots, else undecided with the job unfinished at the smallest deadline, ties the lowest number"
abbrev pub by_unfinished : Option ℕ → Verdict
by_unfinished None = met
by_unfinished (Some k) = undecided k

-- "Overloaded interval: that interval .. Else the run"
abbrev pub by_found : Option Overload → Verdict → Verdict
by_found (Some o) run = overloaded (overload_says o)
by_found None run = run

unfoldable pub verdict_of : Day → Verdict
verdict_of d = by_found (first_overload d) (by_unfinished (unfinished d (state_at d d.table.slots)))

-- 7: plan buffer's length is not slots
abbrev pub wrong_plan : {A : Type 0} → Paper A
wrong_plan = refuses 7

-- the check, then 7, then the verdict
unfoldable pub plan_for : HandedIn → List ℕ → Paper Verdict
plan_for h plan = check_says h else wrong_plan when not (eqb (length plan) (day_in h).table.slots) else gives (verdict_of (day_in h))

-- "plan buffer untouched" where the day is overloaded; else "the run is written"
abbrev pub buffer_by : Verdict → List ℕ → List ℕ → List ℕ
buffer_by (overloaded o) run plan = plan
buffer_by met run plan = run
buffer_by (undecided k) run plan = run

unfoldable pub plan_left : HandedIn → List ℕ → List ℕ
plan_left h plan = where_given (plan_for h plan) (buffer_by (verdict_of (day_in h)) (plan_of (day_in h)) plan) plan
