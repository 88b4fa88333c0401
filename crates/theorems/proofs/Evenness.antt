-- That the theorem on even days says something: day 1 meets its hypotheses, and day 5 shows that it fails without evenness. Both are computed.
use Prim.Native.Nat.{ℕ, zero, suc, ◌<◌, ◌≤◌}
use mathlib.Core.Path.{◌≡◌, refl}
use mathlib.Core.List.{List, [], ◌∷◌}
use native.Mathlib.Omega.{arith}
use lib.ListN.{length}
use Rattle.std.specs.Prelude.{Result, Ok}
use Rattle.sheet.specs.HandedIn.{on_sheet, day_in}
use Rattle.sheet.specs.Lists.{joined, filled}
use Rattle.sheet.specs.Paper.{in_order}
use Rattle.sheet.specs.Refusals.{in_turn}
use Rattle.sheet.specs.Sums.{total, some, harvest_of, harvest_at}
use Rattle.sheet.specs.Table.{counted_as, counts_fault, window_fault, work_fault, job_of}
use Rattle.sheet.specs.Sheet.{record_bytes, trailer_bytes, sheet_bytes, slots_in, table_in, harvest_in, mark_fault, layout_fault, sheet_faults, sheet_says}
use Rattle.sheet.specs.WellFormed.{WellFormed}
use Rattle.sheet.proofs.Stated.{sheet_leaves}
use Rattle.interval.specs.Demand.{demand_of, overloaded}
use Rattle.demand.specs.Search.{is_release, is_deadline, found_at, latest_start, smallest_end}
use Rattle.choice.specs.Choosing.{ready, earliest, chosen, unfinished}
use Rattle.slacks.specs.Slack.{least, pending, slack_time, coming, slack_energy}
use Rattle.rules.specs.Rules.{rule_for, decided, next_state}
use Rattle.slot_run.specs.Run.{first_state, state_at, plan_of}
use Rattle.planner.specs.Plan.{verdict_of, plan_for, plan_left}
use Rattle.planner.specs.Promise.{Plans}
use Rattle.planner.specs.declared.Planned.{Planned}
use Rattle.planner.specs.declared.PlannerRefusal.{PlannerRefusal}
use Rattle.planner.specs.declared.Planned.TheVariants.{Met, Undecided}
use Rattle.theorems.specs.Even.{EvenDay, Decided}
use Rattle.theorems.proofs.Days.{sheet_1, sheet_5, before}
use Rattle.theorems.proofs.Theorems.{even_days_are_decided, undecided_is_not_decided}

-- ---- day 1

well_formed_1 : WellFormed sheet_1
unfolding joined filled in_order in_turn counts_fault window_fault work_fault record_bytes trailer_bytes sheet_bytes mark_fault layout_fault sheet_faults sheet_says
well_formed_1 = (sheet_leaves sheet_1).0 refl

even_1 : EvenDay (day_in (on_sheet sheet_1))
unfolding joined filled counted_as record_bytes trailer_bytes sheet_bytes table_in harvest_in
even_1 = record { costs_one = costs; harvests_at_most_one = harvests }
  where
    costs : (k : ℕ) → k < (table_in sheet_1).count → (job_of (table_in sheet_1) k).energy ≡ 1
    costs zero h = refl
    costs (suc zero) h = refl
    costs (suc (suc k)) h = absurd (omega arith)

    harvests : (i : ℕ) → i < (table_in sheet_1).slots → harvest_at (harvest_in sheet_1) i ≤ 1
    harvests zero h = omega arith
    harvests (suc zero) h = omega arith
    harvests (suc (suc zero)) h = omega arith
    harvests (suc (suc (suc zero))) h = omega arith
    harvests (suc (suc (suc (suc i)))) h = absurd (omega arith)

fits_1 : length (before 4) ≡ slots_in sheet_1
unfolding joined record_bytes trailer_bytes sheet_bytes
fits_1 = refl

planned_1 : Plans (on_sheet sheet_1) (before 4) (Ok Met) (255 ∷ 1 ∷ 0 ∷ 255 ∷ [])
unfolding joined filled in_order in_turn total some counted_as harvest_of counts_fault window_fault work_fault record_bytes trailer_bytes sheet_bytes table_in harvest_in mark_fault layout_fault sheet_faults sheet_says demand_of overloaded is_release is_deadline found_at latest_start smallest_end ready earliest chosen unfinished least pending slack_time coming slack_energy rule_for decided next_state first_state state_at plan_of verdict_of plan_for plan_left
planned_1 = record { answer = refl; buffer = refl }

-- every hypothesis of `even_days_are_decided` holds of day 1, and so does what it concludes
pub day_1_meets_the_hypotheses : WellFormed sheet_1
    × EvenDay (day_in (on_sheet sheet_1))
    × (length (before 4) ≡ slots_in sheet_1)
    × Plans (on_sheet sheet_1) (before 4) (Ok Met) (255 ∷ 1 ∷ 0 ∷ 255 ∷ [])
day_1_meets_the_hypotheses = (well_formed_1, even_1, fits_1, planned_1)

pub day_1_is_decided : Decided (on_sheet sheet_1) (before 4) (Ok Met) (255 ∷ 1 ∷ 0 ∷ 255 ∷ [])
day_1_is_decided = even_days_are_decided sheet_1 (before 4) well_formed_1 even_1 fits_1 (Ok Met) _ planned_1

-- ---- day 5

well_formed_5 : WellFormed sheet_5
unfolding joined filled in_order in_turn counts_fault window_fault work_fault record_bytes trailer_bytes sheet_bytes mark_fault layout_fault sheet_faults sheet_says
well_formed_5 = (sheet_leaves sheet_5).0 refl

fits_5 : length (before 9) ≡ slots_in sheet_5
unfolding joined record_bytes trailer_bytes sheet_bytes
fits_5 = refl

undecided_5 : Plans (on_sheet sheet_5) (before 9) (Ok (Undecided 1)) (0 ∷ 1 ∷ 1 ∷ 1 ∷ 255 ∷ 0 ∷ 0 ∷ 255 ∷ 255 ∷ [])
unfolding joined filled in_order in_turn total some counted_as harvest_of counts_fault window_fault work_fault record_bytes trailer_bytes sheet_bytes table_in harvest_in mark_fault layout_fault sheet_faults sheet_says demand_of overloaded is_release is_deadline found_at latest_start smallest_end ready earliest chosen unfinished least pending slack_time coming slack_energy rule_for decided next_state first_state state_at plan_of verdict_of plan_for plan_left
undecided_5 = record { answer = refl; buffer = refl }

-- without evenness the theorem fails
pub evenness_is_needed :
    ((s plan : List ℕ) → WellFormed s → length plan ≡ slots_in s → (r : Result Planned PlannerRefusal) (after : List ℕ) → Plans (on_sheet s) plan r after → Decided (on_sheet s) plan r after) → ⊥
evenness_is_needed without = undecided_is_not_decided _ _ _ _ (without sheet_5 (before 9) well_formed_5 fits_5 _ _ undecided_5)
