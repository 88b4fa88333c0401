-- Document 01's days 1 to 11, shown of the definitions themselves: one table, one statement. Sheet bytes go in; the planner's answer and plan, or the
-- judge's answer, come out.
use Prim.Native.Nat.{ℕ}
use mathlib.Core.Path.{◌≡◌, refl}
use mathlib.Core.List.{List, [], ◌∷◌}
use lib.ListN.{length, replicate}
use Rattle.sheet.specs.HandedIn.{on_sheet}
use Rattle.sheet.specs.Lists.{joined, filled}
use Rattle.sheet.specs.Paper.{Check, gives, refuses, refuses_at, in_order}
use Rattle.sheet.specs.Refusals.{in_turn}
use Rattle.sheet.specs.Sums.{total, some, harvest_of}
use Rattle.sheet.specs.Table.{counted_as, counts_fault, window_fault, work_fault}
use Rattle.sheet.specs.Sheet.{record_bytes, trailer_bytes, sheet_bytes, table_in, harvest_in, mark_fault, layout_fault, sheet_faults, sheet_says}
use Rattle.sheet.specs.declared.Job.{Job}
use Rattle.interval.specs.Demand.{kind_number, demand_of, overloaded}
use Rattle.demand.specs.Search.{is_release, is_deadline, found_at, latest_start, smallest_end}
use Rattle.interval.specs.declared.Kind.{Kind}
use Rattle.interval.specs.declared.Kind.TheVariants.{Time, Energy}
use Rattle.choice.specs.Choosing.{ready, earliest, chosen, unfinished}
use Rattle.slacks.specs.Slack.{least, pending, slack_time, coming, slack_energy}
use Rattle.rules.specs.Rules.{rule_for, decided, next_state}
use Rattle.slot_run.specs.Run.{first_state, state_at, plan_of}
use Rattle.planner.specs.Plan.{Verdict, met, undecided, verdict_of, plan_for, plan_left}
use Rattle.planner.specs.Plan as Plan
use Rattle.plan_slots.specs.Plan.{slots_got, spent_in, level_at}
use Rattle.plan_slots.specs.Slots.{names_nothing, job_says, slot_says, slots_say}
use Rattle.judge.specs.Judge.{plan_says, judged_plan, claim_fault, claim_says, judged_claim, sums_of, judged_sums}

-- ---- what goes in

-- "Jobs as (release, deadline, slots, energy)"
abbrev j : ℕ → ℕ → ℕ → ℕ → Job
j release deadline wanted energy = record { release = release; deadline = deadline; wanted = wanted; energy = energy }

-- the bytes of a sheet with this capacity, harvest and jobs
abbrev sheet_of : ℕ → List ℕ → List Job → List ℕ
sheet_of capacity harvest jobs =
    sheet_bytes (record { jobs = jobs; count = length jobs; slots = length harvest; capacity = capacity }) harvest

abbrev pub sheet_1 : List ℕ
sheet_1 = sheet_of 1 (0 ∷ 0 ∷ 1 ∷ 0 ∷ []) (j 0 4 1 1 ∷ j 1 2 1 1 ∷ [])

abbrev sheet_4 : List ℕ
sheet_4 = sheet_of 1 (0 ∷ []) (j 0 1 1 1 ∷ j 0 1 1 1 ∷ [])

abbrev pub sheet_5 : List ℕ
sheet_5 = sheet_of 4 (replicate 9 2) (j 0 9 3 3 ∷ j 1 5 4 3 ∷ [])

-- a plan buffer before the call holds the same byte in every slot
abbrev pub before : ℕ → List ℕ
before slots = replicate slots 0xA5

-- ---- what is asked, and what must come out

pub data Row : Type 0 where
  -- these are the bytes of the sheet
  reads : (sheet bytes : List ℕ) → Row
  -- the planner, lent a buffer of so many slots: its answer, and the buffer after
  plans : (sheet : List ℕ) (slots : ℕ) (answer : Verdict) (after : List ℕ) → Row
  -- the judge of a plan
  judges : (sheet plan : List ℕ) (answer : Check) → Row
  -- the judge of a claim, with the demand and the supply that are told
  weighs : (sheet : List ℕ) (kind : Kind) (from to : ℕ) (answer : Check) (demand supply : ℕ) → Row

abbrev over : Kind → ℕ → ℕ → ℕ → ℕ → Verdict
over kind from to demand supply = Plan.overloaded (record { kind = kind_number kind; from = from; to = to; demand = demand; supply = supply })

-- the paper's table, each row behind the number of its day
record Numbered : Type 0 where
  day : ℕ
  row : Row

infix 15 ◌is◌
abbrev ◌is◌ : ℕ → Row → Numbered
n is r = record { day = n; row = r }

abbrev days : List Numbered
days =
    (1 is plans sheet_1 4 met (255 ∷ 1 ∷ 0 ∷ 255 ∷ []))
    ∷ (1 is reads sheet_1 (0x00 ∷ 0x00 ∷ 0x04 ∷ 0x00 ∷ 0x01 ∷ 0x00 ∷ 0x01 ∷ 0x00 ∷ 0x01 ∷ 0x00 ∷ 0x02 ∷ 0x00 ∷ 0x01 ∷ 0x00 ∷ 0x01 ∷ 0x00 ∷ 0x00 ∷ 0x00 ∷ 0x01 ∷ 0x00 ∷ 0x04 ∷ 0x00 ∷ 0x14 ∷ 0x00 ∷ 0x02 ∷ 0x00 ∷ 0x04 ∷ 0x00 ∷ 0x01 ∷ 0x00 ∷ 0x45 ∷ 0x48 ∷ []))
    ∷ (2 is plans (sheet_of 1 (replicate 4 0) (j 0 4 1 1 ∷ j 1 2 1 1 ∷ [])) 4 (over Energy 0 4 2 1) (before 4))
    ∷ (3 is plans (sheet_of 2 (0 ∷ []) (j 0 1 1 1 ∷ j 0 1 1 1 ∷ [])) 1 (over Time 0 1 2 1) (before 1))
    ∷ (4 is plans sheet_4 1 (over Time 0 1 2 1) (before 1))
    ∷ (4 is weighs sheet_4 Time 0 1 (gives tt) 2 1)
    ∷ (4 is weighs sheet_4 Energy 0 1 (gives tt) 2 1)
    ∷ (5 is plans sheet_5 9 (undecided 1) (0 ∷ 1 ∷ 1 ∷ 1 ∷ 255 ∷ 0 ∷ 0 ∷ 255 ∷ 255 ∷ []))
    ∷ (6 is plans (sheet_of 5 (0 ∷ 0 ∷ []) (j 0 2 3 1 ∷ [])) 2 (over Time 0 2 3 2) (before 2))
    ∷ (7 is plans (sheet_of 0 (0 ∷ []) []) 1 met (255 ∷ []))
    ∷ (8 is plans (sheet_of 0 (1 ∷ 1 ∷ []) (j 0 2 2 1 ∷ [])) 2 met (0 ∷ 0 ∷ []))
    ∷ (9 is judges sheet_1 (255 ∷ 1 ∷ 0 ∷ 255 ∷ []) (gives tt))
    ∷ (9 is judges sheet_1 (0 ∷ 1 ∷ 255 ∷ 255 ∷ []) (refuses_at 15 1))
    ∷ (10 is judges sheet_5 (255 ∷ 1 ∷ 1 ∷ 1 ∷ 1 ∷ 255 ∷ 0 ∷ 0 ∷ 255 ∷ []) (refuses_at 16 0))
    ∷ (11 is weighs sheet_1 Energy 0 4 (refuses 18) 2 2)
    ∷ []

-- a row comes out as it must
abbrev Right : Row → Type 0
Right (reads sheet bytes) = sheet ≡ bytes
Right (plans sheet slots answer after) = (plan_for (on_sheet sheet) (before slots) ≡ gives answer) × (plan_left (on_sheet sheet) (before slots) ≡ after)
Right (judges sheet plan answer) = judged_plan (on_sheet sheet) plan ≡ answer
Right (weighs sheet kind from to answer demand supply) =
    (judged_claim (on_sheet sheet) (kind_number kind) from to ≡ answer)
    × (judged_sums (on_sheet sheet) (kind_number kind) from to ≡ record { demand = demand; supply = supply })

abbrev All : List Numbered → Type 0
All [] = Unit {0}
All (d ∷ ds) = Right d.row × All ds

pub days_are_right : All days
unfolding joined filled in_order in_turn total some counted_as harvest_of counts_fault window_fault work_fault record_bytes trailer_bytes sheet_bytes table_in harvest_in mark_fault layout_fault sheet_faults sheet_says demand_of overloaded is_release is_deadline found_at latest_start smallest_end ready earliest chosen unfinished least pending slack_time coming slack_energy rule_for decided next_state first_state state_at plan_of verdict_of plan_for plan_left slots_got spent_in level_at names_nothing job_says slot_says slots_say plan_says judged_plan claim_fault claim_says judged_claim sums_of judged_sums
days_are_right =
    ((refl, refl), (refl, ((refl, refl), ((refl, refl), ((refl, refl), ((refl, refl), ((refl, refl), ((refl, refl), ((refl, refl), ((refl, refl), ((refl, refl), (refl, (refl, (refl, ((refl, refl), tt)))))))))))))))
