-- What is said of a plan's slots: "slot by slot 12, 13, 14, 15, then 16".
use Rattle.std.specs.Prelude.{ℕ, ◌+◌, List, Bool, cond, not, ◌&&◌, ◌||◌, ltb, leb, eqb}
use Rattle.sheet.specs.Paper.{Check, gives, ◌when◌, ◌else◌, in_order}
use Rattle.sheet.specs.Sums.{harvest_at}
use Rattle.sheet.specs.Table.{idle_byte, job_of, Day}
use Rattle.sheet.specs.declared.Job.{Job}
use Rattle.plan_slots.specs.Numbers.{fault_says}
use Rattle.plan_slots.specs.Plan.{byte_of, names_job, slots_got, level_at}
use Rattle.plan_slots.specs.declared.PlanFault.TheVariants.{NoJob, OutsideWindow, HasAllSlots, LacksCharge, LacksSlots}

-- "a plan byte is neither 255 nor a job's number"
unfoldable pub names_nothing : Day → List ℕ → ℕ → Bool
names_nothing d plan i = not (eqb (byte_of plan i) idle_byte || names_job d plan i)

-- "that job may not run in that slot"
abbrev pub outside_window : Job → ℕ → Bool
outside_window j i = not (leb j.release i && ltb i j.deadline)

-- "that job already has all its slots": it got so many before
abbrev pub has_all_slots : Job → ℕ → Bool
has_all_slots j got = leb j.wanted got

-- "level plus the slot's harvest is below that job's energy"
abbrev pub lacks_charge : Job → ℕ → Bool
lacks_charge j charge = ltb charge j.energy

-- slot i, of a job that got so many slots before and finds that much charge: 13, 14, 15
unfoldable pub job_says : Job → (i got charge : ℕ) → Check
job_says j i got charge =
    fault_says (OutsideWindow i) when outside_window j i
    else fault_says (HasAllSlots i) when has_all_slots j got
    else fault_says (LacksCharge i) when lacks_charge j charge

-- slot i of a plan: 12, and then its job
unfoldable pub slot_says : Day → List ℕ → ℕ → Check
slot_says d plan i =
    fault_says (NoJob i) when names_nothing d plan i
    else cond (names_job d plan i)
    (job_says (job_of d.table (byte_of plan i)) i (slots_got plan (byte_of plan i) i) (level_at d plan i + harvest_at d.harvest i))
    (gives tt)

-- "after the last slot a job lacks slots"
abbrev pub end_says : Day → List ℕ → ℕ → Check
end_says d plan k = fault_says (LacksSlots k) when ltb (slots_got plan k d.table.slots) (job_of d.table k).wanted

-- slot by slot, and then 16, "lowest such job named"
unfoldable pub slots_say : Day → List ℕ → Check
slots_say d plan = in_order (slot_says d plan) d.table.slots else in_order (end_says d plan) d.table.count
