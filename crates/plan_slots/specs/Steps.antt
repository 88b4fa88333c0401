-- What the pass's own steps hand each other. No promise of a public call rests on this page.
use Rattle.std.specs.Prelude.{ℕ, min, ◌+◌, ◌-◌, ◌≡◌, List, Result, Ok, Err, ltb, get_or}
use Rattle.sheet.specs.Paper.{Check, gives, ◌when◌, in_order}
use Rattle.sheet.specs.Table.{job_of}
use Rattle.sheet.specs.declared.Job.{Job}
use Rattle.sheet.specs.declared.Table.{Table}
use Rattle.plan_slots.specs.Numbers.{fault_says}
use Rattle.plan_slots.specs.Slots.{job_says}
use Rattle.plan_slots.specs.declared.PlanFault.{PlanFault}
use Rattle.plan_slots.specs.declared.PlanFault.TheVariants.{LacksSlots}

-- what a slot of a job leaves: a slot more for the job and the level where 13, 14 and 15 do not refuse it
abbrev pub JobLeaves : Job → (i capacity charge got after : ℕ) → Result ℕ PlanFault → Type 0
JobLeaves j i capacity charge got after (Ok level) =
    (job_says j i got charge ≡ gives tt) × (after ≡ got + 1) × (level ≡ min capacity (charge - j.energy))
JobLeaves j i capacity charge got after (Err f) = fault_says f ≡ job_says j i got charge

-- 16, by the slots that each job got: of job k, and of all
abbrev pub end_by : Table → List ℕ → ℕ → Check
end_by t got k = fault_says (LacksSlots k) when ltb (get_or got k 0) (job_of t k).wanted

unfoldable pub ends_by : Table → List ℕ → Check
ends_by t got = in_order (end_by t got) t.count
