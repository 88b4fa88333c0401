-- "Refusal numbers": the number of each refusal of a plan, once, and the place that it names.
use Rattle.std.specs.Prelude.{⊤, Result, Ok, Err}
use Rattle.sheet.specs.Paper.{Check, gives, refuses, refuses_at}
use Rattle.plan_slots.specs.declared.PlanFault.{PlanFault}
use Rattle.plan_slots.specs.declared.PlanFault.TheVariants.{WrongLength, NoJob, OutsideWindow, HasAllSlots, LacksCharge, LacksSlots}

-- a plan's refusal as the paper writes it: 12 to 15 name the slot, 16 the job
abbrev pub fault_says : PlanFault → Check
fault_says WrongLength = refuses 11
fault_says (NoJob i) = refuses_at 12 i
fault_says (OutsideWindow i) = refuses_at 13 i
fault_says (HasAllSlots i) = refuses_at 14 i
fault_says (LacksCharge i) = refuses_at 15 i
fault_says (LacksSlots k) = refuses_at 16 k

-- what a part of a plan is found to be
abbrev pub finding_says : Result ⊤ PlanFault → Check
finding_says (Ok _) = gives tt
finding_says (Err f) = fault_says f
