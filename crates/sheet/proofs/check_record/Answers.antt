-- Each return follows what the two faults answered, 5 before 6.
use Prim.Native.Nat.{ℕ}
use mathlib.Core.Path.{◌≡◌, sym, ◌∙◌}
use mathlib.Core.Bool.{Bool, true, false}
use Rattle.sheet.specs.Paper.{gives}
use Rattle.sheet.specs.Refusals.{refusal_says, record_says}
use Rattle.sheet.specs.Table.{window_fault, work_fault}
use Rattle.sheet.specs.declared.Refusal.TheVariants.{Window, Work}
use Rattle.sheet.specs.declared.Job.{Job}
use Rattle.sheet.proofs.check_record.Goals as goal

module _ (slots : ℕ) (j : Job) (last k : ℕ) where
  five : {window : Bool} → window ≡ window_fault slots j → window ≡ true → refusal_says (Window k) ≡ record_says (window_fault slots j) (work_fault j last) k
  five asked is = rw (sym asked ∙ is)

  six : {window work : Bool} → window ≡ window_fault slots j → window ≡ false → work ≡ work_fault j last → work ≡ true → refusal_says (Work k) ≡ record_says (window_fault slots j) (work_fault j last) k
  six asked is asked₂ is₂ = rw (sym asked ∙ is, sym asked₂ ∙ is₂)

  fine : {window work : Bool} → window ≡ window_fault slots j → window ≡ false → work ≡ work_fault j last → work ≡ false → gives tt ≡ record_says (window_fault slots j) (work_fault j last) k
  fine asked is asked₂ is₂ = rw (sym asked ∙ is, sym asked₂ ∙ is₂)

ruleset faults = (five, six, fine)

pub returns-then-window_fault : goal.returns-then-window_fault
returns-then-window_fault c = search faults

pub returns-then-work_fault : goal.returns-then-work_fault
returns-then-work_fault c = search faults

pub returns : goal.returns
returns c = search faults
