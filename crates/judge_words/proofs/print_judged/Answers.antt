-- What a refusal names stands in the plan and in the table that was read.
use Rattle.judge_words.proofs.Standing.{named}
use Rattle.judge_words.proofs.print_judged.Goals as goal

pub print_fault-requires : goal.print_fault-requires
print_fault-requires c = named _ _ c.read-reading.ensures _ _ c.plan_on_sheet.ensures _ c.in-Err-Plan.is _ c.in-Err-Plan.field-0-is
