-- An interval that was weighed is of a kind, and does not end at 0.
use Rattle.judge_words.proofs.Standing.{refused_weighed, accepted_weighed}
use Rattle.judge_words.proofs.print_weighed.Goals as goal

pub weighed-requires : goal.weighed-requires
weighed-requires c = accepted_weighed _ _ _ _ _ c.claim_on_sheet.ensures _ c.in-Ok.is

pub weighed-requires-in-Err-NotOverloaded : goal.weighed-requires-in-Err-NotOverloaded
weighed-requires-in-Err-NotOverloaded c =
    refused_weighed _ _ _ _ _ c.claim_on_sheet.ensures _ _ c.in-Err-NotOverloaded.is c.in-Err-NotOverloaded.field-0-is
