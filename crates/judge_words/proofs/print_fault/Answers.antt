-- What the refusal names stands.
use Rattle.judge_words.proofs.Standing.{slot_in_plan, slot_is_jobs_13, slot_is_jobs_14, slot_is_jobs_15, job_in_table}
use Rattle.judge_words.proofs.print_fault.Goals as goal

ruleset standing = (slot_in_plan, slot_is_jobs_13, slot_is_jobs_14, slot_is_jobs_15, job_in_table)

pub byte_of-requires : goal.byte_of-requires
byte_of-requires c = search standing

pub job_in-j-requires : goal.job_in-j-requires
job_in-j-requires c = search standing

pub job_in-j-requires-in-HasAllSlots : goal.job_in-j-requires-in-HasAllSlots
job_in-j-requires-in-HasAllSlots c = search standing

pub job_in-j-requires-in-LacksCharge : goal.job_in-j-requires-in-LacksCharge
job_in-j-requires-in-LacksCharge c = search standing

pub job_of-j-requires : goal.job_of-j-requires
job_of-j-requires c = search standing
