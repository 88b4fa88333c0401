-- "Refusal numbers": the number of each refusal of a claim, once. A plan's stand where its slots are judged.
use Rattle.sheet.specs.Paper.{Check, refuses}

-- a claim's two refusals
abbrev pub no_interval : Check
no_interval = refuses 17

abbrev pub not_overloaded : Check
not_overloaded = refuses 18
