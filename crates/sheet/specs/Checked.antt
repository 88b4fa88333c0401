-- What a check that hands on its day promises, of whatever was handed in.
use Rattle.std.specs.Prelude.{◌≡◌, Result, Ok, Err}
use Rattle.sheet.specs.HandedIn.{HandedIn, check_says, day_in}
use Rattle.sheet.specs.Paper.{gives}
use Rattle.sheet.specs.Refusals.{refusal_says}
use Rattle.sheet.specs.Table.{Day, day_of}
use Rattle.sheet.specs.declared.day.CheckedDay.{CheckedDay}
use Rattle.sheet.specs.declared.Refusal.{Refusal}

-- a day that was checked, in the paper's words
abbrev pub the_day : CheckedDay → Day
the_day d = day_of d.table.now d.harvest.now

-- what the check says, and the day that was handed in where it gives leave
abbrev pub Checks : HandedIn → Result CheckedDay Refusal → Type 0
Checks h (Ok d) = (check_says h ≡ gives tt) × (the_day d ≡ day_in h)
Checks h (Err r) = check_says h ≡ refusal_says r
