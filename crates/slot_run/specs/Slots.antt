-- A slot of a day, as the run's own steps speak of it. No promise of a public call rests on this page.
use Rattle.sheet.specs.Table.{Day}
use Rattle.slot_run.specs.declared.slot.Slot.{Slot}
use Rattle.slot_run.specs.Steps.{Shows}

-- it is a slot of this day
abbrev pub IsOf : Day → Slot → Type 0
IsOf d slot = Shows d slot.count slot.capacity slot.charge slot.harvested slot.state.now slot.jobs.now slot.totals.now
