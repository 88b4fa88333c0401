-- What a call is handed: a sheet, or a table and a harvest in place of one.
use Rattle.std.specs.Prelude.{ℕ, List}
use Rattle.sheet.specs.Paper.{Check}
use Rattle.sheet.specs.Table.{Day, day_of, table_says}
use Rattle.sheet.specs.Sheet.{sheet_says, table_in, harvest_in}
use Rattle.sheet.specs.WellFormed.{GoodDay, WellFormed, SheetStates, TableStates}
use Rattle.sheet.specs.declared.Table.{Table}
use Rattle.sheet.specs.declared.Refusal.{Refusal}

pub data HandedIn : Type 0 where
  on_sheet : (bytes : List ℕ) → HandedIn
  on_table : (t : Table) (harvest : List ℕ) → HandedIn

-- what its check says, 1 to 6 or leave to go on
abbrev pub check_says : HandedIn → Check
check_says (on_sheet s) = sheet_says s
check_says (on_table t harvest) = table_says (day_of t harvest)

-- the day that stands in it
abbrev pub day_in : HandedIn → Day
day_in (on_sheet s) = day_of (table_in s) (harvest_in s)
day_in (on_table t harvest) = day_of t harvest

-- in words: well formed, and when each refusal is stated
abbrev pub Sound : HandedIn → Type 0
Sound (on_sheet s) = WellFormed s
Sound (on_table t harvest) = GoodDay (day_of t harvest)

abbrev pub States : HandedIn → Refusal → Type 0
States (on_sheet s) = SheetStates s
States (on_table t harvest) = TableStates (day_of t harvest)
