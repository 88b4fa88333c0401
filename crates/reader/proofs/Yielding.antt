-- What a sheet says once 1 to 4 do not apply, and what is read of a sheet that is accepted and of one that is refused.
use Prim.Native.Nat.{ℕ}
use mathlib.Core.Path.{◌≡◌}
use mathlib.Core.List.{List, []}
use mathlib.Core.Bool.{false}
use lib.Dec.{ltb}
use lib.ListN.{length}
use Rattle.sheet.specs.Paper.{gives, in_order}
use Rattle.sheet.specs.Table.{counts_fault}
use Rattle.sheet.specs.Sheet.{trailer_length, jobs_in, slots_in, mark_fault, layout_fault, sheet_says, table_in, harvest_in}
use Rattle.sheet.proofs.Order.{Refuses, where_given_lem, where_refused}
use Rattle.reader.specs.Promise.{no_table, table_read, harvest_read}
use Rattle.reader.specs.Steps.{record_in}

module _ (s : List ℕ) where
  pub records_decide : ltb (length s) trailer_length ≡ false → mark_fault s ≡ false → counts_fault (jobs_in s) (slots_in s) ≡ false → layout_fault s ≡ false
      → sheet_says s ≡ in_order (record_in s (slots_in s)) (jobs_in s)
  unfolding sheet_says
  records_decide short mark counts layout = rw (short, mark, counts, layout)

  pub table_given : sheet_says s ≡ gives tt → table_read s ≡ table_in s
  unfolding table_read
  table_given = where_given_lem (sheet_says s) tt (table_in s) no_table

  pub table_refused : Refuses (sheet_says s) → table_read s ≡ no_table
  unfolding table_read
  table_refused = where_refused (sheet_says s) (table_in s) no_table

  pub harvest_given : sheet_says s ≡ gives tt → harvest_read s ≡ harvest_in s
  unfolding harvest_read
  harvest_given = where_given_lem (sheet_says s) tt (harvest_in s) []

  pub harvest_refused : Refuses (sheet_says s) → harvest_read s ≡ []
  unfolding harvest_read
  harvest_refused = where_refused (sheet_says s) (harvest_in s) []
