-- The stretch behind a sheet's own records is its harvest, and an empty one where the sheet is refused.
use Prim.Native.Nat.{ℕ, ◌+◌, ◌*◌}
use mathlib.Core.Path.{◌≡◌, sym, ap, ap₂, ◌∙◌, subst}
use mathlib.Core.List.{List, []}
use mathlib.Core.Logic.{⊎_elim}
use native.Mathlib.Omega.{arith}
use lib.ListN.{length}
use borrow.Author.Tests.{le-leb}
use Rattle.sheet.specs.HandedIn.{on_sheet, check_says, day_in}
use Rattle.sheet.specs.Paper.{gives}
use Rattle.sheet.specs.Refusals.{outcome_says}
use Rattle.sheet.specs.Sheet.{record_length, sheet_says, table_in, jobs_in, slots_in, harvest_in}
use Rattle.sheet.specs.Table.{day_of}
use Rattle.sheet.specs.WellFormed.{GoodDay}
use Rattle.sheet.specs.declared.Refusal.{Refusal}
use Rattle.sheet.specs.declared.Table.{Table}
use Rattle.sheet.specs.declared.day.CheckedDay.{CheckedDay}
use Rattle.std.specs.Prelude.{Result, Ok, Err}
use Rattle.reader.specs.Steps.{ReadsInto}
use Rattle.sheet.specs.Checked.{Checks}
use Rattle.sheet.proofs.Order.{Refuses, gives_or_refuses}
use Rattle.sheet.proofs.Refusals.{refusal_refuses, says_gives}
use Rattle.sheet.proofs.Stated.{sheet_leaves}
use Rattle.reader.specs.Promise.{no_table, table_read, harvest_read, ReadsSheet, harvest_behind, HandsOn}
use Rattle.reader.specs.declared.sheet_read.SheetRead.{SheetRead}
use Rattle.reader.proofs.Yielding.{table_given, table_refused, harvest_given, harvest_refused}

of_table : List ℕ → Table → List ℕ
of_table s t = harvest_behind s t.count t.slots

given : (s : List ℕ) → sheet_says s ≡ gives tt → harvest_behind s (table_read s).count (table_read s).slots ≡ harvest_read s
unfolding of_table harvest_behind harvest_in table_in
given s e =
    let good = (sheet_leaves s).0 e in
    let fits = good.length_fits in
    ap (of_table s) (table_given s e)
    ∙ rw (le-leb _ _ good.good_day.few_jobs, le-leb (record_length * jobs_in s + slots_in s) (length s) (omega arith)) (sym (harvest_given s e))

-- behind the records of the empty table there is nothing
pub none_behind : (s : List ℕ) (t : Table) → t ≡ no_table → harvest_behind s t.count t.slots ≡ []
unfolding of_table harvest_behind
none_behind s t is = ap (of_table s) is ∙ rw (le-leb 0 (length s) (omega arith))

refused : (s : List ℕ) → Refuses (sheet_says s) → harvest_behind s (table_read s).count (table_read s).slots ≡ harvest_read s
refused s r = none_behind s (table_read s) (table_refused s r) ∙ sym (harvest_refused s r)

pub own_stretch : (s : List ℕ) → harvest_behind s (table_read s).count (table_read s).slots ≡ harvest_read s
own_stretch s = ⊎_elim (given s) (refused s) (gives_or_refuses (sheet_says s))

-- ---- the reading of a sheet, from what the records told

pub answers : (s : List ℕ) (o : Result (Unit {0}) Refusal) (t : Table) → ReadsInto s o t → (outcome_says o ≡ sheet_says s) × (t ≡ table_read s)
answers s (Ok leave) t yields = (sym yields.0, yields.1 ∙ sym (table_given s yields.0))
answers s (Err why) t yields = (sym yields.0, yields.1 ∙ sym (table_refused s (subst Refuses (sym yields.0) (refusal_refuses _ why))))

module _ (s : List ℕ) (o : Result (Unit {0}) Refusal) (t : Table) (yields : ReadsInto s o t) (harvest : List ℕ) (stretch : harvest ≡ harvest_behind s t.count t.slots) where
  pub the_answer : outcome_says o ≡ sheet_says s
  the_answer = (answers s o t yields).0

  pub the_table : t ≡ table_read s
  the_table = (answers s o t yields).1

  pub the_harvest : harvest ≡ harvest_read s
  unfolding of_table
  the_harvest = stretch ∙ ap (of_table s) the_table ∙ own_stretch s

  pub the_good_day : o ≡ Ok tt → GoodDay (day_of t harvest)
  the_good_day told =
      let leave : sheet_says s ≡ gives tt = sym the_answer ∙ ap outcome_says told in
      let good = (sheet_leaves s).0 leave in
      subst GoodDay (sym (ap₂ day_of (the_table ∙ table_given s leave) (the_harvest ∙ harvest_given s leave))) good.good_day

-- ---- what a caller has who has read the sheet: its refusal, or the day that stands in it

module _ (s : List ℕ) (r : SheetRead) (read : ReadsSheet s r) where
  module _ (told : r.outcome ≡ Ok tt) where
    pub read_leaves : check_says (on_sheet s) ≡ gives tt
    read_leaves = says_gives r.outcome (sheet_says s) told read.answer

    pub read_day : day_of r.table r.harvest.now ≡ day_in (on_sheet s)
    read_day =
        ap₂ day_of
        (read.table ∙ table_given s read_leaves)
        (read.harvest ∙ harvest_given s read_leaves)

  -- a day that the reading hands on is that of the sheet, and a refusal its refusal
  pub hands_on_sheet : (d : Result CheckedDay Refusal) → HandsOn r d → Checks (on_sheet s) d
  hands_on_sheet (Ok d) on = (read_leaves on.0, on.1 ∙ read_day on.0)
  hands_on_sheet (Err why) on = sym read.answer ∙ ap outcome_says on
