-- "Refusal numbers": the number of each refusal of a sheet or a table, once, and the order in which they are given.
use Rattle.std.specs.Prelude.{ℕ, Bool, Result, Ok, Err}
use Rattle.sheet.specs.Paper.{Paper, Check, gives, refuses, refuses_at, ◌when◌, ◌else◌, in_order, number_of, place_of}
use Rattle.sheet.specs.declared.Refusal.{Refusal}
use Rattle.sheet.specs.declared.Refusal.TheVariants.{Short, Mark, Counts, Layout, Window, Work}

-- a refusal as the paper writes it: "Refusals 5 and 6 name the record"
abbrev pub refusal_says : {A : Type 0} → Refusal → Paper A
refusal_says Short = refuses 1
refusal_says Mark = refuses 2
refusal_says Counts = refuses 3
refusal_says Layout = refuses 4
refusal_says (Window k) = refuses_at 5 k
refusal_says (Work k) = refuses_at 6 k

-- its number alone, and the record that it names
abbrev pub refusal_number : Refusal → ℕ
refusal_number r = number_of (refusal_says {A = Unit {0}} r)

abbrev pub refusal_place : Refusal → ℕ
refusal_place r = place_of (refusal_says {A = Unit {0}} r)

-- a check's answer as the paper writes it
abbrev pub outcome_says : Result (Unit {0}) Refusal → Check
outcome_says (Ok leave) = gives tt
outcome_says (Err r) = refusal_says r

-- which refusals apply, each by itself; `window` and `work` are asked of the records 0 to records - 1
pub record Faults : Type 0 where
  pub short : Bool
  pub mark : Bool
  pub counts : Bool
  pub layout : Bool
  pub records : ℕ
  pub window : ℕ → Bool
  pub work : ℕ → Bool

-- a record by itself: 5 before 6
abbrev pub record_says : (window work : Bool) → ℕ → Check
record_says window work k = refusal_says (Window k) when window else refusal_says (Work k) when work

-- "Order: 1, 2, 3, 4, then records in order with 5 before 6 in each"
unfoldable pub in_turn : Faults → Check
in_turn f =
    refusal_says Short when f.short
    else refusal_says Mark when f.mark
    else refusal_says Counts when f.counts
    else refusal_says Layout when f.layout
    else in_order (λ k. record_says (f.window k) (f.work k) k) f.records
