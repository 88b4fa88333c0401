-- The kinds of demand by their numbers.
use Rattle.std.specs.Prelude.{ℕ, ◌≡◌, ◌<◌, Result, Ok, Err}
use Rattle.interval.specs.Demand.{kind_number}
use Rattle.interval.specs.declared.Kind.{Kind}
use Rattle.interval.specs.declared.NoKind.{NoKind}

-- the kind that has this number, or that none has it
abbrev pub IsOfKind : ℕ → Result Kind NoKind → Type 0
IsOfKind number (Ok kind) = kind_number kind ≡ number
IsOfKind number (Err e) = (e.0 ≡ number) × (1 < number)
