-- A buffer with some bytes laid at a place: what each part of the writer leaves.
use Rattle.std.specs.Prelude.{ℕ, ◌≡◌, List}
use Rattle.std.proofs.lemmas.List.Edits.{sets}

-- `after` is `out` with `bytes` stored one by one from the place `at`, and every other byte as it was
pub record Laid (out : List ℕ) (at : ℕ) (bytes after : List ℕ) : Type 0 where
  pub stored : after ≡ sets out at bytes
