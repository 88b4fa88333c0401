-- What the judge's own steps hand each other. No promise of a public call rests on this page.
use Rattle.std.specs.Prelude.{ℕ, ◌≡◌, true, false, Result, Ok, Err}
use Rattle.judge.specs.Judge.{kind_of, claim_fault}
use Rattle.judge.specs.declared.Claimed.{Claimed}
use Rattle.judge.specs.declared.ClaimRefusal.{ClaimRefusal}
use Rattle.judge.specs.declared.ClaimRefusal.TheVariants.{NoInterval}

-- the interval that a claim's numbers name, or 17
abbrev pub Names : (slots number from to : ℕ) → Result Claimed ClaimRefusal → Type 0
Names slots number from to (Ok c) = (claim_fault slots number from to ≡ false) × (c.kind ≡ kind_of number) × (c.from ≡ from) × (c.to ≡ to)
Names slots number from to (Err e) = (claim_fault slots number from to ≡ true) × (e ≡ NoInterval)
