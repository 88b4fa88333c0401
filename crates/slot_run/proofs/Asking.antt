-- A choice, a sum and a search over the jobs, one job more, whatever a closure answers of each.
use Prim.Native.Nat.{ℕ, ◌+◌, ◌<◌}
use mathlib.Core.Path.{◌≡◌, sym, ◌∙◌}
use mathlib.Core.Bool.{Bool, true, false}
use mathlib.Core.Logic.{⊎_elim}
use native.Mathlib.Omega.{arith}
use lib.Dec.{ltb}
use Rattle.std.specs.Prelude.{Option, Some, None, IfSome}
use Rattle.sheet.proofs.Exactly.{either}
use Rattle.choice.specs.Choosing.{smaller, earliest}
use Rattle.choice.proofs.Choosing.{earliest_passes, earliest_fails}
use Rattle.slot_run.specs.Steps.{Answers}

-- what was answered below k + 1 was below k
pub fewer : {A : Type 0} (post : ℕ → A → Type 0) (f : ℕ → A) (k : ℕ) → Answers post f (k + 1) → Answers post f k
fewer post f k all i h = all i (omega arith)

-- ---- the choice

-- what is held is a job below k, and the choice among those
abbrev pub ChosenTo : (ℕ → Bool → Type 0) → (ℕ → ℕ) → ℕ → Option ℕ → Type 0
ChosenTo post deadline k c = IfSome c (λ m. m < k) × ((passes : ℕ → Bool) → Answers post passes k → c ≡ earliest passes deadline k)

module _ (post : ℕ → Bool → Type 0) (deadline : ℕ → ℕ) (k : ℕ) (c : Option ℕ) (so_far : ChosenTo post deadline k c) (r : Bool) (answer : post k r) (next : Option ℕ) where
  pub chosen_more : r ≡ true → next ≡ smaller deadline c k → ChosenTo post deadline (k + 1) next
  chosen_more e is =
      (rw is (below c so_far.0), λ passes all. is ∙ earliest_passes passes deadline k c (so_far.1 passes (fewer _ _ k all)) (sym (all k (omega arith) r answer) ∙ e))
    where
      below : (c : Option ℕ) → IfSome c (λ m. m < k) → IfSome (smaller deadline c k) (λ m. m < k + 1)
      below None h = omega arith
      below (Some m) h = ⊎_elim (λ t. rw t (omega arith)) (λ t. rw t (omega arith)) (either (ltb (deadline k) (deadline m)))

  pub chosen_past : r ≡ false → next ≡ c → ChosenTo post deadline (k + 1) next
  chosen_past e is =
      (rw is (below c so_far.0), λ passes all. is ∙ earliest_fails passes deadline k c (so_far.1 passes (fewer _ _ k all)) (sym (all k (omega arith) r answer) ∙ e))
    where
      below : (c : Option ℕ) → IfSome c (λ m. m < k) → IfSome c (λ m. m < k + 1)
      below None h = tt
      below (Some m) h = omega arith
