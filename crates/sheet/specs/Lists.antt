-- Lists that are made place by place.
use Rattle.std.specs.Prelude.{ℕ, zero, suc, ◌-◌, List, [], ◌∷◌, ◌++◌, replicate}

-- f 0, f 1, .., f (n - 1), one after the other
unfoldable pub joined : {X : Type 0} → (ℕ → List X) → ℕ → List X
joined f zero = []
joined f (suc n) = joined f n ++ f n

-- so many places: the first n hold f 0 to f (n - 1), and the others z
unfoldable pub filled : {X : Type 0} → (ℕ → X) → X → ℕ → ℕ → List X
filled f z places n = joined (λ k. f k ∷ []) n ++ replicate (places - n) z
