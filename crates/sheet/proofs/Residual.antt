-- What a `?` returns where there is an error.
use mathlib.Core.Path.{◌≡◌, ap, ◌∙◌}
use Rattle.std.specs.Prelude.{Result, Err, IsErrAnd}
use Rattle.std.proofs.lemmas.Result.{err_from_is_err_and}

-- the error that it makes of what was refused
pub err_is : {T E : Type 0} {x : E} (r : Result T E) → IsErrAnd r (λ e. e ≡ x) → r ≡ Err x
err_is r said = let p = err_from_is_err_and r said in p.1 ∙ ap Err p.2
