-- The three arrays have their lengths by a law, since to count their zeros takes seconds.
use Prim.Native.Nat.{ℕ}
use mathlib.Core.Path.{◌≡◌, sym}
use lib.ListN.{length, replicate, length-replicate}
use Rattle.trials.proofs.main.Goals as goal

zeros : (n : ℕ) → n ≡ length {A = ℕ} (replicate n 0)
zeros n = sym (length-replicate n 0)

pub slice_bounds-answer_all-end : goal.slice_bounds-answer_all-end
slice_bounds-answer_all-end c = zeros _

pub slice_bounds-answer_all-end-2 : goal.slice_bounds-answer_all-end-2
slice_bounds-answer_all-end-2 c = zeros _

pub slice_bounds-answer_all-end-3 : goal.slice_bounds-answer_all-end-3
slice_bounds-answer_all-end-3 c = zeros _
