-- Laws of bytes laid at a place: none, one run behind another, one byte more, and a run laid at the front.
use Prim.Native.Nat.{ℕ, suc, ◌+◌, ◌≤◌, ◌<◌}
use mathlib.Core.Path.{◌≡◌, refl, sym, ap, ◌∙◌}
use mathlib.Core.List.{List, [], ◌∷◌, ◌++◌}
use native.Mathlib.Nat.{zero-add}
use native.Mathlib.Numerals.{add-one}
use native.Mathlib.Omega.{arith}
use lib.ListN.{length, get_or, set, take, drop}
use lib.Seq.{sets, sets-eq, length-take-le, take-suc}
use Rattle.writer.specs.Laid.{Laid}

-- a run stored right behind another is the two stored as one
sets_append : (xs ys l : List ℕ) (i j : ℕ) → j ≡ i + length xs → sets (sets l i xs) j ys ≡ sets l i (xs ++ ys)
sets_append [] ys l i j e =
    let same : j ≡ i = omega arith in
    ap (λ (k : ℕ). sets l k ys) same
sets_append (x ∷ xs) ys l i j e = sets_append xs ys (set l i x) (suc i) j (omega arith)

pub laid_none : (l : List ℕ) (at : ℕ) → Laid l at [] l
laid_none l at = record { stored = refl }

-- one run behind another
pub laid_next : {l m n xs ys : List ℕ} {i j : ℕ} → Laid l i xs m → Laid m j ys n → j ≡ i + length xs → Laid l i (xs ++ ys) n
laid_next {l} {m} {n} {xs} {ys} {i} {j} a b e =
    record { stored = b.stored ∙ ap (λ (k : List ℕ). sets k j ys) a.stored ∙ sets_append xs ys l i j e }

-- one byte more of a run that is copied byte by byte
pub laid_byte : {l m : List ℕ} {at : ℕ} (bytes : List ℕ) (i : ℕ) → Laid l at (take i bytes) m → i < length bytes
    → Laid l at (take (i + 1) bytes) (set m (at + i) (get_or bytes i 0))
laid_byte {l} {m} {at} bytes i a h =
    let place : at + i ≡ at + length (take i bytes) = ap (λ (k : ℕ). at + k) (sym (length-take-le i bytes (omega arith))) in
    rw (add-one, take-suc bytes i 0) (laid_next a (record { stored = refl }) place)

-- laid at the front of a buffer that has room, the bytes stand before the rest of it
pub laid_front : {l m xs : List ℕ} (n : ℕ) → Laid l 0 xs m → length xs ≡ n → n ≤ length l → m ≡ xs ++ drop n l
laid_front {l} {m} {xs} n a e h =
    a.stored ∙ sets-eq xs l 0 (omega arith) ∙ ap (λ (k : ℕ). xs ++ drop k l) (zero-add (length xs) ∙ e)
