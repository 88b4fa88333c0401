-- Laws of the number that a text of digits writes, digit by digit.
use Prim.Native.Nat.{ℕ, zero, suc, min, ◌+◌, ◌-◌, ◌*◌, ◌≤◌, ◌<◌}
use mathlib.Core.Path.{◌≡◌, refl, sym, ap, ◌∙◌}
use mathlib.Core.Bool.{Bool, true, false, ◌&&◌}
use mathlib.Core.List.{List}
use native.Mathlib.Decide.{ℕ_discrete}
use native.Mathlib.Nat.{not-suc-le-zero}
use native.Mathlib.Numerals.{add-one}
use native.Mathlib.Omega.{arith}
use lib.ListN.{length, get_or}
use borrow.Author.Tests.{lt-ltb, le-ltb}
use Rattle.std.proofs.lemmas.Bool.{and_from}
use Rattle.evidence.specs.Decimal.{largest, zero_digit, is_digit, are_digits, written, number_in}
use Rattle.std.specs.Prelude.{Some, None}

module _ (text : List ℕ) where
  -- ---- no number

  pub no_text : length text ≡ 0 → None ≡ number_in text
  unfolding number_in
  no_text e = let h : length text ≤ 0 = omega arith in rw (le-ltb 0 (length text) h)

  not_all : (i n : ℕ) → i < n → is_digit (get_or text i 0) ≡ false → are_digits text n ≡ false
  unfolding are_digits
  not_all i zero h other = absurd (not-suc-le-zero h)
  not_all i (suc n) h other =
      elim (ℕ_discrete i n) [
        | yes e ↦ and_false (are_digits text n) (ap (λ (k : ℕ). is_digit (get_or text k 0)) (sym e) ∙ other)
        | no e ↦ ap (λ (b : Bool). b && is_digit (get_or text n 0)) (not_all i n (omega arith) other)
      ]
    where
      and_false : (a : Bool) {b : Bool} → b ≡ false → (a && b) ≡ false
      and_false true e = e
      and_false false e = refl

  pub no_digit : (i : ℕ) (b : Bool) → i < length text → b ≡ is_digit (get_or text i 0) → b ≡ false → None ≡ number_in text
  unfolding number_in
  no_digit i b h is told =
      let some : 0 < length text = omega arith in
      rw (lt-ltb 0 (length text) some, not_all i (length text) h (sym is ∙ told))

  -- ---- one digit more

  pub digits_more : (i : ℕ) (b : Bool) → are_digits text i ≡ true → b ≡ is_digit (get_or text i 0) → b ≡ true → are_digits text (i + 1) ≡ true
  unfolding are_digits
  digits_more i b before is told = ap (are_digits text) (add-one i) ∙ and_from (are_digits text i) (is_digit (get_or text i 0)) before (sym is ∙ told)

  pub written_more : (i number next : ℕ) → number ≡ min largest (written text i) → next ≡ min largest (10 * number + (get_or text i 0 - zero_digit))
      → next ≡ min largest (written text (i + 1))
  unfolding written
  written_more i number next before e =
      let more : written text (i + 1) ≡ 10 * written text i + (get_or text i 0 - zero_digit) = ap (written text) (add-one i) in
      omega arith

  -- ---- all digits

  pub all_digits : (n number : ℕ) → n ≡ length text → (length text ≡ 0 → ⊥) → are_digits text n ≡ true → number ≡ min largest (written text n)
      → Some number ≡ number_in text
  unfolding number_in
  all_digits n number e some all is =
      let h : 0 < length text = omega arith in
      rw (lt-ltb 0 (length text) h, ← e, all) (ap Some is)
