-- A number in decimal digits; one above 2^64 - 1 is taken as 2^64 - 1.
use Rattle.std.specs.Prelude.{ℕ, zero, suc, min, ◌+◌, ◌-◌, ◌*◌, Bool, true, cond, ◌&&◌, List, ltb, leb, length, get_or, Option, Some, None}

abbrev pub largest : ℕ
largest = 18446744073709551615

-- the digits 0 to 9 in ASCII
abbrev pub zero_digit : ℕ
zero_digit = 48

abbrev pub nine_digit : ℕ
nine_digit = 57

abbrev pub is_digit : ℕ → Bool
is_digit byte = leb zero_digit byte && leb byte nine_digit

-- the first n bytes of a text are digits
unfoldable pub are_digits : List ℕ → ℕ → Bool
are_digits text zero = true
are_digits text (suc n) = are_digits text n && is_digit (get_or text n 0)

-- the number that they write
unfoldable pub written : List ℕ → ℕ → ℕ
written text zero = 0
written text (suc n) = 10 * written text n + (get_or text n 0 - zero_digit)

unfoldable pub number_in : List ℕ → Option ℕ
number_in text = cond (ltb 0 (length text) && are_digits text (length text)) (Some (min largest (written text (length text)))) None
