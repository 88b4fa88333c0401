-- The loop keeps: the bytes so far are digits, and the number is the one that they write.
use mathlib.Core.Path.{refl, sym, ◌∙◌}
use native.Mathlib.Omega.{arith}
use borrow.Author.Tests.{eqb-true, eqb-false}
use Rattle.evidence.specs.Decimal.{are_digits, written}
use Rattle.evidence.proofs.Digits.{no_text, no_digit, digits_more, written_more, all_digits}
use Rattle.evidence.proofs.argument.decimal.Goals as goal

pub returns-then-is_empty : goal.returns-then-is_empty
returns-then-is_empty c = no_text _ (eqb-true _ 0 (sym c.is_empty.ensures ∙ c.if-is_empty.true))

pub loop-byte-init : goal.loop-byte-init
unfolding are_digits written
loop-byte-init c = (refl, refl)

pub returns-then-not-is_ascii_digit : goal.returns-then-not-is_ascii_digit
returns-then-not-is_ascii_digit c = no_digit _ c.loop-byte.byte-index _ c.loop-byte-test.true c.is_ascii_digit.ensures.value c.if-not-is_ascii_digit.true

pub loop-byte-preserved : goal.loop-byte-preserved
loop-byte-preserved c = (
  digits_more _ _ _ c.loop-byte.invariant.0 c.is_ascii_digit.ensures.value c.if-not-is_ascii_digit.false,
  written_more _ _ _ _ c.loop-byte.invariant.1 c.with_digit-number.ensures,
)

pub returns : goal.returns
returns c =
    let end = c.loop-byte-test.false in
    let most = c.loop-byte.auto.byte-index-end in
    let some = eqb-false _ 0 (sym c.is_empty.ensures ∙ c.if-is_empty.false) in
    all_digits _ c.loop-byte.byte-index _ (omega arith) some c.loop-byte.invariant.0 c.loop-byte.invariant.1
