-- Each return follows the tests that led to it; the counts are the sheet's own by what the call requires.
use Prim.Native.Nat.{◌+◌, ◌*◌}
use mathlib.Core.Path.{sym, ◌∙◌}
use native.Mathlib.Omega.{arith}
use borrow.Author.Tests.{eq-eqb, ne_eqb}
use Rattle.sheet.specs.Sheet.{record_length, harvest_back, first_job_back, jobs_in, slots_in, layout_fault}
use Rattle.reader.proofs.layout_fault.Goals as goal

pub returns-then-u16_at-slots : goal.returns-then-u16_at-slots
unfolding layout_fault
returns-then-u16_at-slots c =
    let s = c.args.bytes.now in
    rw (ne_eqb (harvest_back s) (slots_in s) (λ e. c.if-u16_at-slots.true (c.u16_at.ensures ∙ e ∙ sym c.requires.count_value.1)))

pub returns-then-u16_at-back : goal.returns-then-u16_at-back
unfolding layout_fault
returns-then-u16_at-back c =
    let s = c.args.bytes.now in
    rw (
      eq-eqb (harvest_back s) (slots_in s) (omega arith),
      ne_eqb (first_job_back s) (slots_in s + record_length * jobs_in s) (λ e. c.if-u16_at-back.true (omega arith)),
    )

pub returns : goal.returns
unfolding layout_fault
returns c =
    let s = c.args.bytes.now in
    rw (
      eq-eqb (harvest_back s) (slots_in s) (omega arith),
      eq-eqb (first_job_back s) (slots_in s + record_length * jobs_in s) (omega arith),
      c.requires.count_value.0,
      c.requires.count_value.1,
    )
