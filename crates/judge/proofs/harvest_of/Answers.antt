-- The bytes of the stretch are those of its slots, one after the other.
use Rattle.std.proofs.Common.{arith, ℕ, ◌≡◌, ◌+◌, ◌-◌, ◌<◌}
use Rattle.std.proofs.lemmas.List.{get_or-take, get_or-drop}
use mathlib.Core.Path.{sym, ap, ap₂, ◌∙◌}
use Rattle.sheet.specs.Sums.{harvest_of}
use Rattle.sheet.specs.Table.{counted_as}
use Rattle.sheet.proofs.Sums.{harvest_none, harvest_to}
use Rattle.judge.proofs.harvest_of.Goals as goal

pub loop-byte-init : goal.loop-byte-init
loop-byte-init c =
    let first : c.args.from + 0 ≡ c.args.from = omega arith in
    (sym (ap (harvest_of c.args.harvest.now c.args.from) first ∙ harvest_none _ _), omega arith)

pub loop-byte-preserved : goal.loop-byte-preserved
loop-byte-preserved c =
    let args = c.args in
    let i = c.loop-byte.byte-index in
    let in_stretch : i < args.to - args.from = omega arith in
    let byte =
    c.from-sum.ensures ∙ c.counted.ensures.0
    ∙ ap (λ (b : ℕ). counted_as b) (get_or-take (args.to - args.from) _ i 0 in_stretch ∙ get_or-drop args.from args.harvest.now i 0)
    in
    let most = c.counted.ensures.1 in
    let wide = c.from-sum.ensures in
    let next : args.from + i + 1 ≡ args.from + (i + 1) = omega arith in (
      ap₂ ◌+◌ c.loop-byte.invariant.0 byte ∙ sym (harvest_to args.harvest.now args.from (args.from + i) (omega arith))
          ∙ ap (harvest_of args.harvest.now args.from) next,
      omega arith,
    )
