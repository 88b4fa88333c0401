-- The loop keeps: the sum is that of the first k slots, every entry up to k is its own total, and zeros stand behind it.
use Prim.Native.Nat.{◌+◌, ◌<◌}
use mathlib.Core.Path.{◌≡◌, refl, sym}
use native.Mathlib.Omega.{arith}
use lib.ListN.{length, length-set}
use Rattle.sheet.specs.Table.{most_slots}
use Rattle.sheet.specs.Sums.{total, harvest_at}
use Rattle.sheet.proofs.Sums.{total_none, total_more}
use Rattle.sheet.proofs.Lists.{zeros_first}
use Rattle.std.proofs.lemmas.Grind.{common_steps}
use Rattle.totals.proofs.running.Goals as goal

pub loop-k-init : goal.loop-k-init
loop-k-init c =
    let none = total_none (harvest_at c.args.harvest.now) in
    let zero = zeros_first (most_slots + 1) in
    record {
      sum = sym none;
      within = omega arith;
      long = refl;
      entry = λ j h. grind (arith, common_steps);
      beyond = λ j h. zero j;
      small = λ j. let e = zero j in omega arith;
    }

pub loop-k-preserved : goal.loop-k-preserved
loop-k-preserved c =
    let harvest = harvest_at c.args.harvest.now in
    let k = c.loop-k.k in
    let sums = c.loop-k.sums in
    let inv = c.loop-k.invariant in
    let next = total_more harvest k in
    let long : k + 1 < length sums = grind (arith, common_steps) in
    let sum : c.loop-k.sum + c.from-sum.result ≡ total harvest (k + 1) = grind (arith, common_steps) in
    record {
      sum = sum;
      within = omega arith;
      long = simp length-set inv.long;
      entry = λ j h. grind (arith, common_steps);
      beyond = λ j h. grind (arith, common_steps);
      small = λ j. grind (arith, common_steps);
    }
