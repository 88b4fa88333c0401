-- Each answer follows the tests that led to it.
use mathlib.Core.Path.{refl, sym}
use Rattle.sheet.proofs.Residual.{err_is}
use Rattle.judge.proofs.ClaimWords.{fault_by_kind, fault_by_order, fault_by_end, no_fault, kind_meant_lem}
use Rattle.judge.proofs.interval_of.Goals as goal

pub returns-in_err-kind : goal.returns-in_err-kind
returns-in_err-kind c =
    rw (err_is _ c.from_residual.ensures.1) (fault_by_kind _ _ _ _ c.in_err-kind.ensures.1, refl)

pub returns-then-end-start : goal.returns-then-end-start
returns-then-end-start c = (fault_by_order _ _ _ _ _ c.in_ok-kind.ensures c.if-end-start.true, refl)

pub returns-then-from-end : goal.returns-then-from-end
returns-then-from-end c = (fault_by_end _ _ _ _ _ c.in_ok-kind.ensures c.if-end-start.false (rw c.from.ensures at c.if-from-end.true), refl)

pub returns : goal.returns
returns c = (
  no_fault _ _ _ _ _ c.in_ok-kind.ensures c.if-end-start.false (rw c.from.ensures at c.if-from-end.false),
  sym (kind_meant_lem _ _ c.in_ok-kind.ensures),
  refl,
  refl,
)
