-- The answer is the check's refusal, or what `first_overload` found of the day.
use mathlib.Core.Path.{sym, ap, ◌∙◌}
use Rattle.std.specs.Prelude.{Option}
use Rattle.sheet.proofs.Residual.{err_is}
use Rattle.sheet.specs.HandedIn.{on_table}
use Rattle.sheet.specs.Paper.{gives}
use Rattle.sheet.specs.Table.{Day}
use Rattle.sheet.proofs.HandedIn.{past_check, hands_on}
use Rattle.demand.specs.Search.{found_says, search_of, first_overload}
use Rattle.demand.specs.declared.Overload.{Overload}
use Rattle.demand.proofs.search.Goals as goal

pub returns-in_err-day : goal.returns-in_err-day
unfolding search_of
returns-in_err-day c =
    rw (err_is _ c.from_residual.ensures.1) (record { answer = sym (hands_on (on_table _ _) _ _ c.in_err-day.ensures) })

pub first_overload-requires : goal.first_overload-requires
first_overload-requires c = (_, record { good = c.in_ok-day.day.good; totals_are = c.running-totals.ensures })

pub returns : goal.returns
unfolding search_of
returns c =
    let day = c.in_ok-day.ensures in
    let found = c.first_overload.ensures c.in_ok-day.day.harvest.now (record { good = c.in_ok-day.day.good; totals_are = c.running-totals.ensures }) in
    record {
      answer =
          ap (λ (x : Option Overload). gives (found_says x)) (found ∙ ap (λ (d : Day). first_overload d) day.1)
          ∙ sym (past_check (on_table _ _) _ day.0);
    }
