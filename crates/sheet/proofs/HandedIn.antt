-- What was handed in, once for a sheet and for a table with its harvest: what its check says in words, and what that makes of a call's answer.
use Prim.Native.Nat.{ℕ}
use mathlib.Core.Path.{◌≡◌, refl, sym, ap, ◌∙◌}
use mathlib.Core.Bool.{Bool, true, false, false≢true}
use mathlib.Core.Logic.Iff
use mathlib.Core.Logic.{◌↔◌, ◌⊎◌, ⊎_elim}
use Rattle.sheet.specs.Paper.{Paper, Check, gives, refuses, ◌when◌, ◌else◌}
use Rattle.sheet.specs.HandedIn.{HandedIn, on_sheet, on_table, check_says, day_in, Sound, States}
use Rattle.sheet.specs.Refusals.{refusal_says, outcome_says}
use Rattle.sheet.specs.Sheet.{sheet_faults, sheet_says}
use Rattle.sheet.specs.Table.{day_of, table_faults, table_says}
use Rattle.sheet.specs.WellFormed.{GoodDay, GivenFirst}
use Rattle.std.specs.Prelude.{Result, Ok, Err}
use Rattle.sheet.specs.declared.Refusal.{Refusal}
use Rattle.sheet.proofs.Exactly.{leave_or_refusal}
use Rattle.sheet.proofs.Order.{else_goes_on}
use Rattle.sheet.proofs.Refusals.{Own, own_number, sheet_has, refusal_one, refusal_stays, outcome_exactly}
use Rattle.sheet.proofs.Stated.{sheet_leaves, sheet_refuses, table_leaves, table_refuses}

-- ---- what the check says

pub check_leaves : (h : HandedIn) → (check_says h ≡ gives tt) ↔ Sound h
check_leaves (on_sheet s) = sheet_leaves s
check_leaves (on_table t harvest) = table_leaves (day_of t harvest)

pub check_refuses : (h : HandedIn) (r : Refusal) → (check_says h ≡ refusal_says r) ↔ GivenFirst (States h) r
check_refuses (on_sheet s) = sheet_refuses s
check_refuses (on_table t harvest) = table_refuses (day_of t harvest)

pub leave_or_refused : (h : HandedIn) → (check_says h ≡ gives tt) ⊎ ((r : Refusal) × (check_says h ≡ refusal_says r))
unfolding sheet_says table_says
leave_or_refused (on_sheet s) = leave_or_refusal (sheet_faults s)
leave_or_refused (on_table t harvest) = leave_or_refusal (table_faults (day_of t harvest))

-- the day in what is sound is well formed
pub sound_day : (h : HandedIn) → Sound h → GoodDay (day_in h)
sound_day (on_sheet s) sound = sound.good_day
sound_day (on_table t harvest) sound = sound

-- ---- a call that checks first, and then asks and gives the rest

module _ (h : HandedIn) {A : Type 0} (rest : Paper A) where
  pub past_check : check_says h ≡ gives tt → (check_says h else rest) ≡ rest
  past_check = else_goes_on (check_says h) rest

  pub hands_on : (r : Refusal) → check_says h ≡ refusal_says r → (check_says h else rest) ≡ refusal_says r
  hands_on r e = ap (λ (a : Check). a else rest) e ∙ refusal_stays r rest

  -- a refusal is handed on exactly when it is stated and nothing earlier applies
  pub handed_on_exactly : Own rest → (r : Refusal) → ((check_says h else rest) ≡ refusal_says r) ↔ GivenFirst (States h) r
  handed_on_exactly own r = Iff.trans (
    (λ e.
        ⊎_elim
        (λ leave. absurd (own r (sym (past_check leave) ∙ e)))
        (λ w. w.1 ∙ ap refusal_says (refusal_one _ w.0 r (sym (hands_on w.0 w.1) ∙ e)))
        (leave_or_refused h)),
    hands_on r,
  ) (check_refuses h r)

  -- an answer of the call's own is given exactly when what was handed in is sound and the rest gives that answer
  pub own_exactly : (a : Paper A) {P : Type 0} → Own a → ((rest ≡ a) ↔ P) → ((check_says h else rest) ≡ a) ↔ (Sound h × P)
  own_exactly a own words = (
    (λ e.
        ⊎_elim
        (λ leave. ((check_leaves h).0 leave, words.0 (sym (past_check leave) ∙ e)))
        (λ w. absurd (own w.0 (sym e ∙ hands_on w.0 w.1)))
        (leave_or_refused h)),
    (λ g. past_check ((check_leaves h).1 g.0) ∙ words.1 g.1),
  )

-- ---- an outcome that is what the check says

module _ (h : HandedIn) (o : Result (Unit {0}) Refusal) (said : outcome_says o ≡ check_says h) where
  pub outcome_accepted_exactly : (o ≡ Ok tt) ↔ Sound h
  outcome_accepted_exactly = Iff.trans (outcome_exactly o (Ok tt) _ said) (check_leaves h)

  pub outcome_refused_exactly : (r : Refusal) → (o ≡ Err r) ↔ GivenFirst (States h) r
  outcome_refused_exactly r = Iff.trans (outcome_exactly o (Err r) _ said) (check_refuses h r)

  -- past the check the day is well formed
  pub checked_good : o ≡ Ok tt → GoodDay (day_in h)
  checked_good e = sound_day h (outcome_accepted_exactly.0 e)

-- ---- a call's own number, asked right after the check

pub asked_exactly : {A : Type 0} (h : HandedIn) (n : ℕ) (b : Bool) (rest : Paper A) → sheet_has n ≡ false → (rest ≡ refuses n → ⊥)
    → ((check_says h else refuses n when b else rest) ≡ refuses n) ↔ (Sound h × (b ≡ true))
asked_exactly {A} h n b rest none other = own_exactly h (refuses n when b else rest) (refuses n) (own_number (refuses n) none) (asked b)
  where
    asked : (test : Bool) → ((refuses n when test else rest) ≡ refuses n) ↔ (test ≡ true)
    asked true = ((λ e. refl), (λ e. refl))
    asked false = ((λ e. absurd (other e)), (λ e. absurd (false≢true e)))
