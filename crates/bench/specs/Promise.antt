-- What the timed calls promise, for any bytes and any buffer.
use Rattle.std.specs.Prelude.{ℕ, ◌+◌, ◌*◌, ◌%◌, ◌≡◌, List}
use Rattle.sheet.specs.HandedIn.{HandedIn, on_sheet, on_table, check_says, day_in}
use Rattle.sheet.specs.Paper.{Paper, Check, gives, refuses, refuses_at, where_given, number_of, place_of}
use Rattle.reader.specs.Promise.{table_read, harvest_read}
use Rattle.writer.specs.Promise.{write_says, buffer_written}
use Rattle.demand.specs.Search.{Interval, Answer, overloaded_is, none_is, search_of}
use Rattle.slot_run.specs.Promise.{no_state, state_after}
use Rattle.slot_run.specs.Run.{first_state}
use Rattle.choice.specs.declared.State.{State}
use Rattle.judge.specs.declared.Sums.{Sums}
use Rattle.judge.specs.Judge.{judged_plan, judged_claim, judged_sums}
use Rattle.planner.specs.Plan.{Verdict, overloaded, met, undecided, plan_for, plan_left}

-- a number for what is given, and one for every refusal
abbrev pub numbered : {A : Type 0} → (A → ℕ) → ℕ → Paper A → ℕ
numbered f none (gives x) = f x
numbered f none (refuses n) = none
numbered f none (refuses_at n place) = none

-- what the reader yields, handed on
abbrev pub yielded : List ℕ → HandedIn
yielded s = on_table (table_read s) (harvest_read s)

-- ---- there and back: the length, or 0, and every byte of the buffer

pub record ThereAndBack (s out : List ℕ) (r : ℕ) (after : List ℕ) : Type 0 where
  pub answer : r ≡ numbered (λ n. n) 0 (write_says (yielded s) out)
  pub buffer : after ≡ buffer_written (yielded s) out

-- ---- search

-- an interval's kind, start and end in one number, which is not 0
abbrev pub interval_number : Interval → ℕ
interval_number i = i.kind + 1 + 4 * i.from + 262144 * i.to

-- the number of every refusal: above each interval's
abbrev pub refused_number : ℕ
refused_number = 1099511627776

-- an interval that is found; 0 where there is none
abbrev pub answer_number : Answer → ℕ
answer_number (overloaded_is i) = interval_number i
answer_number none_is = 0

abbrev pub SearchesYielded : List ℕ → ℕ → Type 0
SearchesYielded s r = r ≡ numbered answer_number refused_number (search_of (yielded s))

-- ---- plan

-- the number of an undecided day, to which its job's is added
abbrev pub undecided_number : ℕ
undecided_number = 2199023255552

-- a verdict as one number: 0 where the day is met
abbrev pub verdict_number : Verdict → ℕ
verdict_number (overloaded i) = interval_number i
verdict_number met = 0
verdict_number (undecided k) = undecided_number + k

-- the answer, and every byte of the plan buffer
pub record PlanNumbered (s plan : List ℕ) (r : ℕ) (after : List ℕ) : Type 0 where
  pub answer : r ≡ numbered verdict_number refused_number (plan_for (on_sheet s) plan)
  pub buffer : after ≡ plan_left (on_sheet s) plan

-- ---- the first step

-- the day's first state, or what a refused start holds
abbrev pub start_of : HandedIn → State
start_of h = where_given (check_says h) (first_state (day_in h)) no_state

-- the level after one step from there
abbrev pub FirstSteps : List ℕ → ℕ → Type 0
FirstSteps s r = r ≡ (state_after (yielded s) (start_of (yielded s))).level

-- ---- the judge

-- a check as one number: 0 for leave, else the refusal's number, which is below 32, and 32 times its place, of which eleven bits are kept
abbrev pub check_number : Check → ℕ
check_number a = number_of a + 32 * (place_of a % 2048)

-- a plan against a sheet
abbrev pub JudgementNumbered : List ℕ → List ℕ → ℕ → Type 0
JudgementNumbered s plan r = r ≡ check_number (judged_plan (on_sheet s) plan)

-- what was weighed, above every check's number: 26 bits of the demand, and above them 20 of the supply
abbrev pub sums_number : Sums → ℕ
sums_number w = 65536 * (w.demand % 67108864) + 4398046511104 * (w.supply % 1048576)

-- a claim against a sheet: the answer, and what was weighed
abbrev pub ClaimNumbered : List ℕ → (kind from to r : ℕ) → Type 0
ClaimNumbered s kind from to r = r ≡ check_number (judged_claim (on_sheet s) kind from to) + sums_number (judged_sums (on_sheet s) kind from to)
