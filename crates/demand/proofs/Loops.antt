-- What the loops keep, and what that comes to at their end.
use Prim.Native.Nat.{ℕ, zero, suc, ◌+◌, ◌<◌, ◌≤◌}
use mathlib.Core.Path.{◌≡◌, refl, sym, ap, ◌∙◌, subst}
use mathlib.Core.Bool.{Bool, true, false, cond, ◌&&◌}
use mathlib.Core.List.{List}
use mathlib.Core.Logic.{⊎_elim}
use native.Mathlib.Nat.{not-suc-le-zero}
use native.Mathlib.Numerals.{add-one}
use native.Mathlib.Decide.{dec_le}
use native.Mathlib.Omega.{arith}
use lib.Dec.{leb}
use lib.ListN.{length, get_or, set}
use lib.Seq.{get_or-set_same, get_or-set_other}
use Rattle.std.specs.Prelude.{Option, Some, None}
use borrow.Author.Count.{below_more}
use Rattle.sheet.proofs.Exactly.{either}
use Rattle.sheet.proofs.Sums.{total_more}
use Rattle.sheet.specs.Sums.{total_of}
use Rattle.sheet.specs.Table.{job_of, Day}
use Rattle.sheet.specs.declared.Table.{Table}
use Rattle.totals.specs.Totals.{Summed}
use Rattle.totals.proofs.Entries.{harvest_read_lem}
use Rattle.interval.specs.Demand.{within, share_of}
use Rattle.demand.specs.Search.{is_deadline, found_at, latest_start, smallest_end}
use Rattle.demand.specs.Steps.{Totalled, most_due, due_share, DueBy, IsNext, NextDeadline}
use Rattle.interval.specs.declared.Kind.{Kind}
use Rattle.demand.specs.declared.Overload.{Overload}
use Rattle.demand.proofs.Findings.{release_exactly, deadline_exactly, start_at}

-- what the jobs of an interval demand, of the first n jobs
abbrev pub demand_up_to : Kind → Table → ℕ → ℕ → ℕ → ℕ
demand_up_to kind t from to n = total_of (λ k. within from to (job_of t k)) (λ k. share_of kind (job_of t k)) n

-- one job more, by its release and by what is due of it as the code reads them
pub demand_more : (kind : Kind) (t : Table) (from to n release amount more : ℕ) → release ≡ (job_of t n).release
    → amount ≡ due_share kind t to n → more ≡ cond (leb from release) amount 0
    → demand_up_to kind t from to (n + 1) ≡ demand_up_to kind t from to n + more
demand_more kind t from to n release amount more p q r =
    let split = both (leb from (job_of t n).release) (leb (job_of t n).deadline to) (share_of kind (job_of t n)) in
    let e : cond (within from to (job_of t n)) (share_of kind (job_of t n)) 0 ≡ more = cc in
    total_more _ n ∙ ap (λ (x : ℕ). demand_up_to kind t from to n + x) e
  where
    both : (a b : Bool) (x : ℕ) → cond (a && b) x 0 ≡ cond a (cond b x 0) 0
    both true b x = refl
    both false b x = refl

-- ---- the running totals of a day

pub totalled : (d : Day) (totals : List ℕ) → Summed d totals → Totalled d.table.slots totals
totalled d totals summed =
    record {
      short = summed.good.few_slots;
      small = summed.totals_are.small;
      rises = λ from to h l. let read = harvest_read_lem d totals summed from to h l in omega arith;
    }

-- ---- what is due, while it is set

pub due_more : (kind : Kind) (t : Table) (to n : ℕ) (due : List ℕ) (amount : ℕ) → n < length due → DueBy kind t n to due
    → amount ≡ due_share kind t to n → amount ≤ most_due kind → DueBy kind t (n + 1) to (set due n amount)
due_more kind t to n due amount within before is most =
    record {
      share = below_more _ n (λ k h. kept k h ∙ before.share k h) (new ∙ is);
      small = below_more (λ k. get_or (set due n amount) k 0 ≤ most_due kind) n (λ k h. rw (kept k h) (before.small k h)) (rw new most);
    }
  where
    kept : (k : ℕ) → k < n → get_or (set due n amount) k 0 ≡ get_or due k 0
    kept k h = get_or-set_other due n k amount 0 (λ e. omega arith)

    new : get_or (set due n amount) n 0 ≡ amount
    new = get_or-set_same due n amount 0 within

-- ---- the next deadline: of the first k jobs the least one after a slot, or any number above the day where none comes

pub record Least (t : Table) (after k least : ℕ) : Type 0 where
  pub is_one : least ≤ t.slots → (after < least) × ((i : ℕ) × (i < t.count) × ((job_of t i).deadline ≡ least))
  pub none_less : (i : ℕ) → i < k → after < (job_of t i).deadline → least ≤ (job_of t i).deadline

-- job k's deadline, as the code reads it
module _ (t : Table) (after k least own : ℕ) (is : own ≡ (job_of t k).deadline) (s : Least t after k least) where
  pub least_stays : (after < own → least ≤ own) → Least t after (k + 1) least
  least_stays h = record { is_one = s.is_one; none_less = below_more _ k s.none_less (λ l. let m = h (omega arith) in omega arith) }

  pub least_moves : k < t.count → after < own → own < least → Least t after (k + 1) own
  least_moves h a b =
      record { is_one = λ l. (a, (k, h, sym is)); none_less = below_more _ k (λ i l m. let n = s.none_less i l m in omega arith) (λ l. omega arith) }

module _ (d : Day) where
  when_nothing : (b : Bool) (x : Option Overload) → (b ≡ true → x ≡ None) → cond b x None ≡ None
  when_nothing true x e = e refl
  when_nothing false x e = refl

  -- ---- the latest start: what is found is found below `earliest`, and the jobs before k give no later one

  pub record LatestSoFar (to k : ℕ) (latest : Option Overload) (earliest : ℕ) : Type 0 where
    pub in_time : earliest ≤ to
    pub is_it : latest_start d to earliest ≡ latest
    pub none_later : (i : ℕ) → i < k → earliest ≤ (job_of d.table i).release → (job_of d.table i).release < to
        → found_at d (job_of d.table i).release to ≡ None

  pub latest_first : (to : ℕ) → LatestSoFar to 0 None 0
  unfolding latest_start
  latest_first to = record { in_time = omega arith; is_it = refl; none_later = λ i l. absurd (not-suc-le-zero l) }

  -- job k's release, as the code reads it
  module _ (to k from : ℕ) (is : from ≡ (job_of d.table k).release) (latest : Option Overload) (earliest : ℕ) (s : LatestSoFar to k latest earliest) where
    pub latest_stays : (earliest ≤ from → from < to → found_at d from to ≡ None) → LatestSoFar to (k + 1) latest earliest
    latest_stays h =
        record {
          in_time = s.in_time;
          is_it = s.is_it;
          none_later = below_more _ k s.none_later (subst (λ (n : ℕ). earliest ≤ n → n < to → found_at d n to ≡ None) is h);
        }

    pub latest_moves : (found : Option Overload) (o : Overload) → k < d.table.count → earliest ≤ from → from < to → found ≡ found_at d from to → found ≡ Some o
        → LatestSoFar to (k + 1) found (from + 1)
    unfolding latest_start
    latest_moves found o h a b e is_o =
        record {
          in_time = omega arith;
          is_it = rw (add-one from, (release_exactly d from).1 (k, h, sym is), sym e ∙ is_o) (sym is_o);
          none_later =
              below_more (λ i. from + 1 ≤ (job_of d.table i).release → (job_of d.table i).release < to → found_at d (job_of d.table i).release to ≡ None) k
              (λ i l m. s.none_later i l (omega arith))
              (λ l m. absurd (omega arith));
        }

  -- starts that give nothing change nothing
  starts_pass : (to m n : ℕ) → m ≤ n → ((i : ℕ) → m ≤ i → i < n → start_at d to i ≡ None) → latest_start d to n ≡ latest_start d to m
  unfolding latest_start
  starts_pass to m zero h none = let e : zero ≡ m = omega arith in ap (latest_start d to) e
  starts_pass to m (suc n) h none =
      elim (dec_le m n) [
        | yes l ↦ rw (none n l (omega arith)) (starts_pass to m n l (λ i a b. none i a (omega arith)))
        | no l ↦ let e : suc n ≡ m = omega arith in ap (latest_start d to) e
      ]

  pub latest_found : (to : ℕ) (latest : Option Overload) (earliest : ℕ) → LatestSoFar to d.table.count latest earliest → latest ≡ latest_start d to to
  latest_found to latest earliest s =
      sym s.is_it
      ∙ sym
      (starts_pass to earliest to s.in_time
      (λ i a b.
      when_nothing _ _
      (λ r.
      let w = (release_exactly d i).0 r in
      subst (λ (n : ℕ). earliest ≤ n → n < to → found_at d n to ≡ None) w.2 (s.none_later w.0 w.1) a b)))

  -- ---- the ends

  pub ends_first : smallest_end d 0 ≡ None
  unfolding smallest_end
  ends_first = refl

  ends_pass : (m n : ℕ) → m ≤ n → smallest_end d m ≡ None → ((i : ℕ) → m < i → i ≤ n → is_deadline d i ≡ false) → smallest_end d n ≡ None
  unfolding smallest_end
  ends_pass m zero h e none = let same : m ≡ zero = omega arith in subst (λ (i : ℕ). smallest_end d i ≡ None) same e
  ends_pass m (suc n) h e none =
      elim (dec_le m n) [
        | yes l ↦ rw (ends_pass m n l e (λ i a b. none i a (omega arith)), none (suc n) (omega arith) (omega arith))
        | no l ↦ let same : m ≡ suc n = omega arith in subst (λ (i : ℕ). smallest_end d i ≡ None) same e
      ]

  pub ends_stay : (m n : ℕ) (o : Overload) → m ≤ n → smallest_end d m ≡ Some o → smallest_end d n ≡ Some o
  unfolding smallest_end
  ends_stay m zero o h e = let same : m ≡ zero = omega arith in subst (λ (i : ℕ). smallest_end d i ≡ Some o) same e
  ends_stay m (suc n) o h e =
      elim (dec_le m n) [
        | yes l ↦ rw (ends_stay m n o l e)
        | no l ↦ let same : m ≡ suc n = omega arith in subst (λ (i : ℕ). smallest_end d i ≡ Some o) same e
      ]

  -- nothing is found up to slot `after`, and what comes next is known
  module _ (after : ℕ) (none : smallest_end d after ≡ None) where
    pub ends_none : after ≤ d.table.slots → NextDeadline d.table after None → smallest_end d d.table.slots ≡ None
    ends_none h last =
        ends_pass after d.table.slots h none
        (λ i a b.
        ⊎_elim
        (λ e.
        let w = (deadline_exactly d i).0 e in
        let same = w.2 in
        let beyond = last w.0 w.1 (omega arith) in
        absurd (omega arith))
        (λ e. e)
        (either (is_deadline d i)))

    module _ (next : ℕ) (is : IsNext d.table after next) where
      no_deadline : (i : ℕ) → after < i → i < next → is_deadline d i ≡ false
      no_deadline i a b =
          ⊎_elim
          (λ e.
          let w = (deadline_exactly d i).0 e in
          let same = w.2 in
          let n = is.none_nearer w.0 w.1 (omega arith) in
          absurd (omega arith))
          (λ e. e)
          (either (is_deadline d i))

      pub ends_next : smallest_end d next ≡ latest_start d next next
      unfolding smallest_end
      ends_next = go next refl
        where
          go : (n : ℕ) → next ≡ n → smallest_end d n ≡ latest_start d n n
          go zero e = let l = is.later in absurd (omega arith)
          go (suc n) e =
              let l = is.later in
              let one : is_deadline d (suc n) ≡ true = subst (λ (i : ℕ). is_deadline d i ≡ true) e ((deadline_exactly d next).1 is.is_one) in
              rw (ends_pass after n (omega arith) none (λ i a b. no_deadline i a (omega arith)), one)
