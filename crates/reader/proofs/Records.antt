-- From what the reader's steps find to its promise: the trailer's refusal or its numbers, and then the first record that is refused, or none.
use Prim.Native.Nat.{ℕ, ◌+◌, ◌<◌, ◌≤◌}
use mathlib.Core.Path.{◌≡◌, sym, ap, ap₂, ◌∙◌, subst}
use mathlib.Core.List.{List}
use Rattle.std.specs.Prelude.{Ok}
use mathlib.Core.Bool.{Bool, true, false}
use native.Mathlib.Omega.{arith}
use lib.ListN.{length, set}
use borrow.Author.Tests.{lt-ltb, le-ltb}
use Rattle.sheet.specs.Lists.{filled}
use Rattle.sheet.specs.Paper.{Check, gives, in_order}
use Rattle.sheet.specs.Refusals.{refusal_says, record_says}
use Rattle.sheet.specs.Table.{most_jobs, no_job, counts_fault, window_fault, work_fault}
use Rattle.sheet.specs.Sheet.{trailer_length, jobs_in, slots_in, capacity_in, job_in, last_byte_in, mark_fault, layout_fault, sheet_says, table_in}
use Rattle.sheet.specs.declared.Job.{Job}
use Rattle.sheet.specs.declared.Table.{Table}
use Rattle.sheet.specs.declared.Refusal.{Refusal}
use Rattle.sheet.specs.declared.Refusal.TheVariants.{Short, Mark, Counts, Layout}
use Rattle.sheet.proofs.Lists.{filled_none, filled_more}
use Rattle.sheet.proofs.Order.{Refuses, in_order_none, in_order_clear, in_order_first}
use Rattle.sheet.proofs.Refusals.{refusal_refuses}
use Rattle.sheet.proofs.Words.{counts_words, layout_words}
use Rattle.reader.specs.declared.Trailer.{Trailer}
use Rattle.reader.specs.Promise.{no_table}
use Rattle.reader.specs.Steps.{record_in, Decided, Fills}
use Rattle.reader.proofs.Yielding.{records_decide}

-- ---- the trailer

-- each of the first four refusals, from what the calls answered and the tests showed
pub short_says : (s : List ℕ) → length s < trailer_length → sheet_says s ≡ refusal_says Short
unfolding sheet_says
short_says s short = rw (lt-ltb _ _ short)

module _ (s : List ℕ) (long : trailer_length ≤ length s) (unmarked : Bool) (marks : unmarked ≡ mark_fault s) where
  pub mark_says : unmarked ≡ true → sheet_says s ≡ refusal_says Mark
  unfolding sheet_says
  mark_says e = rw (le-ltb _ _ long, sym marks ∙ e)

  module _ (fine : unmarked ≡ false) (jobs slots : ℕ) (jobs_are : jobs ≡ jobs_in s) (slots_are : slots ≡ slots_in s) (wrong : Bool) (counts : wrong ≡ counts_fault jobs slots) where
    counts_say : wrong ≡ counts_fault (jobs_in s) (slots_in s)
    counts_say = counts ∙ ap₂ counts_fault jobs_are slots_are

    pub counts_says : wrong ≡ true → sheet_says s ≡ refusal_says Counts
    unfolding sheet_says
    counts_says e = rw (le-ltb _ _ long, sym marks ∙ fine, sym counts_say ∙ e)

    module _ (right : wrong ≡ false) (unfit : Bool) (fits : unfit ≡ layout_fault s) where
      pub layout_says : unfit ≡ true → sheet_says s ≡ refusal_says Layout
      unfolding sheet_says
      layout_says e = rw (le-ltb _ _ long, sym marks ∙ fine, sym counts_say ∙ right, sym fits ∙ e)

      pub numbers_read : (capacity : ℕ) → unfit ≡ false → capacity ≡ capacity_in s → Decided s (record { count = jobs; slots = slots; capacity = capacity })
      unfolding table_in
      numbers_read capacity e capacity_are =
          let layout : layout_fault s ≡ false = sym fits ∙ e in
          let whole = (layout_words s).0 layout in
          let counted : counts_fault (jobs_in s) (slots_in s) ≡ false = sym counts_say ∙ right in
          let few = (counts_words (jobs_in s) (slots_in s)).0 counted in
          record {
            says =
                records_decide s (le-ltb _ _ long) (sym marks ∙ fine) counted layout
                ∙ ap₂ (λ (n m : ℕ). in_order (record_in s n) m) (sym slots_are) (sym jobs_are);
            table =
                λ i. record {
                  jobs = filled (job_in s) no_job most_jobs (sym jobs_are i);
                  count = sym jobs_are i;
                  slots = sym slots_are i;
                  capacity = sym capacity_are i;
                };
            few = omega arith;
            fit = omega arith;
          }

-- ---- the records

-- no record before k refuses, and their jobs stand in their places
pub record ReadTo (s : List ℕ) (slots k : ℕ) (places : List Job) : Type 0 where
  pub clear : in_order (record_in s slots) k ≡ gives tt
  pub stand : places ≡ filled (job_in s) no_job most_jobs k

pub read_none : (s : List ℕ) (slots : ℕ) (u : Table) → u ≡ no_table → ReadTo s slots 0 u.jobs
read_none s slots u is = record { clear = in_order_none _; stand = ap (λ (v : Table). v.jobs) is ∙ sym (filled_none (job_in s) no_job most_jobs) }

module _ (s : List ℕ) (slots k : ℕ) (job : Job) (j : job ≡ job_in s k) (a : Check) (said : a ≡ record_says (window_fault slots job) (work_fault job (last_byte_in s k)) k) where
  record_said : a ≡ record_in s slots k
  record_said = said ∙ ap (λ (i : Job). record_says (window_fault slots i) (work_fault i (last_byte_in s k)) k) j

  pub read_more : (places : List Job) → ReadTo s slots k places → a ≡ gives tt → k < most_jobs → ReadTo s slots (k + 1) (set places k job)
  read_more places to told h =
      record {
        clear = in_order_clear (record_in s slots) k to.clear (sym record_said ∙ told);
        stand = rw (j, to.stand) (filled_more (job_in s) no_job most_jobs k h);
      }

module _ (s : List ℕ) (t : Trailer) (numbers : Decided s t) (k : ℕ) (places : List Job) (to : ReadTo s t.slots k places) where
  -- record k refuses
  pub record_refuses : k < t.count → (job : Job) → job ≡ job_in s k → (why : Refusal) → refusal_says why ≡ record_says (window_fault t.slots job) (work_fault job (last_byte_in s k)) k
      → sheet_says s ≡ refusal_says why
  record_refuses h job j why said =
      let e = record_said s t.slots k job j (refusal_says why) said in
      numbers.says ∙ in_order_first (record_in s t.slots) k t.count h to.clear (subst Refuses e (refusal_refuses _ why)) ∙ sym e

  -- there are no more: the check finds this by itself where `fill` returns
  pub records_good : k ≡ t.count → Fills s (Ok tt) (record { jobs = places; count = t.count; slots = t.slots; capacity = t.capacity })
  records_good at_end =
      let clear : in_order (record_in s t.slots) t.count ≡ gives tt = rw at_end at to.clear in
      let stand : places ≡ filled (job_in s) no_job most_jobs t.count = rw at_end at to.stand in
      (numbers.says ∙ clear, (λ i. record { jobs = stand i; count = t.count; slots = t.slots; capacity = t.capacity }) ∙ sym numbers.table)
