-- What the choice finds: "the smallest deadline, ties the lowest number".
use Prim.Native.Nat.{ℕ, zero, suc, ◌+◌, ◌<◌, ◌≤◌}
use mathlib.Core.Path.{◌≡◌, refl, sym, ap, ap₂, ◌∙◌, subst}
use mathlib.Core.Bool.{Bool, true, false, cond}
use mathlib.Core.Logic.Iff
use mathlib.Core.Logic.{◌↔◌, ⊎_elim}
use native.Mathlib.Nat.{not-suc-le-zero}
use native.Mathlib.Numerals.{add-one}
use native.Mathlib.Decide.{dec_lt}
use native.Mathlib.Omega.{arith}
use lib.Dec.{ltb}
use borrow.Author.Tests.{ltb-true, ltb-false, le-ltb}
use Rattle.std.specs.Prelude.{Option, Some, None}
use Rattle.sheet.specs.Table.{Day}
use Rattle.sheet.proofs.Exactly.{either, never_both}
use Rattle.choice.specs.Choosing.{smaller, earliest, deadline_of, left_of, ready, chosen, unfinished}
use Rattle.choice.specs.declared.State.{State}

-- ---- the fold, one number more

pub earliest_none : (test : ℕ → Bool) (deadline : ℕ → ℕ) → earliest test deadline 0 ≡ None
unfolding earliest
earliest_none test deadline = refl

module _ (test : ℕ → Bool) (deadline : ℕ → ℕ) (n : ℕ) (so_far : Option ℕ) (is : so_far ≡ earliest test deadline n) where
  pub earliest_passes : test n ≡ true → smaller deadline so_far n ≡ earliest test deadline (n + 1)
  unfolding earliest
  earliest_passes e = sym (ap (earliest test deadline) (add-one n) ∙ rw (e, is))

  pub earliest_fails : test n ≡ false → so_far ≡ earliest test deadline (n + 1)
  unfolding earliest
  earliest_fails e = sym (ap (earliest test deadline) (add-one n) ∙ rw (e, is))

-- ---- in the paper's words

-- k passes the test, none that passes has a smaller deadline, and none of a lower number has the same
pub record IsEarliest (test : ℕ → Bool) (deadline : ℕ → ℕ) (n k : ℕ) : Type 0 where
  pub below : k < n
  pub passes : test k ≡ true
  pub smallest : (i : ℕ) → i < n → test i ≡ true → deadline k ≤ deadline i
  pub lowest : (i : ℕ) → i < k → test i ≡ true → deadline k < deadline i

abbrev pub FoundAmong : (ℕ → Bool) → (ℕ → ℕ) → ℕ → Option ℕ → Type 0
FoundAmong test deadline n None = (i : ℕ) → i < n → test i ≡ false
FoundAmong test deadline n (Some k) = IsEarliest test deadline n k

module _ (test : ℕ → Bool) (deadline : ℕ → ℕ) where
  skipped : (n : ℕ) → test n ≡ false → (c : Option ℕ) → FoundAmong test deadline n c → FoundAmong test deadline (suc n) c
  skipped n e None f = λ i h. elim (dec_lt i n) [ yes l ↦ f i l | no l ↦ let same : n ≡ i = omega arith in subst (λ (j : ℕ). test j ≡ false) same e ]
  skipped n e (Some k) f =
      let l = f.below in
      record {
        below = omega arith;
        passes = f.passes;
        smallest = λ i h p. elim (dec_lt i n) [ yes m ↦ f.smallest i m p | no m ↦ let same : n ≡ i = omega arith in absurd (never_both p (subst (λ (j : ℕ). test j ≡ false) same e)) ];
        lowest = f.lowest;
      }

  taken : (n : ℕ) → test n ≡ true → (c : Option ℕ) → FoundAmong test deadline n c → FoundAmong test deadline (suc n) (smaller deadline c n)
  taken n e None f =
      record {
        below = omega arith;
        passes = e;
        smallest = λ i h p. elim (dec_lt i n) [ yes m ↦ absurd (never_both p (f i m)) | no m ↦ let same : n ≡ i = omega arith in subst (λ (j : ℕ). deadline n ≤ deadline j) same (omega arith) ];
        lowest = λ i h p. absurd (never_both p (f i h));
      }
  taken n e (Some k) f =
      let l = f.below in
      ⊎_elim
      (λ t.
      let less : deadline n < deadline k = ltb-true _ _ t in
      rw t
      (record {
        below = omega arith;
        passes = e;
        smallest = λ i h p. elim (dec_lt i n) [ yes m ↦ let s = f.smallest i m p in omega arith | no m ↦ let same : n ≡ i = omega arith in subst (λ (j : ℕ). deadline n ≤ deadline j) same (omega arith) ];
        lowest = λ i h p. let s = f.smallest i h p in omega arith;
      }))
      (λ t.
      let more : deadline k ≤ deadline n = ltb-false _ _ t in
      rw t
      (record {
        below = omega arith;
        passes = f.passes;
        smallest = λ i h p. elim (dec_lt i n) [ yes m ↦ f.smallest i m p | no m ↦ let same : n ≡ i = omega arith in subst (λ (j : ℕ). deadline k ≤ deadline j) same more ];
        lowest = f.lowest;
      }))
      (either (ltb (deadline n) (deadline k)))

  -- The chosen number passes the test, has the smallest deadline among those that do, and of equal deadlines the lowest number; Nobody is
  -- chosen exactly where none passes.
  pub earliest_is : (n : ℕ) → FoundAmong test deadline n (earliest test deadline n)
  unfolding earliest
  earliest_is zero = λ i h. absurd (not-suc-le-zero h)
  earliest_is (suc n) =
      ⊎_elim
      (λ e. rw e (taken n e (earliest test deadline n) (earliest_is n)))
      (λ e. rw e (skipped n e (earliest test deadline n) (earliest_is n)))
      (either (test n))

-- what is chosen is below the count, and passes
pub chosen_passes : (test : ℕ → Bool) (deadline : ℕ → ℕ) (n k : ℕ) → earliest test deadline n ≡ Some k → IsEarliest test deadline n k
chosen_passes test deadline n k e = subst (FoundAmong test deadline n) e (earliest_is test deadline n)

-- The chosen job is ready, has the smallest deadline of the ready jobs, and among those the lowest number.
pub chosen_is : (d : Day) (s : State) (k : ℕ) → chosen d s ≡ Some k → IsEarliest (ready d s) (deadline_of d) d.table.count k
unfolding chosen
chosen_is d s k e = chosen_passes (ready d s) (deadline_of d) d.table.count k e

-- tests and deadlines that agree below n choose alike
pub earliest_same : (p q : ℕ → Bool) (f g : ℕ → ℕ) (n : ℕ) → ((k : ℕ) → k < n → p k ≡ q k) → ((k : ℕ) → k < n → f k ≡ g k)
    → earliest p f n ≡ earliest q g n
unfolding earliest
earliest_same p q f g zero e h = refl
earliest_same p q f g (suc n) e h =
    let before : earliest p f n ≡ earliest q g n = earliest_same p q f g n (λ k l. e k (omega arith)) (λ k l. h k (omega arith)) in
    rw (e n (omega arith), before) (ap (λ (c : Option ℕ). cond (q n) c (earliest q g n)) (beside (earliest q g n) refl))
  where
    beside : (c : Option ℕ) → earliest q g n ≡ c → smaller f c n ≡ smaller g c n
    beside None w = refl
    beside (Some m) w =
        let below = (chosen_passes q g n m w).below in
        ap₂ (λ (a b : ℕ). cond (ltb a b) (Some n) (Some m)) (h n (omega arith)) (h m (omega arith))

-- nobody is found exactly where none passes
pub nobody_passes : (test : ℕ → Bool) (deadline : ℕ → ℕ) (n : ℕ) → (earliest test deadline n ≡ None) ↔ ((k : ℕ) → k < n → test k ≡ false)
nobody_passes test deadline n = (
  (λ e. subst (FoundAmong test deadline n) e (earliest_is test deadline n)),
  (λ none. go (earliest test deadline n) refl none),
)
  where
    go : (c : Option ℕ) → earliest test deadline n ≡ c → ((k : ℕ) → k < n → test k ≡ false) → earliest test deadline n ≡ None
    go None e none = e
    go (Some k) e none = let is = chosen_passes test deadline n k e in absurd (never_both is.passes (none k is.below))

-- Nobody is chosen exactly where no job is ready.
pub nobody_ready : (d : Day) (s : State) → (chosen d s ≡ None) ↔ ((k : ℕ) → k < d.table.count → ready d s k ≡ false)
unfolding chosen
nobody_ready d s = nobody_passes (ready d s) (deadline_of d) d.table.count

-- Nobody is unfinished exactly where every job got its slots.
pub nobody_unfinished : (d : Day) (s : State) → (unfinished d s ≡ None) ↔ ((k : ℕ) → k < d.table.count → left_of s k ≡ 0)
unfolding unfinished
nobody_unfinished d s =
    Iff.trans (nobody_passes (λ k. ltb 0 (left_of s k)) (deadline_of d) d.table.count) (
      (λ none k h. let l = ltb-false 0 (left_of s k) (none k h) in omega arith),
      (λ done k h. le-ltb 0 (left_of s k) (let e = done k h in omega arith)),
    )
