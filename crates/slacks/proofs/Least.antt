-- The slacks: each is the least over the jobs that the paper names, and what the rules ask of it is a test on some job.
use Prim.Native.Nat.{ℕ, zero, suc, ◌+◌, ◌-◌, ◌<◌}
use mathlib.Core.Path.{◌≡◌, refl, sym, ap, ◌∙◌, subst}
use mathlib.Core.Bool.{Bool, true, false, not, ◌||◌, ◌&&◌, or-false}
use mathlib.Core.Logic.{⊎_elim}
use native.Mathlib.Nat.{not-suc-le-zero}
use native.Mathlib.Decide.{dec_lt}
use native.Mathlib.Omega.{arith}
use lib.Dec.{T, ltb, leb-suc-suc, ltb→lt, le→leb}
use lib.IntN.{ℤ, pos, negsuc, neg_ℤ, sub_ℕ, ◌+ℤ◌, ◌-ℤ◌, +ℤ_assoc, neg_ℤ-+ℤ, pos-+ℤ-pos}
use lib.Signed.{lt_z, le_z, ◌≤ℤ◌, ◌<ℤ◌, lt_z_yes, lt_z_no, ≤ℤ_refl, <ℤ-≤ℤ_trans}
use borrow.Author.Tests.{lt-ltb, le-ltb, ltb-true, ltb-false}
use Rattle.sheet.specs.Sums.{some}
use Rattle.sheet.proofs.Exactly.{either, never_both}
use Rattle.slacks.specs.Slack.{Slack, unlimited, exactly, lesser, least, zero_or_less, is_below}

-- ---- tests

-- two tests that hold together are one
pub one_test : (x y : Bool) → (x ≡ true → y ≡ true) → (y ≡ true → x ≡ true) → x ≡ y
one_test true y f g = sym (f refl)
one_test false true f g = absurd (never_both (g refl) refl)
one_test false false f g = refl

or_true : (b : Bool) → (b || true) ≡ true
or_true true = refl
or_true false = refl

-- ---- differences

minus : (a b : ℕ) → pos a -ℤ pos b ≡ sub_ℕ a b
minus a zero = let e : a + 0 ≡ a - 0 = omega arith in rw (le-ltb a 0 (omega arith)) (ap pos e)
minus a (suc b) = refl

minus_two : (a b c : ℕ) → pos a -ℤ pos b -ℤ pos c ≡ sub_ℕ a (b + c)
minus_two a b c =
    +ℤ_assoc (pos a) (neg_ℤ (pos b)) (neg_ℤ (pos c))
    ∙ ap (λ (z : ℤ). pos a +ℤ z) (sym (neg_ℤ-+ℤ (pos b) (pos c)) ∙ ap neg_ℤ (pos-+ℤ-pos b c))
    ∙ minus a (b + c)

-- a − b is below e exactly when a is below b + e
below_difference : (a b e : ℕ) → lt_z (sub_ℕ a b) (pos e) ≡ ltb a (b + e)
below_difference a b e =
    ⊎_elim
    (λ l. rw l (sym (lt-ltb a (b + e) (let h = ltb-true a b l in omega arith))))
    (λ l.
    let h = ltb-false a b l in
    rw l
    (one_test (ltb (a - b) e) (ltb a (b + e))
    (λ p. let q = ltb-true (a - b) e p in lt-ltb a (b + e) (omega arith))
    (λ p. let q = ltb-true a (b + e) p in lt-ltb (a - b) e (omega arith))))
    (either (ltb a b))

-- the two forms of the paper
pub below_one : (a b e : ℕ) → lt_z (pos a -ℤ pos b) (pos e) ≡ ltb a (b + e)
below_one a b e = ap (λ (z : ℤ). lt_z z (pos e)) (minus a b) ∙ below_difference a b e

pub below_two : (a b c e : ℕ) → lt_z (pos a -ℤ pos b -ℤ pos c) (pos e) ≡ ltb a (b + c + e)
below_two a b c e = ap (λ (z : ℤ). lt_z z (pos e)) (minus_two a b c) ∙ below_difference a (b + c) e

-- ---- the least, and a number

lesser_below : (e : ℕ) (z : ℤ) (s : Slack) → is_below (lesser z s) e ≡ (is_below s e || lt_z z (pos e))
lesser_below e z unlimited = refl
lesser_below e (pos a) (exactly (pos b)) =
    ⊎_elim
    (λ l.
    let h = ltb-true a b l in
    rw l
    (one_test (ltb a e) (ltb b e || ltb a e)
    (λ p. ap (λ (x : Bool). ltb b e || x) p ∙ or_true (ltb b e))
    (λ p. ⊎_elim (λ q. let k = ltb-true b e q in lt-ltb a e (omega arith)) (λ q. ap (λ (x : Bool). x || ltb a e) (sym q) ∙ p) (either (ltb b e)))))
    (λ l.
    let h = ltb-false a b l in
    rw l
    (one_test (ltb b e) (ltb b e || ltb a e)
    (λ p. ap (λ (x : Bool). x || ltb a e) p)
    (λ p. ⊎_elim (λ q. q) (λ q. let r : ltb a e ≡ true = ap (λ (x : Bool). x || ltb a e) (sym q) ∙ p in let k = ltb-true a e r in lt-ltb b e (omega arith)) (either (ltb b e)))))
    (either (ltb a b))
lesser_below e (pos a) (exactly (negsuc b)) = refl
lesser_below e (negsuc a) (exactly (pos b)) = sym (or_true (ltb b e))
lesser_below e (negsuc a) (exactly (negsuc b)) = ⊎_elim (λ l. rw l) (λ l. rw l) (either (ltb b a))

-- the least is below e exactly when one of the numbers is
pub least_below : (e : ℕ) (test : ℕ → Bool) (f : ℕ → ℤ) (n : ℕ) → is_below (least test f n) e ≡ some (λ k. test k && lt_z (f k) (pos e)) n
unfolding least some
least_below e test f zero = refl
least_below e test f (suc n) =
    ⊎_elim
    (λ t. rw t (lesser_below e (f n) (least test f n) ∙ ap (λ (x : Bool). x || lt_z (f n) (pos e)) (least_below e test f n)))
    (λ t. rw t (least_below e test f n ∙ sym (or-false (some (λ k. test k && lt_z (f k) (pos e)) n))))
    (either (test n))

-- "0 or less" is "below 1"
pub zero_or_less_lem : (s : Slack) → zero_or_less s ≡ is_below s 1
zero_or_less_lem unlimited = refl
zero_or_less_lem (exactly (pos a)) = sym (leb-suc-suc a 0)
zero_or_less_lem (exactly (negsuc a)) = refl

below_at_most : (a b : ℤ) → T (lt_z a b) → T (le_z a b)
below_at_most (pos a) (pos b) h = let l = ltb→lt a b h in le→leb a b (omega arith)
below_at_most (pos a) (negsuc b) h = h
below_at_most (negsuc a) (pos b) h = h
below_at_most (negsuc a) (negsuc b) h = let l = ltb→lt b a h in le→leb b a (omega arith)

-- ---- in the paper's words

-- z is the least of f over the numbers below n that pass the test
pub record IsLeast (test : ℕ → Bool) (f : ℕ → ℤ) (n : ℕ) (z : ℤ) : Type 0 where
  pub at : (k : ℕ) × (k < n) × (test k ≡ true) × (f k ≡ z)
  pub least_of : (k : ℕ) → k < n → test k ≡ true → z ≤ℤ f k

abbrev pub LeastAmong : (ℕ → Bool) → (ℕ → ℤ) → ℕ → Slack → Type 0
LeastAmong test f n unlimited = (k : ℕ) → k < n → test k ≡ false
LeastAmong test f n (exactly z) = IsLeast test f n z

module _ (test : ℕ → Bool) (f : ℕ → ℤ) where
  passed_over : (n : ℕ) → test n ≡ false → (s : Slack) → LeastAmong test f n s → LeastAmong test f (suc n) s
  passed_over n e unlimited h = λ k l. elim (dec_lt k n) [ yes m ↦ h k m | no m ↦ let same : n ≡ k = omega arith in subst (λ (j : ℕ). test j ≡ false) same e ]
  passed_over n e (exactly z) h =
      let w = h.at in
      let l = w.1 in
      record {
        at = (w.0, omega arith, w.2, w.3);
        least_of =
            λ k m p. elim (dec_lt k n) [
              | yes q ↦ h.least_of k q p
              | no q ↦ let same : n ≡ k = omega arith in absurd (never_both p (subst (λ (j : ℕ). test j ≡ false) same e))
            ];
      }

  taken_in : (n : ℕ) → test n ≡ true → (s : Slack) → LeastAmong test f n s → LeastAmong test f (suc n) (lesser (f n) s)
  taken_in n e unlimited h =
      record {
        at = (n, omega arith, e, refl);
        least_of =
            λ k m p. elim (dec_lt k n) [
              | yes q ↦ absurd (never_both p (h k q))
              | no q ↦ let same : n ≡ k = omega arith in subst (λ (j : ℕ). f n ≤ℤ f j) same (≤ℤ_refl (f n))
            ];
      }
  taken_in n e (exactly z) h =
      let w = h.at in
      let l = w.1 in
      ⊎_elim
      (λ t.
      let less : f n <ℤ z = lt_z_yes (subst T (sym t) tt) in
      rw t
      (record {
        at = (n, omega arith, e, refl);
        least_of =
            λ k m p. elim (dec_lt k n) [
              | yes q ↦ record { le = below_at_most (f n) (f k) (<ℤ-≤ℤ_trans less (h.least_of k q p)).lt }
              | no q ↦ let same : n ≡ k = omega arith in subst (λ (j : ℕ). f n ≤ℤ f j) same (≤ℤ_refl (f n))
            ];
      }))
      (λ t.
      let more : z ≤ℤ f n = lt_z_no (subst (λ (b : Bool). T (not b)) (sym t) tt) in
      rw t
      (record {
        at = (w.0, omega arith, w.2, w.3);
        least_of =
            λ k m p. elim (dec_lt k n) [
              | yes q ↦ h.least_of k q p
              | no q ↦ let same : n ≡ k = omega arith in subst (λ (j : ℕ). z ≤ℤ f j) same more
            ];
      }))
      (either (lt_z (f n) z))

  -- The least is taken at a number that passes the test, and no number that passes has less; it is unlimited exactly where none passes.
  pub least_is : (n : ℕ) → LeastAmong test f n (least test f n)
  unfolding least
  least_is zero = λ k h. absurd (not-suc-le-zero h)
  least_is (suc n) =
      ⊎_elim
      (λ e. rw e (taken_in n e (least test f n) (least_is n)))
      (λ e. rw e (passed_over n e (least test f n) (least_is n)))
      (either (test n))
