-- Counting what passes a test, and the list of what passes: both keep the order.
use mathlib.Core.Path.{◌≡◌, refl, ap, ◌∙◌}
use mathlib.Core.Bool.{Bool, true, false, cond}
use mathlib.Core.List.{[], ◌∷◌, ◌++◌}
use mathlib.Core.Logic.{inl, inr}
use Prim.Native.Nat.{ℕ, zero, suc, ◌+◌, ◌-◌, ◌≤◌, ◌<◌}
use native.Mathlib.Nat.{add-sub_of_le}
use native.Mathlib.Numerals.{add-one}
use native.Mathlib.Omega.{arith}
use lib.ListN.{length, get_or, length-append, get_or-append}
use lib.Seq.{get_or_at}
use Rattle.split.proofs.laws.Places.{Against, less, equal, more, against, le_or_lt}
use Rattle.intake.specs.Search.{count}
use Rattle.opening.proofs.laws.Counting.{count_add}
use Rattle.coarsen_theory.specs.Thinned.{sift}

-- ---- counting

-- the place with a given number
pub record Source (test : ℕ → Bool) (n x : ℕ) : Type 0 where
  pub place : ℕ
  pub there : place < n
  pub passes : test place ≡ true
  pub is : count test place ≡ x

module _ (test : ℕ → Bool) where
  pub count_next : (k : ℕ) → test k ≡ true → count test (k + 1) ≡ count test k + 1
  unfolding count
  count_next k t = rw (add-one k, count, t)

  pub count_up : (k n : ℕ) → k ≤ n → count test k ≤ count test n
  count_up k n h = omega (arith, rw (add-sub_of_le h) at (count_add test k (n - k)))

  pub count_less : (k n : ℕ) → k < n → test k ≡ true → count test k < count test n
  count_less k n h t = omega (arith, count_next k t, count_up (k + 1) n (omega arith))

  -- what passes has different numbers
  pub count_apart : (j k : ℕ) → test j ≡ true → test k ≡ true → count test j ≡ count test k → j ≡ k
  count_apart j k s t e = elim (against j k) [ less h ↦ absurd (omega (arith, count_less j k h s)) | equal i ↦ i | more h ↦ absurd (omega (arith, count_less k j h t)) ]

  -- every number below the count is that of a place that passes
  pub count_from : (n x : ℕ) → x < count test n → Source test n x
  unfolding count
  count_from zero x h = absurd (omega arith)
  count_from (suc n) x h = elim (le_or_lt (count test n) x) [
    | inl l ↦ last (test n) refl l h
    | inr l ↦ let s = count_from n x l in record { place = s.place; there = omega (arith, s.there); passes = s.passes; is = s.is }
  ]
    where
      last : (b : Bool) → test n ≡ b → count test n ≤ x → x < count test n + cond b 1 0 → Source test (suc n) x
      last true t l k = record { place = n; there = omega arith; passes = t; is = omega arith }
      last false t l k = absurd (omega arith)

-- ---- the list of what passes

module _ {A : Type 0} (test : ℕ → Bool) (f : ℕ → A) where
  pub sift_length : (n : ℕ) → length (sift test f n) ≡ count test n
  unfolding sift count
  sift_length zero = refl
  sift_length (suc n) = rw (sift, count, length-append (sift test f n) (cond (test n) (f n ∷ []) []), sift_length n) (ap (λ (x : ℕ). count test n + x) (one_or_none (test n)))
    where
      one_or_none : (b : Bool) → length (cond b (f n ∷ []) []) ≡ cond b 1 0
      one_or_none true = refl
      one_or_none false = refl

  pub sift_at : (n k : ℕ) (d : A) → k < n → test k ≡ true → get_or (sift test f n) (count test k) d ≡ f k
  unfolding sift
  sift_at zero k d h t = absurd (omega arith)
  sift_at (suc n) k d h t = go (against k n) (sift_at n k d)
    where
      go : Against k n → (k < n → test k ≡ true → get_or (sift test f n) (count test k) d ≡ f k) → get_or (sift test f n ++ cond (test n) (f n ∷ []) []) (count test k) d ≡ f k
      go (less l) below = get_or-append (sift test f n) (cond (test n) (f n ∷ []) []) d (count test k) (rw (sift_length n) (count_less test k n l t)) ∙ below l t
      go (equal e) below = rw (← e, t) (get_or_at (sift test f k) (f k) [] d (count test k) (sift_length k))
      go (more l) below = absurd (omega arith)
