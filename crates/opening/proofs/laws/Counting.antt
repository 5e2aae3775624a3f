-- Counting below a number: bounds, parts, stretches where the test fails, and whether there is one.
use mathlib.Core.Path.{◌≡◌, refl}
use mathlib.Core.Bool.{Bool, true, false, ◌||◌, ◌&&◌, cond}
use Prim.Native.Nat.{ℕ, zero, suc, ◌+◌, ◌≤◌, ◌<◌}
use native.Mathlib.Nat.{add-zero, zero-add, add-suc, add_assoc}
use native.Mathlib.Omega.{arith}
use borrow.Author.Tests.{lt-ltb}
use lib.Dec.{ltb}
use Rattle.intake.specs.Search.{any, count}
use Rattle.intake.proofs.laws.Search.{any_some}

-- only the places below n matter
pub count_same : (test test' : ℕ → Bool) (n : ℕ) → ((i : ℕ) → i < n → test i ≡ test' i) → count test n ≡ count test' n
unfolding count
count_same test test' zero s = refl
count_same test test' (suc n) s = rw (count, s n (omega arith), count_same test test' n (λ i h. s i (omega arith)))

module _ (test : ℕ → Bool) where
  pub count_below : (n : ℕ) → count test n ≤ n
  unfolding count
  count_below zero = omega arith
  count_below (suc n) = go (test n) (count_below n)
    where
      go : (b : Bool) → count test n ≤ n → count test n + cond b 1 0 ≤ suc n
      go true h = omega arith
      go false h = omega arith

  -- the places below m and the d places from m on
  pub count_add : (m d : ℕ) → count test (m + d) ≡ count test m + count (λ i. test (m + i)) d
  unfolding count
  count_add m zero = rw (add-zero, add-zero)
  count_add m (suc d) = rw (add-suc, count, count_add m d, add_assoc)

  pub count_zero : (n : ℕ) → ((i : ℕ) → i < n → test i ≡ false) → count test n ≡ 0
  unfolding count
  count_zero zero h = refl
  count_zero (suc n) h = rw (count, h n (omega arith), count_zero n (λ i l. h i (omega arith)))

  -- there is one exactly if the number is over 0
  pub any_count : (n : ℕ) → any test n ≡ ltb 0 (count test n)
  unfolding any count
  any_count zero = refl
  any_count (suc n) = rw (any, any_count n, count) (go (count test n) (test n))
    where
      go : (c : ℕ) (b : Bool) → ltb 0 c || b ≡ ltb 0 (c + cond b 1 0)
      go zero true = refl
      go zero false = refl
      go (suc c) b = rw (lt-ltb 0 (suc c) (omega arith), lt-ltb 0 (suc c + cond b 1 0) (omega arith))

  -- a test that holds at one place at most
  pub count_once : (p : Bool) (n : ℕ) → ((i j : ℕ) → i < n → j < n → test i ≡ true → test j ≡ true → i ≡ j) → count (λ i. test i && p) n ≡ cond (any test n && p) 1 0
  unfolding any count
  count_once p zero h = refl
  count_once p (suc n) h = rw (any, count, count_once p n (λ i j k l. h i j (omega arith) (omega arith))) (go (any test n) (test n) refl refl)
    where
      go : (a b : Bool) → any test n ≡ a → test n ≡ b → cond (a && p) 1 0 + cond (b && p) 1 0 ≡ cond ((a || b) && p) 1 0
      go true true x y = let (i, l, t) = any_some test n x in absurd (omega (arith, h i n (omega arith) (omega arith) t y))
      go true false x y = rw add-zero
      go false b x y = rw zero-add
