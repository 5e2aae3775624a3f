-- Steps over a range, one after the other.
use Rattle.std.proofs.Common.{◌≡◌, refl, ap, ℕ, zero, suc, ◌+◌, ◌-◌, ◌≤◌, ◌<◌, arith}
use mathlib.Core.Logic.{◌⊎◌, inl, inr}
use Rattle.split.proofs.laws.Places.{le_or_lt}
use Rattle.tables.specs.Steps.{stepped, over}

module _ {L : Type 0} (f : L → ℕ → L) (l : L) (from : ℕ) where
  none : (n : ℕ) → n ≡ 0 → l ≡ stepped f l from n
  unfolding stepped
  none zero e = refl
  none (suc n) e = absurd (omega (arith, e))

  -- a range that ends where it starts, or before, has no step
  pub over_none : (to : ℕ) → to ≤ from → l ≡ over f l from to
  over_none to h = none (to - from) (omega (arith, h))

  more : (n j k : ℕ) → j ≡ suc n → k ≡ from + n → f (stepped f l from n) k ≡ stepped f l from j
  unfolding stepped
  more n j k e h = rw (e, h)

  pub over_next : (k : ℕ) → from ≤ k → f (over f l from k) k ≡ over f l from (k + 1)
  over_next k h = more (k - from) (k + 1 - from) k (omega (arith, h)) (omega (arith, h))

  -- a loop that is done stands at its end, or at its start where that is past the end
  pub over_done : (to k : ℕ) → from ≤ k → (from < k → k ≤ to) → to ≤ k → over f l from k ≡ over f l from to
  over_done to k a b h = ap (stepped f l from) (go (le_or_lt k from))
    where
      go : (k ≤ from) ⊎ (from < k) → k - from ≡ to - from
      go (inl x) = omega (arith, a, h, x)
      go (inr x) = omega (arith, b x, h, x)
