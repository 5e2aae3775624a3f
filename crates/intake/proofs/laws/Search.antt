-- Searches below a number: what a loop that goes up by one keeps true, and what the answers mean.
use mathlib.Core.Path.{◌≡◌, refl, sym, ap, ◌∙◌}
use mathlib.Core.Logic.{inl, inr}
use mathlib.Core.Bool.{Bool, true, false, ◌||◌, true≢false}
use Prim.Native.Nat.{ℕ, zero, suc, ◌+◌, ◌<◌}
use native.Mathlib.Nat.{eq-or-lt_of_le, le_of_suc-le-suc}
use native.Mathlib.Numerals.{add-one}
use native.Mathlib.Omega.{arith}
use Rattle.std.proofs.Common.{Option, Some, None}
use Rattle.intake.specs.Search.{or_at, first, any}

-- ---- the smallest place

module _ (test : ℕ → Bool) where
  pub first_start : first test 0 ≡ None
  unfolding first
  first_start = refl

  -- a loop passed place n
  pub first_passed : (n : ℕ) → first test n ≡ None → test n ≡ false → first test (n + 1) ≡ None
  unfolding first
  first_passed n p q = rw (add-one, first, p, q)

  -- a loop stopped at place n: later places do not matter
  pub first_stopped : (n m : ℕ) → first test n ≡ None → test n ≡ true → n < m → first test m ≡ Some n
  unfolding first
  first_stopped n zero p q h = absurd (omega arith)
  first_stopped n (suc m) p q h = elim (eq-or-lt_of_le (le_of_suc-le-suc h)) [ inl e ↦ rw (first, ← e, p, q) | inr l ↦ rw (first, first_stopped n m p q l) ]

  -- nothing was found
  pub first_none : (n : ℕ) → first test n ≡ None → (k : ℕ) → k < n → test k ≡ false
  unfolding first
  first_none zero e k h = absurd (omega arith)
  first_none (suc n) e k h = go (first test n) (test n) refl refl e (first_none n)
    where
      go : (f : Option ℕ) (b : Bool) → first test n ≡ f → test n ≡ b → or_at f b n ≡ None → (first test n ≡ None → (k : ℕ) → k < n → test k ≡ false) → test k ≡ false
      go (Some p) b f t x ih = let z : ◌≡◌ {A = ℕ} 0 1 = cc in absurd (omega arith)
      go None true f t x ih = let z : ◌≡◌ {A = ℕ} 0 1 = cc in absurd (omega arith)
      go None false f t x ih = elim (eq-or-lt_of_le (le_of_suc-le-suc h)) [ inl i ↦ ap test i ∙ t | inr l ↦ ih f k l ]

  -- ---- whether there is one

  pub any_has : (n k : ℕ) → k < n → test k ≡ true → any test n ≡ true
  unfolding any
  any_has zero k h t = absurd (omega arith)
  any_has (suc n) k h t = elim (eq-or-lt_of_le (le_of_suc-le-suc h)) [ inl e ↦ rw (any, ← e, t, or_true) | inr l ↦ rw (any, any_has n k l t) ]
    where
      or_true : (b : Bool) → b || true ≡ true
      or_true true = refl
      or_true false = refl

  pub any_none : (n : ℕ) → ((k : ℕ) → k < n → test k ≡ false) → any test n ≡ false
  unfolding any
  any_none zero h = refl
  any_none (suc n) h = rw (any, any_none n (λ k l. h k (omega arith)), h n (omega arith))

  pub any_some : (n : ℕ) → any test n ≡ true → (k : ℕ) × (k < n) × (test k ≡ true)
  unfolding any
  any_some zero e = absurd (true≢false (sym e))
  any_some (suc n) e = go (any test n) (test n) refl refl e (any_some n)
    where
      go : (a b : Bool) → any test n ≡ a → test n ≡ b → (a || b) ≡ true → (any test n ≡ true → (k : ℕ) × (k < n) × (test k ≡ true)) → (k : ℕ) × (k < suc n) × (test k ≡ true)
      go true b x y z ih = let (k, l, t) = ih x in (k, omega arith, t)
      go false b x y z ih = (n, omega arith, y ∙ z)
