-- Tests that agree, or follow from each other, below a number; and what four tests say together.
use Rattle.std.proofs.Common.{None}
use mathlib.Core.Path.{◌≡◌, refl, sym, ◌∙◌}
use mathlib.Core.Bool.{Bool, true, false, ◌&&◌, ◌||◌, cond, true≢false, or-true}
use Prim.Native.Nat.{ℕ, zero, suc, ◌+◌, ◌≤◌, ◌<◌}
use native.Mathlib.Numerals.{add-one}
use native.Mathlib.Omega.{arith}
use Rattle.intake.specs.Search.{first, count}
use Rattle.intake.proofs.laws.Search.{first_start, first_passed}

-- ---- tests as answers

pub and_both : (a b : Bool) → a && b ≡ true → (a ≡ true) × (b ≡ true)
and_both true b e = (refl, e)
and_both false b e = absurd (true≢false (sym e))

pub agree : (a b : Bool) → (a ≡ true → b ≡ true) → (b ≡ true → a ≡ true) → a ≡ b
agree true b f g = sym (f refl)
agree false true f g = g refl
agree false false f g = refl

-- a test fails where one that follows from it fails
pub refuted : (a b : Bool) → (a ≡ true → b ≡ true) → b ≡ false → a ≡ false
refuted true b f e = sym (f refl) ∙ e
refuted false b f e = refl

-- ---- searches

pub first_nowhere : (test : ℕ → Bool) (n : ℕ) → ((k : ℕ) → k < n → test k ≡ false) → first test n ≡ None
first_nowhere test zero h = first_start test
first_nowhere test (suc n) h = rw add-one at (first_passed test n (first_nowhere test n (λ k l. h k (omega arith))) (h n (omega arith)))

-- a test that follows from another holds at no fewer places
pub count_most : (test test' : ℕ → Bool) (n : ℕ) → ((k : ℕ) → k < n → test k ≡ true → test' k ≡ true) → count test n ≤ count test' n
unfolding count
count_most test test' zero h = omega arith
count_most test test' (suc n) h = go (test n) (test' n) (h n (omega arith)) (count_most test test' n (λ k l. h k (omega arith)))
  where
    go : (a b : Bool) → (a ≡ true → b ≡ true) → count test n ≤ count test' n → count test n + cond a 1 0 ≤ count test' n + cond b 1 0
    go true true f c = omega arith
    go true false f c = absurd (true≢false (sym (f refl)))
    go false true f c = omega arith
    go false false f c = omega arith

-- a test that holds everywhere is counted everywhere
pub count_full : (test : ℕ → Bool) (n : ℕ) → ((k : ℕ) → k < n → test k ≡ true) → count test n ≡ n
unfolding count
count_full test zero h = refl
count_full test (suc n) h = rw (count, h n (omega arith), count_full test n (λ k l. h k (omega arith))) (add-one n)

-- ---- four places

pub each_of_four : (P : ℕ → Type 0) → P 0 → P 1 → P 2 → P 3 → (q : ℕ) → q < 4 → P q
each_of_four P a b c d zero h = a
each_of_four P a b c d (suc zero) h = b
each_of_four P a b c d (suc (suc zero)) h = c
each_of_four P a b c d (suc (suc (suc zero))) h = d
each_of_four P a b c d (suc (suc (suc (suc q)))) h = absurd (omega arith)

-- a test that holds at one of the four
module _ (t : ℕ → Bool) where
  pub or_some : t 0 || (t 1 || (t 2 || t 3)) ≡ true → (m : ℕ) × (m < 4) × (t m ≡ true)
  or_some h = go (t 0) (t 1) (t 2) refl refl refl h
    where
      go : (a b c : Bool) → t 0 ≡ a → t 1 ≡ b → t 2 ≡ c → a || (b || (c || t 3)) ≡ true → (m : ℕ) × (m < 4) × (t m ≡ true)
      go true b c x y z e = (0, omega arith, x)
      go false true c x y z e = (1, omega arith, y)
      go false false true x y z e = (2, omega arith, z)
      go false false false x y z e = (3, omega arith, e)

  pub or_has : (m : ℕ) → m < 4 → t m ≡ true → t 0 || (t 1 || (t 2 || t 3)) ≡ true
  or_has m l = each_of_four (λ m. t m ≡ true → t 0 || (t 1 || (t 2 || t 3)) ≡ true) (λ e. rw e) (λ e. rw (e, or-true)) (λ e. rw (e, or-true, or-true)) (λ e. rw (e, or-true, or-true, or-true)) m l

-- the test at the places other than m
abbrev pub but : ℕ → (ℕ → Bool) → Bool
but zero t = t 1 && (t 2 && t 3)
but (suc zero) t = t 0 && (t 2 && t 3)
but (suc (suc zero)) t = t 0 && (t 1 && t 3)
but (suc (suc (suc m))) t = t 0 && (t 1 && t 2)

three_hold : (a b c : Bool) → a && (b && c) ≡ true → (a ≡ true) × (b ≡ true) × (c ≡ true)
three_hold a b c e = let (p, q) = and_both a (b && c) e in (p, (and_both b c q).0, (and_both b c q).1)

module _ (t : ℕ → Bool) where
  pub but_each : (m q : ℕ) → m < 4 → q < 4 → (q ≡ m → ⊥) → but m t ≡ true → t q ≡ true
  but_each m q l h d e =
      each_of_four (λ m. but m t ≡ true → (q ≡ m → ⊥) → t q ≡ true)
      (λ e. let (x, y, z) = three_hold _ _ _ e in place 0 own (λ n. x) (λ n. y) (λ n. z))
      (λ e. let (x, y, z) = three_hold _ _ _ e in place 1 (λ n. x) own (λ n. y) (λ n. z))
      (λ e. let (x, y, z) = three_hold _ _ _ e in place 2 (λ n. x) (λ n. y) own (λ n. z))
      (λ e. let (x, y, z) = three_hold _ _ _ e in place 3 (λ n. x) (λ n. y) (λ n. z) own)
      m l e d
    where
      own : {p : ℕ} → (p ≡ p → ⊥) → t p ≡ true
      own n = absurd (n refl)

      place : (m : ℕ) → ((0 ≡ m → ⊥) → t 0 ≡ true) → ((1 ≡ m → ⊥) → t 1 ≡ true) → ((2 ≡ m → ⊥) → t 2 ≡ true) → ((3 ≡ m → ⊥) → t 3 ≡ true) → (q ≡ m → ⊥) → t q ≡ true
      place m a b c f = each_of_four (λ q. (q ≡ m → ⊥) → t q ≡ true) a b c f q h

  pub but_all : (m : ℕ) → m < 4 → ((q : ℕ) → (q < 4) × (q ≡ m → ⊥) → t q ≡ true) → but m t ≡ true
  but_all m l h =
      each_of_four (λ m. ((q : ℕ) → (q < 4) × (q ≡ m → ⊥) → t q ≡ true) → but m t ≡ true)
      (λ h. rw (h 1 (omega arith), h 2 (omega arith), h 3 (omega arith)))
      (λ h. rw (h 0 (omega arith), h 2 (omega arith), h 3 (omega arith)))
      (λ h. rw (h 0 (omega arith), h 1 (omega arith), h 3 (omega arith)))
      (λ h. rw (h 0 (omega arith), h 1 (omega arith), h 2 (omega arith)))
      m l h
