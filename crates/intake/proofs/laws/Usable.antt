-- A coordinate is usable exactly if it lies between -2 ^ 1000 and 2 ^ 1000 in the order of floats. A NaN is in no order, and an infinity is beyond one end.
use mathlib.Core.Path.{◌≡◌, refl, sym, ◌∙◌}
use mathlib.Core.Logic.{inl, inr}
use mathlib.Core.Bool.{Bool, true, false, ◌&&◌, ◌||◌, or-true, and-true}
use Prim.Native.Nat.{ℕ, ◌+◌, ◌*◌, ◌^◌, ◌<◌}
use native.Mathlib.Nat.{eq-or-lt_of_le, le_of_lt, mul-one, one-mul, mul-pos}
use native.Mathlib.Omega.{arith}
use lib.Dec.{ltb, leb, eqb}
use lib.IntN.{pos}
use lib.Pow.{pow_pos}
use lib.Ieee.{Float, nan, inf, fin, binary64, of_bits, up, down, neg, le}
use lib.Ieee.Fits.{down_pos}
use borrow.Author.Tests.{lt-ltb, le-ltb, eq-eqb, ne_eqb, leb-true, leb-false}
use Rattle.intake.specs.Causes.{usable}

-- `usable` with any exponent in the place of 1000, so that no law below holds a large number
abbrev within : ℕ → Float → Bool
within j nan = false
within j (inf s) = false
within j (fin s m e) = leb (m * up e) (2 ^ j * down e)

usable_is : (x : Float) → usable x ≡ within 1000 x
unfolding usable
usable_is nan = refl
usable_is (inf s) = refl
usable_is (fin s m e) = refl

-- 2 ^ j
abbrev end : ℕ → Float
end j = fin false 1 (pos j)

-- `le` of two numbers of one sign: less, or equal by a test t that stands either way round
at_most : (a b : ℕ) (t : Bool) → (a ≡ b → t ≡ true) → (b < a → t ≡ false) → (ltb a b || (t && true)) ≡ leb a b
at_most a b t same apart = go (leb a b) refl
  where
    go : (r : Bool) → leb a b ≡ r → (ltb a b || (t && true)) ≡ r
    go true h = elim (eq-or-lt_of_le (leb-true a b h)) [ inl e ↦ rw (same e, or-true) | inr l ↦ rw (lt-ltb a b l) ]
    go false h = rw (le-ltb a b (le_of_lt (leb-false a b h)), apart (leb-false a b h))

-- `le` of a float of magnitude m / d and the two ends of magnitude p, written out: one of the two tests always holds, since p * d is not 0
module _ (m p d : ℕ) (P : 0 < p * d) where
  risen : leb m (p * d) ≡ ((ltb (m * 1) (1 * p * d) || (eqb (m * 1) (1 * p * d) && true)) && (ltb 0 (1 * p * d + m * 1) || (eqb (1 * p * d) (m * 1) && eqb (1 * p * d) 0)))
  risen = rw (mul-one, one-mul, at_most m (p * d) _ (eq-eqb m (p * d)) (λ l. ne_eqb m (p * d) (λ e. omega arith)), lt-ltb 0 (p * d + m) (omega arith), and-true)

  fallen : leb m (p * d) ≡ ((ltb 0 (m * 1 + 1 * p * d) || (eqb (m * 1) (1 * p * d) && eqb (m * 1) 0)) && (ltb (m * 1) (1 * p * d) || (eqb (1 * p * d) (m * 1) && true)))
  fallen = rw (mul-one, one-mul, lt-ltb 0 (m + p * d) (omega arith), at_most m (p * d) _ (λ e. eq-eqb (p * d) m (sym e)) (λ l. ne_eqb (p * d) m (λ e. omega arith)))

ordered : (j : ℕ) (x : Float) → within j x ≡ (le x (end j) && le (neg (end j)) x)
unfolding le neg
ordered j nan = refl
ordered j (inf true) = refl
ordered j (inf false) = refl
ordered j (fin false m e) = risen (m * up e) (2 ^ j) (down e) (mul-pos (pow_pos j) (down_pos e))
ordered j (fin true m e) = fallen (m * up e) (2 ^ j) (down e) (mul-pos (pow_pos j) (down_pos e))

-- the code's constant
abbrev pub most : Float
most = of_bits binary64 0x7e70000000000000

most_is : most ≡ end 1000
unfolding of_bits
most_is = refl

pub usable_by_order : (x : Float) → usable x ≡ (le x most && le (neg most) x)
usable_by_order x = rw most_is (usable_is x ∙ ordered 1000 x)
