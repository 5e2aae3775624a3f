-- The mean of two finite coordinates of magnitude at most 2 ^ 1000 is again finite and of magnitude at most 2 ^ 1000.
-- The sum is at most 2 ^ 1001 and its half at most 2 ^ 1000, and rounding passes no power of two up to the format's largest exponent, since each is a value of the format.
use mathlib.Core.Path.{◌≡◌, refl}
use mathlib.Core.Bool.{Bool, true, false, ◌&&◌, beq, cond}
use Prim.Native.Nat.{ℕ, suc, ◌+◌, ◌-◌, ◌*◌, ◌/◌, ◌^◌, ◌≤◌, ◌<◌}
use native.Mathlib.Nat.{le_refl, le_trans, lt_of_le_of_lt, le-add_left, le-add_right, sub-le, add-le-add, add-mul, mul-one, mul_comm, mul_assoc, mul_right_comm, mul-le-mul_right, mul-lt-mul_of_pos_right, le_of_mul-le-mul_right, mul-pos, div-one, mod-one, div-lt_iff_lt-mul, pow-suc, two-pow-succ}
use native.Mathlib.Omega.{arith}
use lib.Dec.{ltb, lit≤}
use lib.Pow.{pow-add, pow_pos, pow-lt}
use lib.Ieee.{Float, nan, inf, fin, Format, binary64, prec, emax, low, up, down, size, units, round, sum, add, mul}
use lib.Ieee.Digits.{size-le, back}
use lib.Ieee.Fits.{round_is, two, down_pos}
use lib.Ieee.Exact.{HasValue, units_val}
use lib.Ieee.Nearest.{closest, closest_mono}
use Rattle.split.specs.Midpoint.{mean, half}
use Rattle.split.specs.Magnitude.{Bounded}
use Rattle.split.proofs.laws.Halving.{halving}

-- This is `Bounded` with any exponent in the place of 1000, so that no lemma below holds a large number.
abbrev Within : ℕ → Float → Type 0
Within j nan = ⊥
Within j (inf s) = ⊥
Within j (fin s m e) = m * up e ≤ 2 ^ j * down e

bounded_is : (x : Float) → Bounded x ≡ Within 1000 x
unfolding Bounded
bounded_is nan = refl
bounded_is (inf s) = refl
bounded_is (fin s m e) = refl

-- A fraction rounded to a whole number does not pass a whole number. So, rounded to a multiple of 2 ^ k, it does not pass a 2 ^ i that is one.
closest_whole : (x : ℕ) → closest x 1 ≡ x
closest_whole x = rw (div-one, mod-one)

closest_within : (n c x : ℕ) → 0 < c → n ≤ x * c → closest n c ≤ x
closest_within n c x C h = rw closest_whole at (closest_mono n c x 1 C (pow_pos 0) (rw mul-one h))

grid_within : (n c k i : ℕ) → 0 < c → k ≤ i → n ≤ 2 ^ i * c → closest n (c * 2 ^ k) * 2 ^ k ≤ 2 ^ i
grid_within n c k i C K h =
    let e : 2 ^ (i - k) * 2 ^ k ≡ 2 ^ i = rw (← pow-add, back i k) in
    rw (← e) (mul-le-mul_right (2 ^ k) (closest_within n (c * 2 ^ k) (2 ^ (i - k)) (mul-pos C (pow_pos k)) (rw (mul_comm c (2 ^ k), ← mul_assoc, e) h)))

-- A number up to 2 ^ i has at most i + 1 digits and the format keeps at least one, so `round` drops at most i.
drop_within : (f : Format) (n c i : ℕ) → 0 < c → n ≤ 2 ^ i * c → size (n / c) - prec f ≤ i
drop_within f n c i C h = omega (arith, two f, size-le (n / c) (suc i) ((div-lt_iff_lt-mul C).1 (lt_of_le_of_lt h (mul-lt-mul_of_pos_right (pow-lt (le_refl (suc i))) C))))

-- A fraction up to 2 ^ j rounds to a finite value up to 2 ^ j: in units of the format's smallest value both are at most 2 ^ (j + low f).
value_within : (x : Float) (s : Bool) (w l j : ℕ) → w ≤ 2 ^ (j + l) → HasValue x s w (2 ^ l) → Within j x
value_within nan s w l j h v = v
value_within (inf t) s w l j h v = v
value_within (fin t m e) s w l j h v = le_of_mul-le-mul_right (rw (v.1, mul_right_comm (2 ^ j), ← pow-add) (mul-le-mul_right (down e) h)) (pow_pos l)

round_within : (f : Format) (s : Bool) (num den j : ℕ) → 0 < den → j ≤ emax f → num ≤ 2 ^ j * den → Within j (round f s num den)
round_within f s num den j D J h =
    let l = low f in
    let n = num * 2 ^ l in
    let k = size (n / den) - prec f in
    let q = closest n (den * 2 ^ k) in
    let g : n ≤ 2 ^ (j + l) * den = rw (pow-add, mul_right_comm) (mul-le-mul_right (2 ^ l) h) in
    let w : q * 2 ^ k ≤ 2 ^ (j + l) = grid_within n den k (j + l) D (drop_within f n den (j + l) D g) g in
    rw round_is (value_within (units f s q k) s (q * 2 ^ k) l j w (units_val f s q k (lt_of_le_of_lt w (pow-lt (omega arith)))))

-- Every branch of `sum` rounds a magnitude that is at most the sum of the two, whatever their signs.
cond_within : (j : ℕ) (b : Bool) (x y : Float) → Within j x → Within j y → Within j (cond b x y)
cond_within j true x y p q = p
cond_within j false x y p q = q

sum_within : (f : Format) (s : Bool) (a : ℕ) (t : Bool) (b c j : ℕ) → 0 < c → j ≤ emax f → a + b ≤ 2 ^ j * c → Within j (sum f s a t b c)
unfolding sum
sum_within f s a t b c j C J h =
    let r : (u : Bool) (n : ℕ) → n ≤ a + b → Within j (round f u n c) = λ u n l. round_within f u n c j C J (le_trans l h) in
    cond_within j (beq s t) _ _ (r s (a + b) (le_refl (a + b)))
    (cond_within j (ltb a b) _ _ (r t (b - a) (le_trans (sub-le b a) (le-add_left b a))) (r (s && ltb b a) (a - b) (le_trans (sub-le a b) (le-add_right a b))))

-- Two magnitudes up to 2 ^ j have a sum up to 2 ^ (j + 1), here over the product of their denominators.
twice : (a b p c d : ℕ) → a ≤ p * c → b ≤ p * d → a * d + b * c ≤ (p + p) * (c * d)
twice a b p c d h k = rw add-mul (add-le-add (rw mul_assoc at (mul-le-mul_right d h)) (rw (mul_right_comm, mul_assoc) at (mul-le-mul_right c k)))

add_within : (f : Format) (x y : Float) (j : ℕ) → suc j ≤ emax f → Within j x → Within j y → Within (suc j) (add f x y)
unfolding add
add_within f nan y j J p q = absurd p
add_within f (inf s) y j J p q = absurd p
add_within f (fin s m e) nan j J p q = absurd q
add_within f (fin s m e) (inf t) j J p q = absurd q
add_within f (fin s m e) (fin t n d) j J p q =
    sum_within f s (m * up e * down d) t (n * up d * down e) (down e * down d) (suc j) (mul-pos (down_pos e) (down_pos d)) J
    (rw two-pow-succ (twice (m * up e) (n * up d) (2 ^ j) (down e) (down d) p q))

-- Half of a magnitude up to 2 ^ (j + 1) is at most 2 ^ j.
halved : (a j c : ℕ) → a ≤ 2 ^ suc j * c → a * 1 ≤ 2 ^ j * (c * 2)
halved a j c h = rw mul-one (rw (pow-suc, mul_assoc, mul_comm 2 c) at h)

half_within : (x : Float) (j : ℕ) → j ≤ emax binary64 → Within (suc j) x → Within j (mul binary64 x half)
half_within nan j J p = absurd p
half_within (inf s) j J p = absurd p
half_within (fin s m e) j J p = rw halving (round_within binary64 s (m * up e * 1) (down e * 2) j (mul-pos (down_pos e) (pow_pos 1)) J (halved (m * up e) j (down e) p))

-- The mean is the sum, with the exponent up by one, and then its half, with the exponent back at 1000.
pub mean_bounded : (x y : Float) → Bounded x → Bounded y → Bounded (mean x y)
unfolding mean
mean_bounded x y p q =
    rw bounded_is (half_within (add binary64 x y) 1000 (lit≤ tt) (add_within binary64 x y 1000 (lit≤ tt) (rw bounded_is at p) (rw bounded_is at q)))
