-- The exact case (01, "One split"): neither operation of a midpoint step rounds anything away, so the midpoint of two scaled numbers lies at exactly their mean.
use mathlib.Core.Path.{◌≡◌, refl, sym, ap, ◌∙◌}
use mathlib.Core.Logic.{◌⊎◌, inl, inr}
use mathlib.Core.Bool.{Bool, true, false, not, ◌&&◌, beq, cond}
use Prim.Native.Nat.{ℕ, suc, ◌+◌, ◌-◌, ◌*◌, ◌^◌, ◌≤◌, ◌<◌}
use native.Mathlib.Nat.{le_of_lt, lt_of_lt_of_le, eq-or-lt_of_le, le_of_mul-le-mul_right, sub-eq-zero_of_le, sub-add_cancel, mul-le-mul_left, mul-pos, mul-one, mul_comm, mul_assoc, mul_left_comm, mul_right_comm, add-mul, mul-add, mul-sub, two-pow-succ, eq_of_mul-eq-mul_right}
use native.Mathlib.Omega.{arith}
use lib.Dec.{T, ltb, ltb→lt, nltb→le, lit<, lit≤}
use lib.Pow.{pow-add, pow_mono, shl_lt}
use lib.IntN.{ℤ, pos, ◌+ℤ◌, +ℤ_assoc, +ℤ_comm, +ℤ_idr, +ℤ_invl, +ℤ_invr, neg_ℤ-+ℤ}
use lib.Ieee.{Float, nan, inf, fin, binary64, up, down, round, sum, add, mul}
use lib.Ieee.Exact.{HasValue, round_exact}
use lib.Ieee.Fits.{down_pos}
use Rattle.split.specs.Exact.{signed, Reached, Whole}
use Rattle.split.specs.Midpoint.{mean, half}
use Rattle.split.proofs.laws.Halving.{halving}

-- ---- values

-- A float with a value is finite, so the operations are needed at finite operands only.
finite : (x : Float) (s : Bool) (a c : ℕ) → HasValue x s a c → (m : ℕ) × (e : ℤ) × (x ≡ fin s m e) × (m * up e * c ≡ a * down e)
finite nan s a c v = absurd v
finite (inf t) s a c v = absurd v
finite (fin t m e) s a c v = (m, e, ap (λ (r : Bool). fin r m e) v.0, v.1)

-- A value does not depend on the fraction that states it.
same_value : (x : Float) (s : Bool) (a c b d : ℕ) → 0 < c → a * d ≡ b * c → HasValue x s a c → HasValue x s b d
same_value nan s a c b d p h v = v
same_value (inf t) s a c b d p h v = v
same_value (fin t m e) s a c b d p h v = (
  v.0,
  eq_of_mul-eq-mul_right c p (m * up e * d) (b * down e)
      (mul_right_comm (m * up e) d c ∙ ap (λ (x : ℕ). x * d) v.1 ∙ mul_right_comm a (down e) d ∙ ap (λ (x : ℕ). x * down e) h ∙ mul_right_comm b c (down e)),
)

-- ---- rounding

-- A number up to 2 ^ 53 has at most 53 binary digits, except the last one, which is a power of two.
digits : (n : ℕ) → n ≤ 2 ^ 53 → (q : ℕ) × (i : ℕ) × (q < 2 ^ 53) × (i ≤ 53) × (n ≡ q * 2 ^ i)
digits n h = go (eq-or-lt_of_le h)
  where
    go : (n ≡ 2 ^ 53) ⊎ (n < 2 ^ 53) → (q : ℕ) × (i : ℕ) × (q < 2 ^ 53) × (i ≤ 53) × (n ≡ q * 2 ^ i)
    go (inl e) = (1, 53, lit< tt, lit≤ tt, e)
    go (inr l) = (n, 0, l, lit≤ tt, sym (mul-one n))

-- `round` counts in units of 2 ^ -1074, which is 2 ^ 1051 times finer than the scale here.
finer : (num den n q i u g h : ℕ) → n ≡ q * 2 ^ i → num * 2 ^ g ≡ n * 2 ^ u * den → num * 2 ^ (g + h) ≡ q * 2 ^ (i + u + h) * den
finer num den n q i u g h is e =
    ap (λ (x : ℕ). num * x) (pow-add 2 g h)
    ∙ sym (mul_assoc num (2 ^ g) (2 ^ h))
    ∙ ap (λ (x : ℕ). x * 2 ^ h) (e ∙ ap (λ (x : ℕ). x * 2 ^ u * den) is)
    ∙ simp (pow-add, mul_assoc, mul_comm, mul_left_comm)

low_enough : (i u : ℕ) → i ≤ 53 → u ≤ 23 → 53 + (i + u + 1051) ≤ 2098
low_enough i u h l = omega arith

-- A fraction that is at most 2 ^ 53 steps of 2 ^ u / 2 ^ 23 is a binary64 number, so rounding keeps it.
rounded : (s : Bool) (num den n u : ℕ) → 0 < den → n ≤ 2 ^ 53 → u ≤ 23 → num * 2 ^ 23 ≡ n * 2 ^ u * den → HasValue (round binary64 s num den) s (n * 2 ^ u) (2 ^ 23)
rounded s num den n u p h l e =
    let (q, i, small, short, is) = digits n h in
    let j = i + u + 1051 in
    same_value (round binary64 s num den) s num den (n * 2 ^ u) (2 ^ 23) p e
    (round_exact binary64 s num den q j p small (lt_of_lt_of_le (shl_lt 53 j small) (pow_mono {i = 53 + j} {j = 2098} (low_enough i u short l))) (finer num den n q i u 23 1051 is e))

-- ---- whole numbers by sign and magnitude

-- Magnitudes add up under one sign, and the smaller is taken from the larger under opposite ones.
like_sum : (s : Bool) (a b : ℕ) → signed s a +ℤ signed s b ≡ signed s (a + b)
like_sum false a b = refl
like_sum true a b = sym (neg_ℤ-+ℤ (pos a) (pos b))

abbrev Opposite : Bool → Bool → Type 0
Opposite s t = (n : ℕ) → signed s n +ℤ signed t n ≡ pos 0

unlike_sum : (s t : Bool) {a b : ℕ} → Opposite s t → b ≤ a → signed s a +ℤ signed t b ≡ signed s (a - b)
unlike_sum s t {a} {b} cancel h =
    ap (λ (x : ℕ). signed s x +ℤ signed t b) (sym (sub-add_cancel h))
    ∙ ap (λ (x : ℤ). x +ℤ signed t b) (sym (like_sum s (a - b) b))
    ∙ +ℤ_assoc (signed s (a - b)) (signed s b) (signed t b)
    ∙ ap (λ (x : ℤ). signed s (a - b) +ℤ x) (cancel b)
    ∙ +ℤ_idr (signed s (a - b))

flipped_sum : (s t : Bool) {a b : ℕ} → Opposite s t → a ≤ b → signed s a +ℤ signed t b ≡ signed t (b - a)
flipped_sum s t {a} {b} cancel h = +ℤ_comm (signed s a) (signed t b) ∙ unlike_sum t s (λ (n : ℕ). +ℤ_comm (signed t n) (signed s n) ∙ cancel n) h

-- `sum` gives a difference of zero the sign of +0, which changes no number.
zero_positive : (s : Bool) (a b n : ℕ) → (a ≤ b → n ≡ 0) → signed s n ≡ signed (s && ltb b a) n
zero_positive false a b n h = refl
zero_positive true a b n h = go (ltb b a) (nltb→le b a)
  where
    go : (x : Bool) → (T (not x) → a ≤ b) → signed true n ≡ signed x n
    go true l = refl
    go false l = rw (h (l tt))

-- ---- the sum of two numbers

-- `round` stays shut in every proof here, so the operations are stated as far as `round` and no further.
sum_is : (s : Bool) (a : ℕ) (t : Bool) (b c : ℕ)
    → sum binary64 s a t b c ≡ cond (beq s t) (round binary64 s (a + b) c) (cond (ltb a b) (round binary64 t (b - a) c) (round binary64 (s && ltb b a) (a - b) c))
unfolding sum
sum_is s a t b c = refl

add_is : (s t : Bool) (m n : ℕ) (e d : ℤ) → add binary64 (fin s m e) (fin t n d) ≡ sum binary64 s (m * up e * down d) t (n * up d * down e) (down e * down d)
unfolding add
add_is s t m n e d = refl

-- a / c is p * 2 ^ u / 2 ^ 23 and at most 2 ^ 30, as each of the two numbers is over the common denominator.
record Summand (c u a p : ℕ) : Type 0 where
  is : a * 2 ^ 23 ≡ p * 2 ^ u * c
  within : p * 2 ^ u ≤ 2 ^ 53

-- x is exactly z / 2 ^ 23 and z is a multiple of 2 ^ u, as the sum is. It can have twice the magnitude of a number that is `Reached`.
record Total (u : ℕ) (x : Float) (z : ℤ) : Type 0 where
  sign : Bool
  units : ℕ
  is : z ≡ signed sign (units * 2 ^ u)
  value : HasValue x sign (units * 2 ^ u) (2 ^ 23)
  within : units * 2 ^ u ≤ 2 ^ 54

-- A difference of multiples is a multiple, and a total has few enough digits for `rounded`.
sub_mul : (a b c : ℕ) → (a - b) * c ≡ a * c - b * c
sub_mul a b c = simp (mul_comm, mul-sub)

few : (n u : ℕ) → 0 < u → n * 2 ^ u ≤ 2 ^ 54 → n ≤ 2 ^ 53
few n u p h =
    let l : n * 2 ≤ n * 2 ^ u = mul-le-mul_left n (pow_mono {i = 1} {j = u} p) in
    omega arith

-- Both magnitudes are multiples of one 2 ^ u, so their sum and their difference are too. That u is above 0, as it is while a step is left, makes up for the doubled magnitude.
module _ (c u : ℕ) (positive : 0 < c) (even : 0 < u) (coarse : u ≤ 23) where
  total : {z : ℤ} (s : Bool) (num n : ℕ) → num * 2 ^ 23 ≡ n * 2 ^ u * c → n * 2 ^ u ≤ 2 ^ 54 → z ≡ signed s (n * 2 ^ u) → Total u (round binary64 s num c) z
  total s num n e within is = record { sign = s; units = n; is = is; value = rounded s num c n u positive (few n u even within) coarse e; within = within }

  like_total : {a b p q : ℕ} (s : Bool) → Summand c u a p → Summand c u b q → Total u (round binary64 s (a + b) c) (signed s (p * 2 ^ u) +ℤ signed s (q * 2 ^ u))
  like_total {a} {b} {p} {q} s x y = total s (a + b) (p + q) (simp add-mul (cc)) (simp add-mul (omega arith)) (like_sum s (p * 2 ^ u) (q * 2 ^ u) ∙ rw add-mul)

  difference : {a b p q : ℕ} {z : ℤ} (s : Bool) → Summand c u a p → Summand c u b q → z ≡ signed s (p * 2 ^ u - q * 2 ^ u) → Total u (round binary64 s (a - b) c) z
  difference {a} {b} {p} {q} s x y is = total s (a - b) (p - q) (simp sub_mul (cc)) (simp sub_mul (omega arith)) (is ∙ rw sub_mul)

  ordered : {a b p q : ℕ} → Summand c u a p → Summand c u b q → b ≤ a → q * 2 ^ u ≤ p * 2 ^ u
  ordered {p = p} {q = q} x y h =
      let l : q * 2 ^ u * c ≤ p * 2 ^ u * c = omega arith in
      le_of_mul-le-mul_right l positive

  unlike_total : {a b p q : ℕ} (s t : Bool) → Opposite s t → Summand c u a p → Summand c u b q
      → Total u (cond (ltb a b) (round binary64 t (b - a) c) (round binary64 (s && ltb b a) (a - b) c)) (signed s (p * 2 ^ u) +ℤ signed t (q * 2 ^ u))
  unlike_total {a} {b} {p} {q} s t cancel x y = go (ltb a b) (ltb→lt a b) (nltb→le a b)
    where
      go : (i : Bool) → (T i → a < b) → (T (not i) → b ≤ a)
          → Total u (cond i (round binary64 t (b - a) c) (round binary64 (s && ltb b a) (a - b) c)) (signed s (p * 2 ^ u) +ℤ signed t (q * 2 ^ u))
      go true l g = difference t y x (flipped_sum s t cancel (ordered y x (le_of_lt (l tt))))
      go false l g =
          difference (s && ltb b a) x y
          (unlike_sum s t cancel (ordered x y (g tt)) ∙ zero_positive s a b (p * 2 ^ u - q * 2 ^ u) (λ (h : a ≤ b). sub-eq-zero_of_le (ordered y x h)))

  sum_total : {a b p q : ℕ} (s t : Bool) → Summand c u a p → Summand c u b q → Total u (sum binary64 s a t b c) (signed s (p * 2 ^ u) +ℤ signed t (q * 2 ^ u))
  sum_total false false x y = rw sum_is (like_total false x y)
  sum_total false true x y = rw sum_is (unlike_total false true (λ (n : ℕ). +ℤ_invr (pos n)) x y)
  sum_total true false x y = rw sum_is (unlike_total true false (λ (n : ℕ). +ℤ_invl (pos n)) x y)
  sum_total true true x y = rw sum_is (like_total true x y)

-- The two numbers are brought to the common denominator that `add` uses.
common : (a b c d g : ℕ) → a * g ≡ b * c → a * d * g ≡ b * (c * d)
common a b c d g h = mul_right_comm a d g ∙ ap (λ (x : ℕ). x * d) h ∙ mul_assoc b c d

added : (k : ℕ) {x y : Float} {a b : ℤ} → k < 23 → Reached k x a → Reached k y b → Total (23 - k) (add binary64 x y) (a +ℤ b)
added k {x} {y} h r w =
    let u = 23 - k in
    let (m, e, fx, vx) = finite x r.sign (r.units * 2 ^ u) (2 ^ 23) r.value in
    let (n, d, fy, vy) = finite y w.sign (w.units * 2 ^ u) (2 ^ 23) w.value in
    rw (fx, fy, r.is, w.is, add_is)
    (sum_total (down e * down d) u (mul-pos (down_pos e) (down_pos d)) (omega arith) (omega arith) r.sign w.sign
    (record { is = common (m * up e) (r.units * 2 ^ u) (down e) (down d) (2 ^ 23) vx; within = r.within })
    (record { is = common (n * up d) (w.units * 2 ^ u) (down d) (down e) (2 ^ 23) vy ∙ rw (mul_comm (down e)); within = w.within }))

-- ---- its half

-- The half has as many units as the total, each half as large, so it has as few digits.
doubled : (n u v : ℕ) → u ≡ suc v → n * 2 ^ u ≡ n * 2 ^ v + n * 2 ^ v
doubled n u v e = rw (e, two-pow-succ, mul-add)

half_of : (a b w c g : ℕ) → a * g ≡ b * c → b ≡ w + w → a * 1 * g ≡ w * (c * 2)
half_of a b w c g h e = ap (λ (x : ℕ). x * g) (mul-one a) ∙ h ∙ ap (λ (x : ℕ). x * c) e ∙ simp (add-mul, ← mul_assoc) (omega arith)

half_value : (x : Float) (s : Bool) (n u v : ℕ) → u ≡ suc v → v ≤ 23 → n * 2 ^ u ≤ 2 ^ 54 → HasValue x s (n * 2 ^ u) (2 ^ 23) → HasValue (mul binary64 x half) s (n * 2 ^ v) (2 ^ 23)
half_value x s n u v next fine within value =
    let (m, e, is, eq) = finite x s (n * 2 ^ u) (2 ^ 23) value in
    rw (is, halving)
    (rounded s (m * up e * 1) (down e * 2) n v (mul-pos (down_pos e) (lit< tt)) (few n u (omega arith) within) fine
    (half_of (m * up e) (n * 2 ^ u) (n * 2 ^ v) (down e) (2 ^ 23) eq (doubled n u v next)))

halved : (k : ℕ) {x : Float} {z : ℤ} → k < 23 → Total (23 - k) x z → (c : ℤ) × (c +ℤ c ≡ z) × Reached (k + 1) (mul binary64 x half) c
halved k {x} h r =
    let s = r.sign in
    let n = r.units in
    let v = 23 - (k + 1) in
    let next : 23 - k ≡ suc v = omega arith in
    let twice : n * 2 ^ (23 - k) ≡ n * 2 ^ v + n * 2 ^ v = doubled n (23 - k) v next in
    let value = half_value x s n (23 - k) v next (omega arith) r.within r.value in
    (signed s (n * 2 ^ v), like_sum s (n * 2 ^ v) (n * 2 ^ v) ∙ ap (signed s) (sym twice) ∙ sym r.is, record { sign = s; units = n; is = refl; value = value; within = omega arith })

-- ---- the laws

-- An initial coordinate of the exact case is a scaled number before any step.
pub start : {x : Float} {s : Bool} {n : ℕ} → Whole x s n → Reached 0 x (signed s (n * 2 ^ 23))
start {x} {s} {n} w =
    record { sign = s; units = n; is = refl; value = same_value x s n 1 (n * 2 ^ 23) (2 ^ 23) (lit< tt) (sym (mul-one (n * 2 ^ 23))) w.value; within = omega arith }

-- A scaled number stays one when more steps are allowed for, so the two ends of a side can be brought to one number of steps.
pub more : (j k : ℕ) {x : Float} {z : ℤ} → j ≤ k → k ≤ 23 → Reached j x z → Reached k x z
more j k h l r =
    let e : r.units * 2 ^ (k - j) * 2 ^ (23 - k) ≡ r.units * 2 ^ (23 - j) = regroup r.units (k - j) (23 - k) (23 - j) (omega arith) in
    record { sign = r.sign; units = r.units * 2 ^ (k - j); is = rw e r.is; value = rw e r.value; within = rw e r.within }
  where
    regroup : (n i v u : ℕ) → u ≡ i + v → n * 2 ^ i * 2 ^ v ≡ n * 2 ^ u
    regroup n i v u e = rw (e, pow-add, mul_assoc)

-- The midpoint of two scaled numbers lies at exactly their mean, and is a scaled number after one step more.
pub step : (k : ℕ) {x y : Float} {a b : ℤ} → k < 23 → Reached k x a → Reached k y b → (c : ℤ) × (c +ℤ c ≡ a +ℤ b) × Reached (k + 1) (mean x y) c
unfolding mean
step k h r w = halved k h (added k h r w)
