-- The midpoint does not depend on the order of its ends: the toolchain's sum is the same value either way round, and a zero has the same sign.
use mathlib.Core.Path.{◌≡◌, refl}
use mathlib.Core.Bool.{Bool, true, false, not, ◌&&◌, beq, cond}
use Prim.Native.Nat.{ℕ, ◌-◌, ◌*◌, ◌≤◌, ◌<◌}
use native.Mathlib.Nat.{add_comm, mul_comm}
use native.Mathlib.Omega.{arith}
use lib.Dec.{T, ltb, ltb→lt, nltb→le}
use lib.Ieee.{Float, nan, inf, fin, Format, binary64, up, down, round, sum, add}
use Rattle.split.specs.declared.point.Point.{Point}
use Rattle.split.specs.Midpoint.{mean, between}

-- `◌&&◌` computes on its first argument only, so these two are lemmas.
and_true : (s : Bool) → s && true ≡ s
and_true true = refl
and_true false = refl

and_false : (s : Bool) → s && false ≡ false
and_false true = refl
and_false false = refl

-- Of opposite signs the sum has the sign of the larger magnitude, and where the two are equal it is +0, whichever comes first.
difference_commutes : (f : Format) (s t : Bool) (a b c : ℕ)
    → cond (ltb a b) (round f t (b - a) c) (round f (s && ltb b a) (a - b) c) ≡ cond (ltb b a) (round f s (a - b) c) (round f (t && ltb a b) (b - a) c)
difference_commutes f s t a b c = go (ltb a b) (ltb b a) (ltb→lt a b) (ltb→lt b a) (nltb→le a b) (nltb→le b a)
  where
    go : (x y : Bool) → (T x → a < b) → (T y → b < a) → (T (not x) → b ≤ a) → (T (not y) → a ≤ b)
        → cond x (round f t (b - a) c) (round f (s && y) (a - b) c) ≡ cond y (round f s (a - b) c) (round f (t && x) (b - a) c)
    go true true h k l r = absurd (omega (arith, h tt, k tt))
    go true false h k l r = rw and_true
    go false true h k l r = rw and_true
    go false false h k l r = let e : a - b ≡ b - a = omega (arith, l tt, r tt) in rw (and_false s, and_false t, e)

-- Both orders compare the same two signs, and then either add the magnitudes or take their difference.
sum_commutes : (f : Format) (s : Bool) (a : ℕ) (t : Bool) (b c : ℕ) → sum f s a t b c ≡ sum f t b s a c
unfolding sum
sum_commutes f true a true b c = rw (add_comm a b)
sum_commutes f true a false b c = difference_commutes f true false a b c
sum_commutes f false a true b c = difference_commutes f false true a b c
sum_commutes f false a false b c = rw (add_comm a b)

-- Two infinities add up to one of them where their signs agree, and to no number where they do not.
infinities_commute : (s t : Bool) → cond (beq s t) (inf s) nan ≡ cond (beq t s) (inf t) nan
infinities_commute true true = refl
infinities_commute true false = refl
infinities_commute false true = refl
infinities_commute false false = refl

-- The two orders write the common denominator with its factors the other way round.
pub add_commutes : (f : Format) (x y : Float) → add f x y ≡ add f y x
unfolding add
add_commutes f nan nan = refl
add_commutes f nan (inf t) = refl
add_commutes f nan (fin t n d) = refl
add_commutes f (inf s) nan = refl
add_commutes f (inf s) (inf t) = infinities_commute s t
add_commutes f (inf s) (fin t n d) = refl
add_commutes f (fin s m e) nan = refl
add_commutes f (fin s m e) (inf t) = refl
add_commutes f (fin s m e) (fin t n d) = rw (mul_comm (down e) (down d)) (sum_commutes f s (m * up e * down d) t (n * up d * down e) (down d * down e))

-- Each coordinate of a midpoint is a sum and then a halving, and only the sum sees the order.
pub mean_commutes : (a b : Float) → mean a b ≡ mean b a
unfolding mean
mean_commutes a b = rw (add_commutes binary64 a b)

pub between_commutes : (p q : Point) → between p q ≡ between q p
unfolding between
between_commutes p q = cc (mean_commutes p.x q.x, mean_commutes p.y q.y, mean_commutes p.z q.z)
