-- The second operation of the midpoint rule as one rounding, so that `mul` and the bits of one half stay shut where it is used.
use mathlib.Core.Path.{◌≡◌, refl}
use mathlib.Core.Bool.{Bool, true, false}
use Prim.Native.Nat.{ℕ, ◌*◌}
use lib.IntN.{ℤ}
use lib.Ieee.{fin, binary64, up, down, of_bits, round, mul}
use Rattle.split.specs.Midpoint.{half}

pub halving : (s : Bool) (m : ℕ) (e : ℤ) → mul binary64 (fin s m e) half ≡ round binary64 s (m * up e * 1) (down e * 2)
unfolding mul of_bits
halving false m e = refl
halving true m e = refl
