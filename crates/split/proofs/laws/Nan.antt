-- A float that equals itself is no NaN, so it has a bit pattern of its own.
use mathlib.Core.Path.{◌≡◌}
use mathlib.Core.Bool.{false, not, true≢false}
use lib.Dec.{T}
use lib.Ieee.{Float, nan, inf, fin, ne, is_nan}

pub not_nan : (x : Float) → ne x x ≡ false → T (not (is_nan x))
unfolding ne is_nan
not_nan nan e = absurd (true≢false e)
not_nan (inf s) e = tt
not_nan (fin s m e) h = tt
