-- The midpoint rule (01, "One split"): each coordinate is the sum of the parents' coordinates, rounded once, times one half, rounded once, in IEEE 754 binary64.
-- `add` and `mul` are the toolchain's definitions of the two operations.
use Rattle.std.specs.Prelude.{Float}
use Rattle.std.specs.Float.{binary64}
use Rattle.std.specs.Float.Ieee.{of_bits, add, mul}
use Rattle.split.specs.declared.point.Point.{Point}

-- one half, by its bit pattern
abbrev pub half : Float
half = of_bits binary64 0x3fe0_0000_0000_0000

-- one coordinate (01, "One split")
unfoldable pub mean : Float → Float → Float
mean a b = mul binary64 (add binary64 a b) half

-- all three, axis by axis (01, "One split")
unfoldable pub between : Point → Point → Point
between p q = record { x = mean p.x q.x; y = mean p.y q.y; z = mean p.z q.z }
