-- W7 (01) as a forest.
use Rattle.std.specs.Prelude.{ℕ, zero, suc}
use Rattle.split.specs.Split.{three, Corners, corners}
use Rattle.forest.specs.Element.{Forest}

-- the roots in the order of their rows (01, W7)
abbrev pub w7_root : ℕ → Corners ℕ
w7_root zero = corners 0 1 2 3
w7_root (suc zero) = corners 4 0 1 3
w7_root (suc (suc k)) = corners 4 0 1 2

abbrev pub w7 : Forest
w7 = record { top = three; count = 3; root = w7_root }
