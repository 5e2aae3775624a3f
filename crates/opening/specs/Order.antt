-- The row of an element (000, Definition 2; 01, "Opening").
use Rattle.std.specs.Prelude.{cond, ℕ, ltb}
use Rattle.split.specs.declared.row.Row.{Row}
use Rattle.split.specs.Split.{three, number, Corners, corners}
use Rattle.split.specs.Row.{root}
use Rattle.forest.specs.Start.{arranged}
use Rattle.intake.specs.Cells.{Cells}
use Rattle.intake.specs.Causes.{vertex}

-- two places brought into the order of their colours
abbrev pub lower : (ℕ → ℕ) → ℕ → ℕ → ℕ
lower colour a b = cond (ltb (colour b) (colour a)) b a

abbrev pub upper : (ℕ → ℕ) → ℕ → ℕ → ℕ
upper colour a b = cond (ltb (colour b) (colour a)) a b

-- vertices sorted by colour, by five comparisons: 0 with 1, 2 with 3, 0 with 2, 1 with 3, 1 with 2 (the law `sorted_rising` says that this sorts)
abbrev pub outer : (ℕ → ℕ) → ℕ → ℕ → ℕ → ℕ → Corners ℕ
outer f a b c d = corners (lower f a c) (lower f b d) (upper f a c) (upper f b d)

abbrev pub inner : (ℕ → ℕ) → Corners ℕ → Corners ℕ
inner f w = corners w.v0 (lower f w.v1 w.v2) (upper f w.v1 w.v2) w.v3

unfoldable pub sorted : (ℕ → ℕ) → Corners ℕ → Corners ℕ
sorted f w = inner f (outer f (lower f w.v0 w.v1) (upper f w.v0 w.v1) (lower f w.v2 w.v3) (upper f w.v2 w.v3))

abbrev pub given : Cells → ℕ → Corners ℕ
given E k = corners (vertex E k 0) (vertex E k 1) (vertex E k 2) (vertex E k 3)

-- element k becomes row k, of tag 3: its vertices sorted by colour, the last in front exactly if its colour is N
unfoldable pub root_of : ℕ → (ℕ → ℕ) → Cells → ℕ → Row
root_of N colour E k = root (number three) k (arranged three N colour (sorted colour (given E k)))
