-- The table of 01, "One split", row by row: the tag, the first child, the second child, the new tag.
use Rattle.std.specs.Prelude.{◌≡◌, ℕ}
use Rattle.split.specs.declared.row.Row.{Row}
use Rattle.split.specs.Split.{Tag, one, two, three, number, Corners, corners}
use Rattle.split.specs.Row.{corners_of, tag_of}

-- `top` is the largest tag: three in 01; with two, the last two rows without v3 are those of the plane
abbrev pub split_table : {A : Type 0} → Tag → Tag → Corners A → A → Corners A × Corners A × Tag
split_table top three c m = (corners c.v0 c.v1 c.v2 m, corners c.v1 c.v2 c.v3 m, two)
split_table top two c m = (corners c.v0 c.v1 m c.v3, corners c.v1 c.v2 m c.v3, one)
split_table top one c m = (corners c.v0 m c.v2 c.v3, corners c.v1 m c.v2 c.v3, top)

-- the rows a and b are the first and the second child of the row r at the midpoint m, as the table has them
pub record BySplitTable (r : Row) (m : ℕ) (a b : Row) : Type 0 where
  pub tag : Tag
  pub children : (corners_of a, corners_of b, tag) ≡ split_table three (tag_of r) (corners_of r) m
  pub first_tag : a.tag ≡ number tag
  pub second_tag : b.tag ≡ number tag
