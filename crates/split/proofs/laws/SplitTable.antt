-- The table of 01, "One split", comes out of Algorithm 1's line: for every tag, both children and the new tag.
use mathlib.Core.Path.{◌≡◌, refl}
use mathlib.Core.Bool.{cond}
use Prim.Native.Nat.{ℕ, ◌-◌}
use lib.Dec.{leb}
use Rattle.split.specs.declared.row.Row.{Row}
use Rattle.split.specs.Split.{Tag, one, two, three, number, Corners, first, second, after}
use Rattle.split.specs.Row.{corners_of, tag_of, below, first_of, second_of}
use Rattle.split.specs.SplitTable.{split_table, BySplitTable}

pub split_table_lem : {A : Type 0} (top g : Tag) (c : Corners A) (m : A) → (first g c m, second g c m, after top g) ≡ split_table top g c m
unfolding first second
split_table_lem top three c m = refl
split_table_lem top two c m = refl
split_table_lem top one c m = refl

-- the new tag by its number, as Algorithm 1 has it
pub after_number : (top g : Tag) {n : ℕ} → n ≡ number g → cond (leb 2 n) (n - 1) (number top) ≡ number (after top g)
after_number top three e = rw e
after_number top two e = rw e
after_number top one e = rw e

-- the two rows that a row is split into
pub rows_by_table : (r : Row) (own m : ℕ) → BySplitTable r m (first_of r own m) (second_of r own m)
unfolding first_of second_of below
rows_by_table r own m = record { tag = after three (tag_of r); children = split_table_lem three (tag_of r) (corners_of r) m; first_tag = refl; second_tag = refl }
