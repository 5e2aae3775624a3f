-- How a number is read as a tag: 1 and 2 as themselves, any other as 3.
use mathlib.Core.Path.{◌≡◌, refl}
use Prim.Native.Nat.{◌≤◌}
use native.Mathlib.Omega.{arith}
use Rattle.split.specs.Split.{Tag, one, two, three, number}
use Rattle.split.specs.Row.{read_tag}

pub tag_range : (g : Tag) → (1 ≤ number g) × (number g ≤ 3)
tag_range one = omega arith
tag_range two = omega arith
tag_range three = omega arith

-- a tag's own number is read as that tag
pub tag_number : (g : Tag) → read_tag (number g) ≡ g
unfolding read_tag
tag_number one = refl
tag_number two = refl
tag_number three = refl
