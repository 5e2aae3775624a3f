-- The leaves and the split elements of a mesh, the latter as a test.
use Rattle.std.specs.Prelude.{◌≡◌, refl, Bool, not, ◌&&◌, ℕ, ◌<◌, eqb}
use Rattle.std.proofs.Math.Bool.{decide}
use mathlib.Core.HLevel.{Discrete}
use mathlib.Core.List.{List-discrete}
use Rattle.std.proofs.Math.Decide.{ℕ_discrete}
use Rattle.std.proofs.Common.{arith}
use Rattle.split.specs.Split.{Side, left, right}
use Rattle.tables.specs.Mesh.{Mesh}
use Rattle.forest.specs.Element.{Element, Element-discrete}
use Rattle.intake.specs.Search.{any}
use Rattle.sound.specs.Sound.{rows, row_of}
use Rattle.sound.specs.Forest.{element_of}

-- e is the element of a row without children
pub record LeafOf (m : Mesh) (t : ℕ) (e : Element) : Type 0 where
  pub row : ℕ
  pub there : row < rows m
  pub leaf : (row_of m row).child ≡ 0
  pub is : element_of m t row ≡ e

side_same : Discrete Side
side_same left left = yes refl
side_same left right = no (λ e. let z : ◌≡◌ {A = ℕ} 0 1 = cc in omega arith)
side_same right left = no (λ e. let z : ◌≡◌ {A = ℕ} 0 1 = cc in omega arith)
side_same right right = yes refl

pub element_same : Discrete Element
element_same = Element-discrete ℕ_discrete (List-discrete side_same)

-- whether row q has children and is e
abbrev pub split_as : Mesh → ℕ → Element → ℕ → Bool
split_as m t e q = not (eqb (row_of m q).child 0) && decide (element_same (element_of m t q) e)

-- whether e is the element of a row that has children
unfoldable pub split_in : Mesh → ℕ → Element → Bool
split_in m t e = any (split_as m t e) (rows m)
