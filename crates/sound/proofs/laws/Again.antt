-- Opening the points and the rows' vertices of an opened mesh: the points are those given, and each row has its element's vertices.
use mathlib.Core.Path.{◌≡◌, refl, sym, ap, ◌∙◌}
use mathlib.Core.List.{List}
use Prim.Native.Nat.{ℕ, ◌*◌, ◌/◌, ◌%◌, ◌<◌}
use native.Mathlib.Omega.{arith}
use lib.ListN.{length}
use lib.Seq.{take_all}
use lib.Ieee.{Float}
use Rattle.split.specs.Split.{three}
use Rattle.split.specs.Row.{corners_of}
use Rattle.forest.specs.Start.{arranged}
use Rattle.tables.specs.Layout.{point_width, point_cells, point_at, no_row}
use Rattle.tables.specs.Mesh.{up_to, flat}
use Rattle.tables.proofs.laws.View.{up_to_at, flat_up_to}
use Rattle.tables.proofs.laws.Rows.{points}
use Rattle.intake.specs.Cells.{Cells}
use Rattle.intake.specs.Causes.{has}
use Rattle.opening.specs.Order.{sorted, given, root_of}
use Rattle.opening.proofs.laws.Sorted.{sorted_of, sorted_has}
use Rattle.sound.specs.Sound.{elements_of}
use Rattle.sound.proofs.laws.Searches.{agree}
use Rattle.sound.proofs.laws.Reordered.{Reordered}
use Rattle.sound.proofs.laws.Ordered.{Proper, corner_at, holds_has, has_holds, sorted_climb}
use Rattle.sound.proofs.laws.Arranged.{Rearranged, rearranged}

-- ---- the points

pub points_again : (F : List Float) → length F % 3 ≡ 0 → flat point_cells (up_to (point_at F) (length F / 3)) ≡ F
points_again F h = flat_up_to points F (length F / 3) (omega arith) ∙ take_all (point_width * (length F / 3)) F (omega arith)

-- ---- the elements

-- the rows of E as elements, in the order of colours f with largest colour N
abbrev pub again : ℕ → (ℕ → ℕ) → Cells → Cells
again N f E = elements_of (up_to (root_of N f E) E.count) E.count

module _ (N : ℕ) (f : ℕ → ℕ) (E : Cells) where
  again_given : (k : ℕ) → k < E.count → given (again N f E) k ≡ arranged three N f (sorted f (given E k))
  unfolding root_of
  again_given k h = ap corners_of (up_to_at (root_of N f E) E.count k no_row h)

module _ {f : ℕ → ℕ} {E : Cells} (d : Proper f E) (N : ℕ) where
  -- each row is its element rearranged
  row_given : (k : ℕ) → k < E.count → Rearranged f (sorted f (given E k)) (given (again N f E) k)
  row_given k h = rw (again_given N f E k h) (rearranged (sorted_climb d k h) N)

  pub again_reordered : Reordered E (again N f E)
  again_reordered = record { long = refl; same = same }
    where
      same : (k v : ℕ) → k < E.count → has E k v ≡ has (again N f E) k v
      same k v h =
          agree _ _
          (λ t. holds_has (again N f E) k v ((row_given k h).has v (sorted_has f (given E k) v (has_holds E k v t))))
          (λ t. holds_has E k v (sorted_of f (given E k) v ((row_given k h).of v (has_holds (again N f E) k v t))))

  pub again_proper : Proper f (again N f E)
  again_proper = record { differ = λ k p q h l m e. (row_given k h).apart p q l m (ap f (corner_at (again N f E) k p l) ∙ e ∙ ap f (sym (corner_at (again N f E) k q m))) }
