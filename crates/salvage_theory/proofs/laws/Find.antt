-- Looking an element up from its root by its sides finds its row, wherever the mesh has it (02, L13: "named by root and sides").
use mathlib.Core.Path.{◌≡◌, sym, ap, subst, ◌∙◌}
use mathlib.Core.List.{List, [], ◌∷◌}
use Prim.Native.Nat.{ℕ, ◌<◌}
use native.Mathlib.Omega.{arith}
use Rattle.split.specs.Split.{Side}
use Rattle.tables.specs.Mesh.{Mesh}
use Rattle.forest.specs.Element.{Element, el}
use Rattle.forest.specs.Closed.{Present}
use Rattle.sound.specs.Sound.{rows, row_of, place, Grown}
use Rattle.sound.specs.Forest.{forest_of, grown, element_of, SplitOf}
use Rattle.sound.proofs.laws.Elements.{root_element, one_row}
use Rattle.sound.proofs.laws.Offspring.{place_below, place_element}
use Rattle.sound.proofs.laws.Splits.{row_present}
use Rattle.salvage_theory.specs.Rebuild.{find_below, find}

pub record Found (m : Mesh) (t : ℕ) (e : Element) : Type 0 where
  pub is : element_of m t (find m.rows e) ≡ e
  pub there : find m.rows e < rows m

module _ {m : Mesh} {i t : ℕ} (g : Grown m i t) where
  found_below : (k : ℕ) (p : List Side) → Present (forest_of m t) (SplitOf m t) (el k p) → Found m t (el k p)
  unfolding find_below
  found_below k [] h = record { is = root_element m t k h; there = omega (arith, g.parted.rows_in, h) }
  found_below k (s ∷ p) w =
      let f = found_below k p (subst (Present (forest_of m t) (SplitOf m t)) w.is (row_present g w.row w.there)) in
      let same : find_below m.rows k p ≡ w.row = one_row g _ w.row f.there w.there (f.is ∙ sym w.is) in
      record {
        is = ap (λ (q : ℕ). element_of m t (place s (row_of m q).child)) same ∙ place_element g w.row w.there w.split s ∙ ap (grown s) w.is;
        there = rw same (place_below g w.row w.there w.split s).there;
      }

  -- an element of the mesh is that of the row found
  pub found : (e : Element) → Present (forest_of m t) (SplitOf m t) e → Found m t e
  found (el k p) = found_below k p
