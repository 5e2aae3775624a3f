-- What is split in the thinned mesh: the elements of the rows that were split at a vertex that stays. Elements and vertices keep their names.
use mathlib.Core.Path.{◌≡◌, sym, ap, ◌∙◌, subst}
use mathlib.Core.Bool.{Bool, true}
use mathlib.Core.Logic.Iff
use mathlib.Core.Logic.{◌↔◌, inl, inr}
use Prim.Native.Nat.{ℕ, zero, suc, ◌+◌, ◌*◌, ◌<◌}
use native.Mathlib.Omega.{arith}
use lib.ListN.{length}
use Rattle.split.specs.Split.{Side}
use Rattle.split.proofs.laws.Places.{le_or_lt}
use Rattle.tables.specs.Mesh.{Mesh}
use Rattle.forest.specs.Element.{Element}
use Rattle.forest.specs.Closed.{Closed}
use Rattle.forest.proofs.Smallest.{closed_along}
use Rattle.sound.specs.Sound.{vertices, rows, record_of, row_of, Grown, Conforming}
use Rattle.sound.specs.Forest.{forest_of, colour_in, largest_in, name_of, grown, element_of, SplitOf, splits_in}
use Rattle.sound.proofs.laws.Front.{forest_same, colour_same, largest_same}
use Rattle.sound.proofs.laws.Names.{name_initial, name_midpoint}
use Rattle.sound.proofs.laws.Elements.{root_element, child_element}
use Rattle.sound.proofs.laws.Offspring.{place_apart}
use Rattle.sound.proofs.laws.Splits.{splits_closed}
use Rattle.sound.proofs.laws.Count.{rows_count}
use Rattle.sound.proofs.laws.Halves.{parent_there}
use Rattle.coarsen_theory.specs.Free.{Free}
use Rattle.coarsen_theory.specs.Thinned.{stays, keeps, new_vertex, new_row, thinned, StillSplit}
use Rattle.coarsen_theory.proofs.laws.Together.{stays_says, says_stays, split_kept, parent_kept, parents_stay}
use Rattle.coarsen_theory.proofs.laws.Moved.{record_midpoint, row_parent, row_child, row_from_lem, vertex_below, row_below, leaf, parent, Fate, fate, initial_same, midpoint_new, child_new, root_same, open_later}
use Rattle.coarsen_theory.proofs.laws.Fresh.{records_kept, rows_kept}
use Rattle.coarsen_theory.proofs.laws.Clauses.{row_open, side_same, thin_grown, thin_conforming}

module _ {m : Mesh} {i t : ℕ} (g : Grown m i t) {gone : ℕ → Bool} (f : Free m i gone) where
  abbrev after : Mesh
  after = thinned m i gone

  -- ---- the forest and its colours

  pub thin_forest : forest_of after t ≡ forest_of m t
  thin_forest = forest_same m after t (rows_kept g f)

  pub thin_colour : colour_in after i ≡ colour_in m i
  thin_colour = colour_same m after i (records_kept g f)

  pub thin_largest : largest_in after i ≡ largest_in m i
  thin_largest = largest_same m after i (records_kept g f)

  module _ (few : vertices m < 4294967295) (long : length m.points ≡ vertices m) where
    whole : Grown after i t
    whole = thin_grown g f few long

    -- ---- vertices and rows keep their names

    names_upto : (n v : ℕ) → v < n → v < vertices m → stays gone v ≡ true → name_of after i (new_vertex gone v) ≡ name_of m i v
    names_upto zero v h l s = absurd (omega arith)
    names_upto (suc n) v h l s = elim (le_or_lt i v) [
      | inr k ↦ ap (name_of after i) (initial_same g f v (omega arith)) ∙ name_initial after i v k ∙ sym (name_initial m i v k)
      | inl k ↦ let w = g.midpoint v k l in
          let e = record_midpoint m i gone v k l s in
          let (a, b) = parents_stay g f v k l (stays_says gone v s) in
          name_midpoint whole (new_vertex gone v) (midpoint_new g f v k) (vertex_below m i gone v l s)
          ∙ rw (
            thin_largest,
            thin_colour,
            e,
            names_upto n (record_of m v).first (omega (arith, w.rising, w.older)) (omega (arith, w.rising, w.older)) (says_stays gone _ a),
            names_upto n (record_of m v).second (omega (arith, w.older)) (omega (arith, w.older)) (says_stays gone _ b),
          )
          (sym (name_midpoint g v k l))
    ]

    pub thin_name : (v : ℕ) → v < vertices m → stays gone v ≡ true → name_of after i (new_vertex gone v) ≡ name_of m i v
    thin_name v l = names_upto (vertices m) v l l

    elements_upto : (n r : ℕ) → r < n → r < rows m → keeps m gone r ≡ true → element_of after t (new_row m gone r) ≡ element_of m t r
    elements_upto zero r h l k = absurd (omega arith)
    elements_upto (suc n) r h l k = elim (le_or_lt t r) [
      | inr b ↦ ap (element_of after t) (root_same g f r (omega arith)) ∙ root_element after t r b ∙ sym (root_element m t r b)
      | inl b ↦ let q = (row_of m r).parent in
          let w = g.child r b l in
          let w' = whole.child (new_row m gone r) (child_new g f r b) (row_below m i gone r l k) in
          let side : w'.side ≡ w.side = place_apart w'.side w.side _ (sym w'.here ∙ side_same g f r b l k) in
          child_element whole (new_row m gone r) (child_new g f r b) (row_below m i gone r l k)
          ∙ ap (λ (s : Side). grown s (element_of after t (row_of after (new_row m gone r)).parent)) side
          ∙ ap (λ (x : ℕ). grown w.side (element_of after t x)) (row_parent m i gone r l k)
          ∙ ap (grown w.side) (elements_upto n q (omega (arith, w.older)) (parent_there g r b l) (parent_kept g f r b l k))
          ∙ sym (child_element g r b l)
    ]

    pub thin_element : (r : ℕ) → r < rows m → keeps m gone r ≡ true → element_of after t (new_row m gone r) ≡ element_of m t r
    thin_element r l = elements_upto (rows m) r l l

    -- ---- what is split

    still_from : (r : ℕ) → r < rows m → keeps m gone r ≡ true → ((row_of after (new_row m gone r)).child ≡ 0 → ⊥) → (e : Element) → element_of after t (new_row m gone r) ≡ e → StillSplit m t gone e
    still_from r l k d e is = go (fate m gone r)
      where
        go : Fate m gone r → StillSplit m t gone e
        go (leaf w z) = absurd (d (row_child m i gone r l k ∙ z))
        go (parent s stay z) = record { row = r; there = l; split = s; stays = stay; is = sym (thin_element r l k) ∙ is }

    split_still : (e : Element) → SplitOf after t e → StillSplit m t gone e
    split_still e w =
        let s = row_from_lem m i gone w.row w.there in
        subst (λ (x : ℕ). ((row_of after x).child ≡ 0 → ⊥) → element_of after t x ≡ e → StillSplit m t gone e) s.is (λ d. still_from s.place s.there s.passes d e) w.split w.is

    still_split : (e : Element) → StillSplit m t gone e → SplitOf after t e
    still_split e w =
        let k = split_kept g f w.row w.there w.split w.stays in
        record {
          row = new_row m gone w.row;
          there = row_below m i gone w.row w.there k;
          split = rw (row_open g f w.row w.there w.split w.stays) (λ z. omega (arith, open_later g f w.row w.there w.split w.stays));
          is = thin_element w.row w.there k ∙ w.is;
        }

    -- split after is split before at a vertex that stays (02, L5: "the elements still split")
    pub thin_splits : (e : Element) → SplitOf after t e ↔ StillSplit m t gone e
    thin_splits e = (split_still e, still_split e)

    -- and it is a closed set of the same forest (demand 3)
    pub thin_closed : Conforming m i → Closed (forest_of m t) (SplitOf after t)
    thin_closed o = rw thin_forest at (splits_closed whole (thin_conforming g f o))

    pub still_closed : Conforming m i → Closed (forest_of m t) (StillSplit m t gone)
    still_closed o = closed_along (λ e. Iff.symm (thin_splits e)) (thin_closed o)

    -- rows are the roots and two for each split: what coarsening charges to the first solver is twice the splits (02, L11)
    pub thin_rows : rows after ≡ t + 2 * splits_in after
    thin_rows = rows_count whole
