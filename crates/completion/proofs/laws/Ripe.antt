-- A leaf that holds both parents of a midpoint (02, L10): it is forced, it may be split, and where there is none the mesh conforms.
use Rattle.std.proofs.Common.{None, Some}
use mathlib.Core.Path.{◌≡◌, refl, sym, ◌∙◌}
use mathlib.Core.Bool.{Bool, true, false}
use mathlib.Core.Logic.{inl, inr}
use Prim.Native.Nat.{ℕ, ◌≤◌, ◌<◌}
use native.Mathlib.Omega.{arith}
use borrow.Author.Tests.{eqb-true, eqb-false, eq-eqb, ne_eqb, not-true}
use Rattle.split.specs.Split.{Holds}
use Rattle.split.specs.Row.{corners_of, edge_of}
use Rattle.split.proofs.laws.Places.{le_or_lt}
use Rattle.tables.specs.Mesh.{Mesh}
use Rattle.forest.specs.Element.{Element}
use Rattle.forest.specs.Closed.{Closed}
use Rattle.intake.proofs.laws.Search.{first_none, any_has, any_some}
use Rattle.sound.specs.Sound.{vertices, rows, record_of, row_of, Grown, Conforming}
use Rattle.sound.specs.Forest.{forest_of, element_of}
use Rattle.sound.proofs.laws.Searches.{and_both}
use Rattle.run.specs.Skeleton.{skeleton}
use Rattle.run.specs.Ready.{Open}
use Rattle.run.proofs.laws.Edge.{Both, edge_shallow}
use Rattle.run.proofs.laws.Holders.{has_holds, holds_has}
use Rattle.run.proofs.laws.Needs.{Inside, held_forced, split_shallow}
use Rattle.completion.specs.Completion.{parents_in, ripe, lowest}
use Rattle.intake.proofs.laws.First.{first_found}

-- row q is a leaf that holds both parents of a midpoint
pub record Hanging (m : Mesh) (i q : ℕ) : Type 0 where
  pub there : q < rows m
  pub leaf : (row_of m q).child ≡ 0
  pub vertex : ℕ
  pub midpoint : i ≤ vertex
  pub below : vertex < vertices m
  pub first : Holds 3 (corners_of (row_of m q)) (record_of m vertex).first
  pub second : Holds 3 (corners_of (row_of m q)) (record_of m vertex).second

module _ {m : Mesh} {i t : ℕ} (g : Grown m i t) where
  pub ripe_hanging : (q : ℕ) → q < rows m → ripe (skeleton m) q ≡ true → Hanging m i q
  unfolding ripe parents_in
  ripe_hanging q h k =
      let (l, a) = and_both _ _ k in
      let (v, b, p) = any_some _ _ a in
      let (x, both) = and_both _ _ p in
      let (y, z) = and_both _ _ both in
      record {
        there = h;
        leaf = eqb-true _ _ l;
        vertex = v;
        midpoint = elim (le_or_lt i v) [ inl j ↦ j | inr j ↦ absurd (eqb-false _ _ (not-true _ x) (g.parted.initial v j)) ];
        below = b;
        first = has_holds _ _ y;
        second = has_holds _ _ z;
      }

  pub hanging_ripe : (q : ℕ) → Hanging m i q → ripe (skeleton m) q ≡ true
  unfolding ripe parents_in
  hanging_ripe q w = rw (eq-eqb (row_of m q).child 0 w.leaf) (any_has (parents_in m.records (row_of m q)) (vertices m) w.vertex w.below held)
    where
      held : parents_in m.records (row_of m q) w.vertex ≡ true
      held = rw (ne_eqb (record_of m w.vertex).second 4294967295 (g.parted.midpoints w.vertex w.midpoint w.below), holds_has (row_of m q) _ w.first, holds_has (row_of m q) _ w.second)

  -- no such leaf: clause 7 (02, L10: until none is left)
  pub none_conforming : lowest (skeleton m) ≡ None → Conforming m i
  none_conforming k = record {
    leaf = λ q v h l a b x y.
        let z : ◌≡◌ {A = Bool} true false = sym (hanging_ripe q (record { there = h; leaf = l; vertex = v; midpoint = a; below = b; first = x; second = y })) ∙ first_none _ _ k q h in
        let w : ◌≡◌ {A = ℕ} 0 1 = cc in absurd (omega arith);
  }

  module _ (q : ℕ) (w : Hanging m i q) where
    held_both : Both (row_of m q) (edge_of (row_of m (g.midpoint w.vertex w.midpoint w.below).row))
    held_both = rw (← (g.midpoint w.vertex w.midpoint w.below).edge) (record { small = w.first; large = w.second })

    -- it lies in every closed set that holds the split elements
    pub hanging_forced : (Z : Element → Type 0) → Closed (forest_of m t) Z → Inside m t Z → Z (element_of m t q)
    hanging_forced Z c d =
        let p = g.midpoint w.vertex w.midpoint w.below in
        held_forced Z g c d q p.row w.there p.there held_both (d (element_of m t p.row) (record { row = p.row; there = p.there; split = p.split; is = refl }))

    -- and is of depth below 60, whatever the marks were
    pub hanging_shallow : (row_of m q).depth < 60
    hanging_shallow =
        let p = g.midpoint w.vertex w.midpoint w.below in
        edge_shallow g q p.row w.there p.there held_both (split_shallow g p.row p.there p.split)

    pub hanging_open : Open (skeleton m) q
    hanging_open = record { there = w.there; leaf = w.leaf; shallow = hanging_shallow }

  -- the row that the loop splits next
  pub lowest_hanging : (q : ℕ) → lowest (skeleton m) ≡ Some q → Hanging m i q
  lowest_hanging q k = let w = first_found _ _ q k in ripe_hanging q w.below w.holds
