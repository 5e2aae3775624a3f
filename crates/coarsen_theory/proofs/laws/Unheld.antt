-- No row that is a leaf now holds both parents of a midpoint that stays (01, "Sound tables", clause 7, after coarsening).
use mathlib.Core.Path.{◌≡◌, sym, ap, ◌∙◌}
use mathlib.Core.Bool.{Bool, true, false, true≢false}
use Prim.Native.Nat.{ℕ, zero, suc, ◌+◌, ◌≤◌, ◌<◌}
use native.Mathlib.Decide.{ℕ_discrete}
use native.Mathlib.Omega.{arith}
use Rattle.split.specs.declared.row.Row.{Row}
use Rattle.split.specs.Split.{Tag, Side, left, right, number, at, far, lacked, Holds}
use Rattle.split.specs.Row.{corners_of, tag_of, edge_of, ends}
use Rattle.split.proofs.laws.Tags.{tag_range}
use Rattle.split.proofs.laws.Ends.{ends_rising, ends_commute}
use Rattle.split.proofs.laws.Children.{far_at, kept}
use Rattle.tables.specs.Mesh.{Mesh}
use Rattle.sound.specs.Sound.{vertices, rows, record_of, row_of, place, Grown, Conforming}
use Rattle.sound.specs.Follows.{split_vertex}
use Rattle.sound.proofs.laws.Offspring.{place_below}
use Rattle.sound.proofs.laws.Halves.{half, half_corners, holds_same, one_middle, held_split}
use Rattle.coarsen_theory.specs.Free.{LeafNow, childless, merged, Free}

-- two places of a row: one child has what stands at both, or they are the ends of its edge
data Pairing (g : Tag) (p q : ℕ) : Type 0 where
  together : (s : Side) → (p ≡ lacked s g → ⊥) → (q ≡ lacked s g → ⊥) → Pairing g p q
  edge : p ≡ 0 → q ≡ number g → Pairing g p q
  turned : p ≡ number g → q ≡ 0 → Pairing g p q

pairing : (g : Tag) (p q : ℕ) → Pairing g p q
pairing g p q = go (ℕ_discrete p (number g)) (ℕ_discrete q (number g)) (ℕ_discrete p 0) (ℕ_discrete q 0)
  where
    go : Dec (p ≡ number g) → Dec (q ≡ number g) → Dec (p ≡ 0) → Dec (q ≡ 0) → Pairing g p q
    go (no a) (no b) c d = together left a b
    go (yes a) b c (yes d) = turned a d
    go (yes a) b c (no d) = together right (λ z. omega (arith, tag_range g)) d
    go (no a) (yes b) (yes c) d = edge c b
    go (no a) (yes b) (no c) d = together right c (λ z. omega (arith, tag_range g))

-- a row's edge by its two ends
edge_is : (r : Row) (x y : ℕ) → at (corners_of r) 0 ≡ x → at (corners_of r) (number (tag_of r)) ≡ y → edge_of r ≡ ends x y
unfolding edge_of
edge_is r x y a b = ap (λ (z : ℕ). ends z (far (tag_of r) (corners_of r))) a ∙ ap (λ (z : ℕ). ends x z) (sym (far_at (corners_of r) (tag_of r)) ∙ b)

module _ {m : Mesh} {i t : ℕ} (g : Grown m i t) (o : Conforming m i) {gone : ℕ → Bool} (f : Free m i gone) (w : ℕ) (k : i ≤ w) (l : w < vertices m) (stay : gone w ≡ false) where
  abbrev x : ℕ
  x = (record_of m w).first

  abbrev y : ℕ
  y = (record_of m w).second

  -- a row whose edge has w as its midpoint is split at it
  not_edge : (r : ℕ) → r < rows m → ((row_of m r).child ≡ 0 → ⊥) → gone (split_vertex m r) ≡ true → edge_of (row_of m r) ≡ ends x y → ⊥
  not_edge r h s e p =
      let z = one_middle g w (split_vertex m r) (record { midpoint = k; there = l; ends = sym (ends_rising (omega (arith, (g.midpoint w k l).rising))) ∙ sym p }) (half g r h s left).records in
      true≢false (sym e ∙ ap gone (sym z) ∙ stay)

  unheld_from : (n r : ℕ) → rows m ≤ r + n → r < rows m → LeafNow m gone r → Holds 3 (corners_of (row_of m r)) x → Holds 3 (corners_of (row_of m r)) y → ⊥
  unheld_from zero r b h q a c = omega arith
  unheld_from (suc n) r b h (childless e) a c = o.leaf r w h e k l a c
  unheld_from (suc n) r b h (merged s e) a c = go (pairing (tag_of (row_of m r)) a.place c.place) (unheld_from n)
    where
      below : (d : Side) {z : ℕ} (u : Holds 3 (corners_of (row_of m r)) z) → (u.place ≡ lacked d (tag_of (row_of m r)) → ⊥) → Holds 3 (corners_of (row_of m (place d (row_of m r).child))) z
      below d u p =
          let v = kept 3 (corners_of (row_of m r)) (split_vertex m r) d (tag_of (row_of m r)) (tag_range (tag_of (row_of m r))).1 (omega arith) u.place u.inside p in
          holds_same (half_corners (half g r h s d)) (record { place = v.place; inside = v.inside; is = v.is ∙ u.is })

      later : (d : Side) → r < place d (row_of m r).child
      later left = (g.parent r h s).later
      later right = omega (arith, (g.parent r h s).later)

      go : Pairing (tag_of (row_of m r)) a.place c.place
          → ((q : ℕ) → rows m ≤ q + n → q < rows m → LeafNow m gone q → Holds 3 (corners_of (row_of m q)) x → Holds 3 (corners_of (row_of m q)) y → ⊥) → ⊥
      go (together d p q) next =
          let j = (place_below g r h s d).there in
          next (place d (row_of m r).child) (omega (arith, later d)) j (f.leaf (place d (row_of m r).child) (split_vertex m r) j (held_split g r h s d) e) (below d a p) (below d c q)
      go (edge p q) next = not_edge r h s e (edge_is (row_of m r) x y (ap (at (corners_of (row_of m r))) (sym p) ∙ a.is) (ap (at (corners_of (row_of m r))) (sym q) ∙ c.is))
      go (turned p q) next =
          not_edge r h s e
          (edge_is (row_of m r) y x (ap (at (corners_of (row_of m r))) (sym q) ∙ c.is) (ap (at (corners_of (row_of m r))) (sym p) ∙ a.is) ∙ ends_commute y x)

  -- no row that is a leaf now holds both parents of w (01, "Sound tables", clause 7)
  pub unheld : (r : ℕ) → r < rows m → LeafNow m gone r → Holds 3 (corners_of (row_of m r)) x → Holds 3 (corners_of (row_of m r)) y → ⊥
  unheld r h = unheld_from (rows m) r (omega arith) h
