-- The two children of a split row: which rows they are, which elements, and the midpoint that both hold.
use mathlib.Core.Path.{◌≡◌, refl, ap, ◌∙◌}
use Prim.Native.Nat.{ℕ, ◌≤◌, ◌<◌}
use native.Mathlib.Omega.{arith}
use Rattle.split.specs.Split.{Side, left, right}
use Rattle.split.specs.Row.{edge_of}
use Rattle.tables.specs.Mesh.{Mesh}
use Rattle.sound.specs.Sound.{rows, row_of, place, Records, Grown}
use Rattle.sound.specs.Forest.{grown, element_of}
use Rattle.sound.proofs.laws.Elements.{child_element}

-- the two places are different
pub place_apart : (s r : Side) (c : ℕ) → place s c ≡ place r c → s ≡ r
place_apart left left c e = refl
place_apart left right c e = absurd (omega arith)
place_apart right left c e = absurd (omega arith)
place_apart right right c e = refl

-- row r is a child of row q
pub record Below (m : Mesh) (t q r : ℕ) : Type 0 where
  pub past : t ≤ r
  pub there : r < rows m
  pub parent : (row_of m r).parent ≡ q

module _ {m : Mesh} {i t : ℕ} (g : Grown m i t) (q : ℕ) (l : q < rows m) (split : (row_of m q).child ≡ 0 → ⊥) where
  pub place_below : (s : Side) → Below m t q (place s (row_of m q).child)
  place_below left = let p = g.parent q l split in record { past = p.past; there = omega arith; parent = p.first }
  place_below right = let p = g.parent q l split in record { past = omega arith; there = p.both; parent = p.second }

  -- the child on side s is the element on side s
  pub place_element : (s : Side) → element_of m t (place s (row_of m q).child) ≡ grown s (element_of m t q)
  place_element s =
      let b = place_below s in
      let c = g.child (place s (row_of m q).child) b.past b.there in
      let side : s ≡ c.side = place_apart s c.side (row_of m q).child (c.here ∙ ap (λ (p : ℕ). place c.side (row_of m p).child) b.parent) in
      child_element g (place s (row_of m q).child) b.past b.there ∙ rw (← side, b.parent)

  -- the midpoint of its edge is there
  pub split_midpoint : (v : ℕ) × Records m i v (edge_of (row_of m q))
  split_midpoint =
      let b = place_below left in
      let c = g.child (row_of m q).child b.past b.there in
      (c.vertex, rw b.parent at c.middle)
