-- A reached row has one element, and a reached element one row (02, L13: "named by root and sides").
use mathlib.Core.Path.{◌≡◌, sym, ap, subst, ◌∙◌}
use mathlib.Core.Logic.{inl, inr}
use mathlib.Core.List.{List, [], ◌∷◌}
use Prim.Native.Nat.{ℕ, ◌≤◌, ◌<◌}
use native.Mathlib.Omega.{arith}
use Rattle.split.specs.declared.row.Row.{Row}
use Rattle.split.specs.Split.{Side, left, right}
use Rattle.split.proofs.laws.Places.{le_or_lt}
use Rattle.split.proofs.laws.Rows.{row_step}
use Rattle.tables.specs.Mesh.{Mesh}
use Rattle.forest.specs.Element.{Element, el}
use Rattle.sound.specs.Sound.{rows, row_of, place}
use Rattle.sound.specs.Forest.{grown}
use Rattle.sound.proofs.laws.Elements.{grown_apart, grown_never, grown_parent}
use Rattle.sound.proofs.laws.Offspring.{place_apart}
use Rattle.salvage_theory.specs.Kept.{Intact, Follows, Reached, root, child, Kept}

-- a child stands after its parent and below the row count
pub record Placed (m : Mesh) (p r : ℕ) : Type 0 where
  pub later : p < r
  pub there : r < rows m
  pub parent : (row_of m r).parent ≡ p

pub child_placed : {m : Mesh} {p : ℕ} (f : Follows m p) (s : Side) → Placed m p (place s (row_of m p).child)
child_placed {m} {p} f s = record { later = (go s).0; there = (go s).1; parent = ap (λ (x : Row). x.parent) (f.table.is s) ∙ (row_step s (row_of m p) p f.vertex).parent }
  where
    go : (s : Side) → (p < place s (row_of m p).child) × (place s (row_of m p).child < rows m)
    go left = omega (arith, f.table.later, f.table.both)
    go right = omega (arith, f.table.later, f.table.both)

-- row r is the child on side s of the kept row p, whose element is d
pub record Under (m : Mesh) (t r : ℕ) (e : Element) : Type 0 where
  pub up : ℕ
  pub element : Element
  pub side : Side
  pub kept : Kept m t up element
  pub here : r ≡ place side (row_of m up).child
  pub is : e ≡ grown side element
  pub placed : Placed m up r

-- how a row is reached
pub data Reaching (m : Mesh) (t r : ℕ) (e : Element) : Type 0 where
  top : r < t → e ≡ el r [] → Reaching m t r e
  under : Under m t r e → Reaching m t r e

pub child_under : {m : Mesh} {t p r : ℕ} {d e : Element} (s : Side) → Reached m t p d → Follows m p → r ≡ place s (row_of m p).child → e ≡ grown s d → Under m t r e
child_under {p = p} {d = d} s w f h q = record { up = p; element = d; side = s; kept = record { reached = w; follows = f }; here = h; is = q; placed = rw h (child_placed f s) }

pub reaching : {m : Mesh} {t r : ℕ} {e : Element} → Reached m t r e → Reaching m t r e
reaching (root l q) = top l q
reaching (child s w f h q) = under (child_under s w f h q)

-- the parent of a kept row is kept and smaller (02, L13: "it and all its ancestors")
pub kept_parent : {m : Mesh} {t r k : ℕ} {s : Side} {p : List Side} → Reached m t r (el k (s ∷ p)) → (q : ℕ) × (Kept m t q (el k p) × (q < r))
kept_parent {m} {t} {r} {k} {s} {p} w = go (reaching w)
  where
    go : Reaching m t r (el k (s ∷ p)) → (q : ℕ) × (Kept m t q (el k p) × (q < r))
    go (top l q) = let z : ◌≡◌ {A = ℕ} 0 1 = cc in absurd (omega arith)
    go (under u) = (u.up, (subst (Kept m t u.up) (grown_parent u.side s u.element k p (sym u.is)) u.kept, u.placed.later))

-- a kept row has a row after it
pub kept_there : {m : Mesh} {t r : ℕ} {e : Element} → Kept m t r e → r < rows m
kept_there k = omega (arith, k.follows.table.later, k.follows.table.both)

-- ---- a reached element has one row

record OneRow (m : Mesh) (t r : ℕ) (e : Element) : Type 0 where
  only : (q : ℕ) → Reached m t q e → r ≡ q

root_row : {m : Mesh} {t r : ℕ} {e : Element} → e ≡ el r [] → OneRow m t r e
root_row {m} {t} {r} {e} q = record { only = λ b w. go b (reaching w) }
  where
    go : (b : ℕ) → Reaching m t b e → r ≡ b
    go b (top l z) = cc
    go b (under u) = grown_never u.side u.element r (sym u.is ∙ q)

child_row : {m : Mesh} {t p r : ℕ} {d e : Element} (s : Side) → r ≡ place s (row_of m p).child → e ≡ grown s d → OneRow m t p d → OneRow m t r e
child_row {m} {t} {p} {r} {d} {e} s h q f = record { only = λ b w. go b (reaching w) }
  where
    go : (b : ℕ) → Reaching m t b e → r ≡ b
    go b (top l z) = grown_never s d b (sym q ∙ z)
    go b (under u) =
        let (side, up) = grown_apart s u.side d u.element (sym q ∙ u.is) in
        let same : p ≡ u.up = f.only u.up (rw up u.kept.reached) in
        h ∙ rw (side, same) (sym u.here)

row_alone : {m : Mesh} {t r : ℕ} {e : Element} → Reached m t r e → OneRow m t r e
row_alone (root l q) = root_row q
row_alone (child s w f h q) = child_row s h q (row_alone w)

-- two reached rows of one element are one row
pub one_row : {m : Mesh} {t r q : ℕ} {e : Element} → Reached m t r e → Reached m t q e → r ≡ q
one_row {q = q} v w = (row_alone v).only q w

-- ---- a reached row has one element

module _ {m : Mesh} {i t : ℕ} (n : Intact m i t) where
  -- no root is a child
  never_root : {r : ℕ} {e : Element} → r < t → Under m t r e → ⊥
  never_root {r} l u = omega (arith, u.placed.later, u.placed.parent, n.roots r l)

  -- a child stands past the roots
  pub under_past : {r : ℕ} {e : Element} → Under m t r e → t ≤ r
  under_past {r} {e} u = elim (le_or_lt t r) [ inl h ↦ h | inr h ↦ absurd (never_root h u) ]

  pub reached_there : {r : ℕ} {e : Element} → Reached m t r e → r < rows m
  reached_there w = go (reaching w)
    where
      go : {r : ℕ} {e : Element} → Reaching m t r e → r < rows m
      go (top l q) = omega (arith, n.rows_in)
      go (under u) = u.placed.there

  record OneElement (r : ℕ) (e : Element) : Type 0 where
    only : (d : Element) → Reached m t r d → e ≡ d

  root_element : {r : ℕ} {e : Element} → r < t → e ≡ el r [] → OneElement r e
  root_element {r} {e} l q = record { only = λ d w. go d (reaching w) }
    where
      go : (d : Element) → Reaching m t r d → e ≡ d
      go d (top k z) = q ∙ sym z
      go d (under u) = absurd (never_root l u)

  child_element : {r : ℕ} {e : Element} (u : Under m t r e) → OneElement u.up u.element → OneElement r e
  child_element {r} {e} u f = record { only = λ x w. go x (reaching w) }
    where
      go : (x : Element) → Reaching m t r x → e ≡ x
      go x (top l z) = absurd (never_root l u)
      go x (under v) =
          let same : u.up ≡ v.up = sym u.placed.parent ∙ v.placed.parent in
          let side : u.side ≡ v.side = place_apart u.side v.side (row_of m u.up).child (sym u.here ∙ rw same v.here) in
          let up : u.element ≡ v.element = f.only v.element (rw same v.kept.reached) in
          u.is ∙ rw (side, up) (sym v.is)

  element_alone : {r : ℕ} {e : Element} → Reached m t r e → OneElement r e
  unfolding child_under
  element_alone (root l q) = root_element l q
  element_alone (child s w f h q) = child_element (child_under s w f h q) (element_alone w)

  -- a reached row has one element
  pub one_element : {r : ℕ} {e d : Element} → Reached m t r e → Reached m t r d → e ≡ d
  one_element {d = d} v w = (element_alone v).only d w
