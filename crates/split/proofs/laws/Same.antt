-- Rows but for the first child: what stays of a row that gets one, and what the comparison says.
use mathlib.Core.Path.{◌≡◌, refl, sym, ap, ◌∙◌}
use mathlib.Core.Bool.{Bool, true, ◌&&◌}
use Prim.Native.Nat.{ℕ}
use Rattle.std.proofs.Math.Bool.{and_assoc}
use borrow.Author.Tests.{eqb-true, eq-eqb}
use lib.Dec.{eqb}
use Rattle.split.specs.declared.row.Row.{Row}
use Rattle.split.specs.Split.{Corners, corners, Side, child}
use Rattle.split.specs.Row.{corners_of, tag_of, edge_of, below, with_child, childless, same_corners, same_row, child_of}
use Rattle.split.proofs.laws.Rows.{child_below}
use Rattle.split.proofs.laws.Tests.{both}

-- a leaf is what it is but for its first child
pub leaf_childless : (r : Row) → r.child ≡ 0 → childless r ≡ r
leaf_childless r e = ap (with_child r) (sym e)

pub child_leaf : (s : Side) (r : Row) (own m : ℕ) → childless (child_of s r own m) ≡ child_of s r own m
unfolding below
child_leaf s r own m = rw (child_below s r own m)

-- neither the edge nor the children depend on the first child
pub edge_childless : (a b : Row) → childless a ≡ childless b → edge_of a ≡ edge_of b
unfolding edge_of
edge_childless a b e = ap edge_of e

pub child_childless : (s : Side) (a b : Row) (own m : ℕ) → childless a ≡ childless b → child_of s a own m ≡ child_of s b own m
unfolding below
child_childless s a b own m e = rw (child_below s a own m, child_below s b own m) (ap (λ (r : Row). below r own (child s (tag_of r) (corners_of r) m)) e)

-- ---- the comparison says yes exactly where the two are the same but for the first child

-- one number is the same, and then the rest
equal_then : (a b : ℕ) (r : Bool) → (eqb a b && r) ≡ true → (a ≡ b) × (r ≡ true)
equal_then a b r e = let (p, q) = both (eqb a b) r e in (eqb-true a b p, q)

corners_same : (c d : Corners ℕ) → same_corners c d ≡ true → c ≡ d
unfolding same_corners
corners_same c d e =
    let (p0, e0) = equal_then c.v0 d.v0 _ e in
    let (p1, e1) = equal_then c.v1 d.v1 _ e0 in
    let (p2, e2) = equal_then c.v2 d.v2 _ e1 in
    let p3 = eqb-true c.v3 d.v3 e2 in
    λ i. corners (p0 i) (p1 i) (p2 i) (p3 i)

pub row_same : (a b : Row) → same_row a b ≡ true → childless a ≡ childless b
unfolding same_row
row_same a b e =
    let (f, e0) = both (same_corners (corners_of a) (corners_of b)) _ e in
    let (p, e1) = equal_then a.tag b.tag _ e0 in
    let (q, e2) = equal_then a.parent b.parent _ e1 in
    let d = eqb-true a.depth b.depth e2 in
    let same = corners_same (corners_of a) (corners_of b) f in
    cc

same_self : (n : ℕ) → eqb n n ≡ true
same_self n = eq-eqb n n refl

-- the first child is not looked at
pub same_row_lem : (a b : Row) → childless a ≡ childless b → same_row a b ≡ true
unfolding same_row same_corners
same_row_lem a b e = ap (λ (r : Row). same_row r b) e ∙ simp same_self

-- what `==` says of the row a with the first child of b
pub compared : (a b k : Row) {r : Bool} → k ≡ with_child a b.child
    → r ≡ (eqb k.v0 b.v0 && (eqb k.v1 b.v1 && (eqb k.v2 b.v2 && (eqb k.v3 b.v3 && (eqb k.tag b.tag && (eqb k.parent b.parent && (eqb k.child b.child && eqb k.depth b.depth)))))))
    → r ≡ same_row a b
unfolding same_row same_corners
compared a b k e h = h ∙ rw e (simp (same_self, and_assoc))
