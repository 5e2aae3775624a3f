-- The children of a table's row in the words of `Split`: vertices, tag, depth, and what stands beside them.
use mathlib.Core.Path.{◌≡◌, refl}
use Prim.Native.Nat.{ℕ, ◌+◌, ◌<◌}
use borrow.Author.Tests.{lt-ltb}
use Rattle.split.specs.declared.row.Row.{Row}
use Rattle.split.specs.Split.{number, three, corners, at, by_tag, Side, left, right, child, after}
use Rattle.split.specs.Row.{corners_of, tag_of, below, deeper, remade, first_of, second_of, child_of}
use Rattle.split.proofs.laws.Tags.{tag_number}
use Rattle.split.proofs.laws.Children.{source, child_places}

-- what a child has beside its vertices
pub record Step (r : Row) (own : ℕ) (k : Row) : Type 0 where
  pub tag : tag_of k ≡ after three (tag_of r)
  pub parent : k.parent ≡ own
  pub leaf : k.child ≡ 0
  pub depth : k.depth ≡ deeper r.depth

-- both children at once: the vertices, and what stands beside them
pub child_below : (s : Side) (r : Row) (own m : ℕ) → child_of s r own m ≡ below r own (child s (tag_of r) (corners_of r) m)
unfolding first_of second_of
child_below left r own m = refl
child_below right r own m = refl

pub vertices_step : (s : Side) (r : Row) (own m : ℕ) → corners_of (child_of s r own m) ≡ child s (tag_of r) (corners_of r) m
unfolding below
vertices_step s r own m = rw (child_below s r own m)

pub child_tag : (s : Side) (r : Row) (own m : ℕ) → (child_of s r own m).tag ≡ number (after three (tag_of r))
unfolding below
child_tag s r own m = rw (child_below s r own m)

pub row_step : (s : Side) (r : Row) (own m : ℕ) → Step r own (child_of s r own m)
unfolding below
row_step s r own m = rw (child_below s r own m) (record { tag = tag_number (after three (tag_of r)); parent = refl; leaf = refl; depth = refl })

-- a child, its four places filled by their position relative to the tag
pub by_places : (s : Side) (r : Row) (own m : ℕ) {k : Row} {g a b c d : ℕ} → k ≡ below r own (corners_of r) → g ≡ number (tag_of r)
    → a ≡ by_tag 0 g (at (corners_of r) (source s 0)) m r.v0 → b ≡ by_tag 1 g (at (corners_of r) (source s 1)) m r.v1
    → c ≡ by_tag 2 g (at (corners_of r) (source s 2)) m r.v2 → d ≡ by_tag 3 g (at (corners_of r) (source s 3)) m r.v3
    → remade k (corners a b c d) k.parent k.child ≡ child_of s r own m
unfolding below
by_places s r own m i e p q x y = rw (i, p, q, x, y, e, child_below s r own m, child_places (corners_of r) m s (tag_of r))

-- every depth that can stand in sound tables has a next one
pub deeper_is : (d : ℕ) → d < 4294967295 → deeper d ≡ d + 1
unfolding deeper
deeper_is d h = simp (lt-ltb _ _ h)
