-- Clauses 4 and 5 in the words of the tables, and how answers to parts of a question answer the whole.
use mathlib.Core.Path.{◌≡◌, refl, sym, ap, ◌∙◌}
use mathlib.Core.Bool.{Bool, false, true≢false}
use mathlib.Core.List.{List}
use Prim.Native.Nat.{ℕ, ◌+◌, ◌≤◌, ◌<◌}
use native.Mathlib.Omega.{arith}
use lib.Dec.{eqb}
use Rattle.split.specs.declared.row.Row.{Row}
use Rattle.split.specs.declared.row.Ends.{Ends}
use Rattle.split.specs.Split.{number, Corners, at, far, Side, left, right}
use Rattle.split.specs.Row.{corners_of, tag_of, edge_of, same_row, child_of}
use Rattle.split.proofs.laws.Children.{far_at, at_new}
use Rattle.split.proofs.laws.Rows.{vertices_step}
use Rattle.split.proofs.laws.Same.{child_leaf, row_same, same_row_lem}
use Rattle.tables.specs.declared.layout.Counts.{Counts}
use Rattle.tables.specs.declared.record.Record.{Record}
use Rattle.tables.specs.Layout.{no_record, no_row, record_at, row_at}
use Rattle.tables.specs.Mesh.{Mesh, mesh_of}
use Rattle.tables.proofs.laws.View.{length_up_to, up_to_at}
use Rattle.sound.specs.Sound.{vertices, rows, record_of, row_of, childless, place, Records, Child, Parent}
use Rattle.sound.specs.Check.{Decides, bare}
use Rattle.shape.specs.Shape.{Sided, Children, IsParent}
use Rattle.sound.proofs.laws.Deciding.{decides_same, decides_equal}
pub use Rattle.sound.proofs.laws.Deciding.{decides_true, decides_false, granted, refused}

-- ---- answers

module _ {P : Type 0} where
  -- an answer to another question that comes to the same
  pub decides_as : {Q : Type 0} {b : Bool} → Decides Q b → (Q → P) → (P → Q) → Decides P b
  decides_as d f g = decides_same f g d

  -- an earlier test of a chain has failed
  pub decides_no : {r : Bool} → r ≡ false → (P → ⊥) → Decides P r
  decides_no e n = rw e (decides_false n)

  -- the last test of a chain
  pub decides_test : (x y : ℕ) → (x ≡ y → P) → (P → x ≡ y) → Decides P (eqb x y)
  decides_test x y f g = decides_same f g (decides_equal y refl)

-- ---- rows but for the first child

-- what the comparison answers
decides_rows : (a b : Row) {r : Bool} → r ≡ same_row a b → Decides (childless a ≡ childless b) r
decides_rows a b e = rw e (record { yes = row_same a b; no = λ n s. true≢false (sym (same_row_lem a b s) ∙ n) })

-- the midpoint stands in a child at the place of the parent's tag
child_vertex : (s : Side) (held parent : Row) (p v : ℕ) → childless held ≡ child_of s parent p v → v ≡ far (tag_of parent) (corners_of held)
child_vertex s held parent p v e =
    let g = tag_of parent in
    sym
    (sym (far_at (corners_of held) g)
    ∙ ap (λ (r : Row). at (corners_of r) (number g)) e
    ∙ ap (λ (c : Corners ℕ). at c (number g)) (vertices_step s parent p v)
    ∙ at_new (corners_of parent) v s g)

place_apart : (s t : Side) (c : ℕ) → place s c ≡ place t c → s ≡ t
place_apart left left c e = refl
place_apart left right c e = absurd (omega arith)
place_apart right left c e = absurd (omega arith)
place_apart right right c e = refl

-- the row at the place of a side is a child if it is the child of this side
pub sided_here : (s : Side) {held parent k : Row} {r p v : ℕ} {b : Bool} → r ≡ place s parent.child → k ≡ child_of s parent p v → b ≡ same_row held k → Decides (Sided held r parent p v) b
sided_here s {held} {parent} {k} {r} {p} {v} here e d = decides_as (decides_rows held k d) (λ q. record { side = s; here = here; is = q ∙ is }) (λ a. a.is ∙ other a.side a.here ∙ sym is)
  where
    is : childless k ≡ child_of s parent p v
    is = rw e (child_leaf s parent p v)

    other : (t : Side) → r ≡ place t parent.child → child_of t parent p v ≡ child_of s parent p v
    other t h = rw (place_apart t s parent.child (sym h ∙ here))

-- a row at neither place is no child
pub sided_none : {held parent : Row} {r p v : ℕ} → (r ≡ parent.child → ⊥) → (r ≡ parent.child + 1 → ⊥) → Sided held r parent p v → ⊥
sided_none {held} {parent} {r} {p} {v} a b s = go s.side s.here
  where
    go : (t : Side) → r ≡ place t parent.child → ⊥
    go left h = a h
    go right h = b h

-- ---- the mesh and the tables

module _ (R W : List ℕ) (c : Counts) where
  pub mesh_rows : rows (bare R W c) ≡ c.rows
  unfolding mesh_of
  mesh_rows = length_up_to (row_at W) c.rows

  pub mesh_vertices : vertices (bare R W c) ≡ c.vertices
  unfolding mesh_of
  mesh_vertices = length_up_to (record_at R) c.vertices

  pub mesh_row : (r : ℕ) → r < c.rows → row_of (bare R W c) r ≡ row_at W r
  unfolding mesh_of
  mesh_row r h = up_to_at (row_at W) c.rows r no_row h

  pub mesh_record : (v : ℕ) → v < c.vertices → record_of (bare R W c) v ≡ record_at R v
  unfolding mesh_of
  mesh_record v h = up_to_at (record_at R) c.vertices v no_record h

-- ---- clauses 4 and 5, part by part, of what the code reads

-- `Records`, the vertex's record being `held`
pub record Recorded (n i v : ℕ) (held : Record) (e : Ends) : Type 0 where
  pub midpoint : i ≤ v
  pub there : v < n
  pub small : held.first ≡ e.small
  pub large : held.second ≡ e.large

-- `Child`, the row being `held`, its parent's row `parent`, and the vertex v
pub record Follows (m : Mesh) (i r : ℕ) (held parent : Row) (v : ℕ) : Type 0 where
  pub older : held.parent < r
  pub split : parent.child ≡ 0 → ⊥
  pub middle : Records m i v (edge_of parent)
  pub shallow : held.depth ≤ 60
  pub sided : Sided held r parent held.parent v

-- `Parent`, the row's first child being k, and the two children's rows `a` and `b`
pub record Pair (n t q k : ℕ) (a b : Row) : Type 0 where
  pub later : q < k
  pub past : t ≤ k
  pub both : k + 1 < n
  pub first : a.parent ≡ q
  pub second : b.parent ≡ q

module _ (R W : List ℕ) (c : Counts) where
  module _ {i v : ℕ} {held : Record} {e : Ends} (h : held ≡ record_at R v) where
    pub recorded : Records (bare R W c) i v e → Recorded c.vertices i v held e
    recorded k =
        let there : v < c.vertices = rw (mesh_vertices R W c) at k.there in
        let is : record_of (bare R W c) v ≡ held = mesh_record R W c v there ∙ sym h in
        record {
          midpoint = k.midpoint;
          there = there;
          small = ap (λ (x : Record). x.first) (sym is) ∙ ap (λ (x : Ends). x.small) k.ends;
          large = ap (λ (x : Record). x.second) (sym is) ∙ ap (λ (x : Ends). x.large) k.ends;
        }

    pub records : Recorded c.vertices i v held e → Records (bare R W c) i v e
    records k = record { midpoint = k.midpoint; there = rw (mesh_vertices R W c) k.there; ends = rw (mesh_record R W c v k.there, ← h, k.small, k.large) }

  row_is : {r : ℕ} {held : Row} → r < c.rows → held ≡ row_at W r → row_of (bare R W c) r ≡ held
  row_is {r} l h = mesh_row R W c r l ∙ sym h

  module _ {r : ℕ} {held parent : Row} {v : ℕ} (l : r < c.rows) (h : held ≡ row_at W r) (g : parent ≡ row_at W held.parent) (at_tag : v ≡ far (tag_of parent) (corners_of held)) where
    up_is : held.parent < r → row_of (bare R W c) (row_of (bare R W c) r).parent ≡ parent
    up_is o = rw (row_is l h) (row_is (omega arith) g)

    -- the vertex is no choice: it is the one at the parent's tag
    pub follows : {i : ℕ} → Child (bare R W c) i r → Follows (bare R W c) i r held parent v
    follows k =
        let here = row_is l h in
        let older : held.parent < r = rw here at k.older in
        let up = up_is older in
        let is : childless held ≡ child_of k.side parent held.parent k.vertex = rw (up, here) at k.is in
        let same : k.vertex ≡ v = child_vertex k.side held parent held.parent k.vertex is ∙ sym at_tag in
        record {
          older = older;
          split = rw up at k.split;
          middle = rw (up, same) at k.middle;
          shallow = rw here at k.shallow;
          sided = record { side = k.side; here = rw up at k.here; is = rw same at is };
        }

    pub child : {i : ℕ} → Follows (bare R W c) i r held parent v → Child (bare R W c) i r
    child f =
        let here = row_is l h in
        let up = up_is f.older in
        record {
          older = rw here f.older;
          split = rw up f.split;
          side = f.sided.side;
          here = rw up f.sided.here;
          vertex = v;
          middle = rw up f.middle;
          is = rw (up, here) f.sided.is;
          shallow = rw here f.shallow;
        }

  module _ {q k : ℕ} {held a b : Row} (l : q < c.rows) (h : held ≡ row_at W q) (e : k ≡ held.child) (f : a ≡ row_at W k) (g : b ≡ row_at W (k + 1)) where
    first_is : (row_of (bare R W c) q).child ≡ k
    first_is = rw (row_is l h) (sym e)

    pub pair_of : {t : ℕ} → Parent (bare R W c) t q → Pair c.rows t q k a b
    pair_of p =
        let both : k + 1 < c.rows = rw (first_is, mesh_rows R W c) at p.both in
        record {
          later = rw first_is at p.later;
          past = rw first_is at p.past;
          both = both;
          first = rw (first_is, row_is (omega arith) f) at p.first;
          second = rw (first_is, row_is both g) at p.second;
        }

    pub parent_of : {t : ℕ} → Pair c.rows t q k a b → Parent (bare R W c) t q
    parent_of p = record {
      later = rw first_is p.later;
      past = rw first_is p.past;
      both = rw (first_is, mesh_rows R W c) p.both;
      first = rw (first_is, row_is (omega arith) f) p.first;
      second = rw (first_is, row_is p.both g) p.second;
    }

  module _ {t q : ℕ} {held : Row} (l : q < c.rows) (h : held ≡ row_at W q) where
    pub leaf_passes : held.child ≡ 0 → IsParent (bare R W c) t q
    leaf_passes e split = absurd (split (rw (row_is l h) e))

    pub split_passes : (held.child ≡ 0 → ⊥) → IsParent (bare R W c) t q → Parent (bare R W c) t q
    split_passes split p = p (λ e. split (rw (row_is l h) at e))

-- a later row is no root: its parent is older than it
pub children_later : (R W : List ℕ) (c : Counts) {i t : ℕ} → Children (bare R W c) i t → (k : ℕ) → t ≤ k → k < c.rows → (row_at W k).parent ≡ k → ⊥
children_later R W c all k from l e =
    let older : (row_at W k).parent < k = rw (mesh_row R W c k l) at (all k from (rw (mesh_rows R W c) l)).older in
    omega (arith, older, e)
