-- The clauses as the parts of the check find them, against sound tables: each gives the other, where the leading runs end.
use mathlib.Core.Path.{◌≡◌, sym, ap, ◌∙◌}
use mathlib.Core.List.{List, []}
use Prim.Native.Nat.{ℕ, ◌≤◌, ◌<◌}
use native.Mathlib.Omega.{arith}
use lib.Ieee.{Float}
use Rattle.split.specs.Split.{Tag, Side, Corners, far, child, Holds}
use Rattle.split.specs.Row.{corners_of, tag_of, edge_of, pair}
use Rattle.split.specs.Midpoint.{between}
use Rattle.split.proofs.laws.Places.{less, equal, more, against}
use Rattle.split.proofs.laws.Children.{at_new, far_at}
use Rattle.split.proofs.laws.Rows.{vertices_step}
use Rattle.tables.specs.declared.layout.Counts.{Counts}
use Rattle.tables.specs.declared.record.Record.{Record}
use Rattle.tables.specs.Layout.{no_point, no_record, no_row, point_at, record_at, row_at}
use Rattle.tables.specs.Mesh.{Mesh, mesh_of}
use Rattle.tables.proofs.laws.View.{length_up_to, up_to_at}
use Rattle.sound.specs.Sound.{vertices, rows, point_of, record_of, row_of, Parted, Child, Parent, Midpoint, Grown, Conforming, Sound}
use Rattle.sound.specs.Check.{lent}
use Rattle.shape.specs.Shape.{Initials, Roots, Children, Parents, middle_at}
use Rattle.soundness.specs.Check.{Ruled, Has, Single, AllWhole, Clauses}

-- ---- what the mesh of lent tables has at a number

module _ (p : List Float) (r w : List ℕ) (c : Counts) where
  pub vertices_is : vertices (mesh_of (lent p r w) c) ≡ c.vertices
  unfolding mesh_of
  vertices_is = length_up_to (record_at r) c.vertices

  pub rows_is : rows (mesh_of (lent p r w) c) ≡ c.rows
  unfolding mesh_of
  rows_is = length_up_to (row_at w) c.rows

  pub point_is : (v : ℕ) → v < c.vertices → point_of (mesh_of (lent p r w) c) v ≡ point_at p v
  unfolding mesh_of
  point_is v h = up_to_at (point_at p) c.vertices v no_point h

  pub record_is : (v : ℕ) → v < c.vertices → record_of (mesh_of (lent p r w) c) v ≡ record_at r v
  unfolding mesh_of
  record_is v h = up_to_at (record_at r) c.vertices v no_record h

  pub row_is : (k : ℕ) → k < c.rows → row_of (mesh_of (lent p r w) c) k ≡ row_at w k
  unfolding mesh_of
  row_is k h = up_to_at (row_at w) c.rows k no_row h

  -- ---- clauses on records and rows ask nothing of the points, those on rows nothing of the records

  child_points : (l : List Float) {i k : ℕ} → Child (mesh_of (lent p r w) c) i k → Child (mesh_of (lent l r w) c) i k
  unfolding mesh_of
  child_points l d = record {
    older = d.older;
    split = d.split;
    side = d.side;
    here = d.here;
    vertex = d.vertex;
    middle = record { midpoint = d.middle.midpoint; there = d.middle.there; ends = d.middle.ends };
    is = d.is;
    shallow = d.shallow;
  }

  parent_others : (l : List Float) (s : List ℕ) {t q : ℕ} → Parent (mesh_of (lent p r w) c) t q → Parent (mesh_of (lent l s w) c) t q
  unfolding mesh_of
  parent_others l s d = record { later = d.later; past = d.past; both = d.both; first = d.first; second = d.second }

  pub children_points : (l : List Float) {i t : ℕ} → Children (mesh_of (lent p r w) c) i t → Children (mesh_of (lent l r w) c) i t
  unfolding mesh_of
  children_points l f k h b = child_points l (f k h b)

  pub parents_others : (l : List Float) (s : List ℕ) {t : ℕ} → Parents (mesh_of (lent p r w) c) t → Parents (mesh_of (lent l s w) c) t
  unfolding mesh_of
  parents_others l s f q h n = parent_others l s (f q h n)

-- ---- the midpoint at which a child was made stands in it at its parent's tag

far_new : (s : Side) (g : Tag) (c : Corners ℕ) (v : ℕ) → far g (child s g c v) ≡ v
far_new s g c v = sym (far_at (child s g c v) g) ∙ at_new c v s g

-- a record is its two numbers
record_same : (a b : Record) → pair a.first a.second ≡ pair b.first b.second → a ≡ b
record_same a b e = λ j. record { first = (e j).small; second = (e j).large }

module _ (m : Mesh) where
  abbrev middle_in : ℕ → ℕ
  middle_in k = far (tag_of (row_of m (row_of m k).parent)) (corners_of (row_of m k))

  middle_vertex : {i k : ℕ} (d : Child m i k) → middle_in k ≡ d.vertex
  middle_vertex {i} {k} d =
      let q = (row_of m k).parent in
      ap (far (tag_of (row_of m q))) (ap corners_of d.is ∙ vertices_step d.side (row_of m q) q d.vertex) ∙ far_new d.side (tag_of (row_of m q)) (corners_of (row_of m q)) d.vertex

  -- row k was made at v
  record Made (t v k : ℕ) : Type 0 where
    past : t ≤ k
    there : k < rows m
    is : middle_in k ≡ v

module _ {m : Mesh} {i t : ℕ} where
  -- a row that was made at v has a split parent whose edge v records
  midpoint_made : Children m i t → (v k : ℕ) → Made m t v k → (record_of m v).first < (record_of m v).second → (record_of m v).second < v
      → ((u : ℕ) → i ≤ u → u < vertices m → record_of m u ≡ record_of m v → u ≡ v) → point_of m v ≡ between (point_of m (record_of m v).first) (point_of m (record_of m v).second) → Midpoint m i v
  midpoint_made children v k made rising older only point =
      let d = children k made.past made.there in
      let at_v : d.vertex ≡ v = sym (middle_vertex m d) ∙ made.is in
      record {
        rising = rising;
        older = older;
        only = only;
        row = (row_of m k).parent;
        there = omega (arith, d.older, made.there);
        split = d.split;
        edge = rw at_v at d.middle.ends;
        point = point;
      }

  -- the first child of a midpoint's row was made at it
  made_midpoint : Grown m i t → (v : ℕ) → i ≤ v → v < vertices m → (k : ℕ) × Made m t v k
  made_midpoint g v h l =
      let b = g.midpoint v h l in
      let p = g.parent b.row b.there b.split in
      let k = (row_of m b.row).child in
      let inside : k < rows m = omega (arith, p.both) in
      let d = g.child k p.past inside in
      let same : record_of m d.vertex ≡ record_of m v = record_same (record_of m d.vertex) (record_of m v) (d.middle.ends ∙ ap (λ (q : ℕ). edge_of (row_of m q)) p.first ∙ sym b.edge) in
      (k, record { past = p.past; there = inside; is = middle_vertex m d ∙ b.only d.vertex d.middle.midpoint d.middle.there same })

-- ---- from the parts of the check to sound tables, and back

module _ (p : List Float) (r w : List ℕ) (c : Counts) where
  abbrev mesh : Mesh
  mesh = mesh_of (lent p r w) c

  count_vertices : {v : ℕ} → v < vertices mesh → v < c.vertices
  count_vertices h = rw (vertices_is p r w c) at h

  have_vertices : {v : ℕ} → v < c.vertices → v < vertices mesh
  have_vertices h = rw (vertices_is p r w c) h

  count_rows : {k : ℕ} → k < rows mesh → k < c.rows
  count_rows h = rw (rows_is p r w c) at h

  have_rows : {k : ℕ} → k < c.rows → k < rows mesh
  have_rows h = rw (rows_is p r w c) h

  has_same : (u v : ℕ) → record_at r u ≡ record_at r v → Has r u (record_at r v).first (record_at r v).second
  has_same u v e = record { first = ap (λ (x : Record). x.first) e; second = ap (λ (x : Record). x.second) e }

  middle_is : (k : ℕ) → k < c.rows → (row_at w k).parent < c.rows → middle_in mesh k ≡ middle_at w k
  middle_is k h l = rw (row_is p r w c k h, row_is p r w c (row_at w k).parent l)

  module _ {i t : ℕ} (ini : Initials r c.vertices i) (roo : Roots w c.rows t) where
    parted_of : Clauses p r w c i t → Parted mesh i t
    parted_of f = record {
      vertices_in = rw (vertices_is p r w c) ini.within;
      rows_in = rw (rows_is p r w c) roo.within;
      initial = λ v h. rw (record_is p r w c v (omega (arith, ini.within))) (ini.before v h);
      midpoints = λ v h l e. let b = count_vertices l in f.midpoints v h b (rw (record_is p r w c v b) at e);
      roots = λ k h. rw (row_is p r w c k (omega (arith, roo.within))) (roo.before k h);
      children = λ k h l e. let b = count_rows l in f.later k h b (rw (row_is p r w c k b) at e);
    }

    only_of : Clauses p r w c i t → (v u : ℕ) → i ≤ v → v < c.vertices → i ≤ u → u < c.vertices → record_at r u ≡ record_at r v → u ≡ v
    only_of f v u h l k b e = elim (against u v) [ less a ↦ absurd ((f.single v h l).none u k a (has_same u v e)) | equal a ↦ a | more a ↦ absurd ((f.single u k b).none v h a (has_same v u (sym e))) ]

    midpoint_of : Clauses p r w c i t → (v : ℕ) → i ≤ v → v < vertices mesh → Midpoint mesh i v
    midpoint_of f v h l =
        let b = count_vertices l in
        let s = f.ruled v h b in
        let e = record_is p r w c v b in
        let (k, past, there, is) = f.used v h b in
        let children = children_points [] r w c p f.children in
        let older : (row_of mesh k).parent < k = (children k past (have_rows there)).older in
        let above : (row_at w k).parent < k = rw (row_is p r w c k there) at older in
        midpoint_made children v k (record { past = past; there = have_rows there; is = middle_is k there (omega arith) ∙ is })
        (rw e s.rising) (rw e s.older)
        (λ u g a x. let d = count_vertices a in only_of f v u h b g d (sym (record_is p r w c u d) ∙ x ∙ e))
        (rw (e, point_is p r w c v b, point_is p r w c (record_at r v).first (omega (arith, s.rising, s.older)), point_is p r w c (record_at r v).second (omega (arith, s.older))) s.point)

  conforming_of : {i : ℕ} → AllWhole r w i c.vertices c.rows → Conforming mesh i
  conforming_of {i} whole = record { leaf = leaf }
    where
      leaf : (q v : ℕ) → q < rows mesh → (row_of mesh q).child ≡ 0 → i ≤ v → v < vertices mesh → Holds 3 (corners_of (row_of mesh q)) (record_of mesh v).first → Holds 3 (corners_of (row_of mesh q)) (record_of mesh v).second → ⊥
      leaf q v h z k l a b =
          let x = count_rows h in
          let y = count_vertices l in
          let at_q = row_is p r w c q x in
          let at_v = record_is p r w c v y in
          (whole q x).leaf (rw at_q at z) v k y (rw (at_q, at_v) at a) (rw (at_q, at_v) at b)

  -- ---- a leading run ends where the mesh is parted

  vertices_run : {j u i : ℕ} → Parted mesh j u → Initials r c.vertices i → j ≡ i
  vertices_run {j} {u} {i} d ini = elim (against j i) [
    | less a ↦ let l : j < c.vertices = omega (arith, ini.within) in absurd (d.midpoints j (omega arith) (have_vertices l) (rw (record_is p r w c j l) (ini.before j a)))
    | equal a ↦ a
    | more a ↦ let l : i < c.vertices = omega (arith, d.vertices_in, vertices_is p r w c) in absurd (ini.ends l (rw (record_is p r w c i l) at (d.initial i a)))
  ]

  rows_run : {j u t : ℕ} → Parted mesh j u → Roots w c.rows t → u ≡ t
  rows_run {j} {u} {t} d roo = elim (against u t) [
    | less a ↦ let l : u < c.rows = omega (arith, roo.within) in absurd (d.children u (omega arith) (have_rows l) (rw (row_is p r w c u l) (roo.before u a)))
    | equal a ↦ a
    | more a ↦ let l : t < c.rows = omega (arith, d.rows_in, rows_is p r w c) in absurd (roo.ends l (rw (row_is p r w c t l) at (d.roots t a)))
  ]

  -- ---- clause 6 by the tables

  module _ {i t : ℕ} (g : Grown mesh i t) (v : ℕ) (h : i ≤ v) (l : v < c.vertices) where
    ruled_of : Ruled p r v
    ruled_of =
        let b = g.midpoint v h (have_vertices l) in
        let e = record_is p r w c v l in
        let rising : (record_at r v).first < (record_at r v).second = rw e at b.rising in
        let older : (record_at r v).second < v = rw e at b.older in
        record {
          rising = rising;
          older = older;
          point = rw (e, point_is p r w c v l, point_is p r w c (record_at r v).first (omega arith), point_is p r w c (record_at r v).second (omega arith)) at b.point;
        }

    single_of : Single r i v
    single_of = record { none = none }
      where
        none : (u : ℕ) → i ≤ u → u < v → Has r u (record_at r v).first (record_at r v).second → ⊥
        none u k a x =
            let b : u < c.vertices = omega arith in
            let same : record_at r u ≡ record_at r v = record_same (record_at r u) (record_at r v) (λ j. pair (x.first j) (x.second j)) in
            let one : u ≡ v = (g.midpoint v h (have_vertices l)).only u k (have_vertices b) (record_is p r w c u b ∙ same ∙ sym (record_is p r w c v l)) in
            omega arith

    used_of : (k : ℕ) × (t ≤ k) × (k < c.rows) × (middle_at w k ≡ v)
    used_of =
        let (k, made) = made_midpoint g v h (have_vertices l) in
        let there = count_rows made.there in
        let older : (row_at w k).parent < k = rw (row_is p r w c k there) at (g.child k made.past made.there).older in
        (k, made.past, there, sym (middle_is k there (omega arith)) ∙ made.is)

module _ {p : List Float} {r w : List ℕ} {c : Counts} where
  pub initials_of : (s : Sound (lent p r w) c) → Initials r c.vertices s.initials
  initials_of s =
      let d = s.grown.parted in
      record {
        within = rw (vertices_is p r w c) at d.vertices_in;
        before = λ v h. let l : v < c.vertices = omega (arith, h, rw (vertices_is p r w c) at d.vertices_in) in rw (record_is p r w c v l) at (d.initial v h);
        ends = λ l e. d.midpoints s.initials (omega arith) (have_vertices p r w c l) (rw (record_is p r w c s.initials l) e);
      }

  pub roots_of : (s : Sound (lent p r w) c) → Roots w c.rows s.roots
  roots_of s =
      let d = s.grown.parted in
      record {
        within = rw (rows_is p r w c) at d.rows_in;
        before = λ k h. let l : k < c.rows = omega (arith, h, rw (rows_is p r w c) at d.rows_in) in rw (row_is p r w c k l) at (d.roots k h);
        ends = λ l e. d.children s.roots (omega arith) (have_rows p r w c l) (rw (row_is p r w c s.roots l) e);
      }

module _ {p : List Float} {r w : List ℕ} {c : Counts} {i t : ℕ} where
  pub sound_of : Initials r c.vertices i → Roots w c.rows t → Clauses p r w c i t → AllWhole r w i c.vertices c.rows → Sound (lent p r w) c
  sound_of ini roo f whole = record {
    fitting = f.fitting;
    initials = i;
    roots = t;
    grown = record {
      parted = parted_of p r w c ini roo f;
      afresh = f.afresh;
      child = children_points [] r w c p f.children;
      parent = parents_others [] [] w c p r f.parents;
      midpoint = midpoint_of p r w c ini roo f;
    };
    conforming = conforming_of p r w c whole;
    unused = f.unused;
  }

  -- both are where the leading run ends
  pub runs_of : (s : Sound (lent p r w) c) → Initials r c.vertices i → Roots w c.rows t → (s.initials ≡ i) × (s.roots ≡ t)
  runs_of s ini roo = (vertices_run p r w c s.grown.parted ini, rows_run p r w c s.grown.parted roo)

  grown_at : Sound (lent p r w) c → Initials r c.vertices i → Roots w c.rows t → Grown (mesh_of (lent p r w) c) i t
  grown_at s ini roo = let (e, f) = runs_of s ini roo in rw (e, f) at s.grown

  pub clauses_of : Sound (lent p r w) c → Initials r c.vertices i → Roots w c.rows t → Clauses p r w c i t
  clauses_of s ini roo =
      let g = grown_at s ini roo in
      record {
        fitting = s.fitting;
        unused = s.unused;
        midpoints = λ v h l e. g.parted.midpoints v h (have_vertices p r w c l) (rw (record_is p r w c v l) e);
        later = λ k h l e. g.parted.children k h (have_rows p r w c l) (rw (row_is p r w c k l) e);
        afresh = g.afresh;
        children = children_points p r w c [] g.child;
        parents = parents_others p r w c [] [] g.parent;
        ruled = ruled_of p r w c g;
        single = single_of p r w c g;
        used = used_of p r w c g;
      }

  pub whole_of : Sound (lent p r w) c → Initials r c.vertices i → Roots w c.rows t → AllWhole r w i c.vertices c.rows
  whole_of s ini roo q k = record { leaf = leaf }
    where
      leaf : (row_at w q).child ≡ 0 → (v : ℕ) → i ≤ v → v < c.vertices → Holds 3 (corners_of (row_at w q)) (record_at r v).first → Holds 3 (corners_of (row_at w q)) (record_at r v).second → ⊥
      leaf z v h l a b =
          let at_q = row_is p r w c q k in
          let at_v = record_is p r w c v l in
          s.conforming.leaf q v (have_rows p r w c k) (rw at_q z) (rw (runs_of s ini roo).0 h) (have_vertices p r w c l) (rw (at_q, at_v) a) (rw (at_q, at_v) b)
