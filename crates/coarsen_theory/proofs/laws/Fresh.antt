-- The initial vertices and roots of the thinned mesh are those of the mesh (01, "Sound tables", clause 3).
use mathlib.Core.Path.{◌≡◌, sym, ap, ◌∙◌}
use mathlib.Core.Bool.{Bool}
use mathlib.Core.List.{List, map}
use Prim.Native.Nat.{ℕ, ◌≤◌, ◌<◌}
use native.Mathlib.Omega.{arith}
use lib.ListN.{length, get_or, take, length-map, get_or-map}
use lib.Seq.{length-take-le, get_or-take, ext_get_or}
use Rattle.split.specs.Split.{corners, at}
use Rattle.split.specs.Row.{corners_of, remade}
use Rattle.tables.specs.Layout.{no_point, no_record, no_row}
use Rattle.tables.specs.Mesh.{Mesh}
use Rattle.sound.specs.Sound.{vertices, rows, point_of, record_of, row_of, childless, Afresh, Grown}
use Rattle.sound.proofs.laws.Afresh.{root_below}
use Rattle.sound.proofs.laws.Front.{afresh_same}
use Rattle.coarsen_theory.specs.Free.{Free}
use Rattle.coarsen_theory.specs.Thinned.{stays, keeps, new_vertex, thin_row, thinned}
use Rattle.coarsen_theory.proofs.laws.Sifted.{count_up}
use Rattle.coarsen_theory.proofs.laws.Together.{says_stays, initial_stays, root_kept}
use Rattle.coarsen_theory.proofs.laws.Moved.{vertices_thinned, points_thinned, rows_thinned, point_at_lem, record_initial, row_at_lem, initial_same, root_same}

-- two lists that begin alike, up to a function
take_same : {A B : Type 0} (h : A → B) (d : A) (n : ℕ) (l k : List A) → n ≤ length l → n ≤ length k → ((j : ℕ) → j < n → h (get_or l j d) ≡ h (get_or k j d)) → map h (take n l) ≡ map h (take n k)
take_same {A} h d n l k a b e =
    ext_get_or (h d) (map h (take n l)) (map h (take n k)) (long l a ∙ sym (long k b))
    (λ j s. let less : j < n = rw (long l a) at s in
    get_or-map h (take n l) j d ∙ ap h (get_or-take n l j d less) ∙ e j less ∙ sym (ap h (get_or-take n k j d less)) ∙ sym (get_or-map h (take n k) j d))
  where
    long : (x : List A) → n ≤ length x → length (map h (take n x)) ≡ n
    long x c = length-map (take n x) h ∙ length-take-le n x c

front_same : {A : Type 0} (d : A) (n : ℕ) (l k : List A) → n ≤ length l → n ≤ length k → ((j : ℕ) → j < n → get_or l j d ≡ get_or k j d) → take n l ≡ take n k
front_same d n l k a b e =
    ext_get_or d (take n l) (take n k) (length-take-le n l a ∙ sym (length-take-le n k b))
    (λ j s. let less : j < n = rw (length-take-le n l a) at s in get_or-take n l j d less ∙ e j less ∙ sym (get_or-take n k j d less))

module _ {m : Mesh} {i t : ℕ} (g : Grown m i t) {gone : ℕ → Bool} (f : Free m i gone) where
  abbrev after : Mesh
  after = thinned m i gone

  -- there are as many of them as before
  pub vertices_in : i ≤ vertices after
  vertices_in = rw (vertices_thinned m i gone) (omega (arith, initial_same g f i (omega arith), count_up (stays gone) i (vertices m) g.parted.vertices_in))

  pub rows_in : t ≤ rows after
  rows_in = rw (rows_thinned m i gone) (omega (arith, root_same g f t (omega arith), count_up (keeps m gone) t (rows m) g.parted.rows_in))

  points_in : i ≤ length after.points
  points_in = omega (arith, vertices_in, points_thinned m i gone, vertices_thinned m i gone)

  -- an initial vertex and a root, at the same number
  module _ (v : ℕ) (h : v < i) where
    there : v < vertices m
    there = omega (arith, g.parted.vertices_in)

    pub initial_record : record_of after v ≡ record_of m v
    initial_record = ap (λ (x : ℕ). record_of after x) (sym (initial_same g f v (omega arith))) ∙ record_initial m i gone v h there (says_stays gone v (initial_stays g f v h))

    pub initial_point : point_of after v ≡ point_of m v
    initial_point = ap (λ (x : ℕ). point_of after x) (sym (initial_same g f v (omega arith))) ∙ point_at_lem m i gone v there (says_stays gone v (initial_stays g f v h))

  module _ (r : ℕ) (h : r < t) where
    corner_same : (p : ℕ) → p ≤ 3 → new_vertex gone (at (corners_of (row_of m r)) p) ≡ at (corners_of (row_of m r)) p
    corner_same p l = initial_same g f _ (omega (arith, root_below g r h p l))

    thin_root : childless (thin_row m gone r) ≡ childless (row_of m r)
    unfolding thin_row
    thin_root =
        let parent = root_same g f (row_of m r).parent (omega (arith, g.parted.roots r h)) in
        λ j. remade (row_of m r) (corners (corner_same 0 (omega arith) j) (corner_same 1 (omega arith) j) (corner_same 2 (omega arith) j) (corner_same 3 (omega arith) j)) (parent j) 0

    pub root_row : childless (row_of after r) ≡ childless (row_of m r)
    root_row = ap (λ (x : ℕ). childless (row_of after x)) (sym (root_same g f r (omega arith))) ∙ ap childless (row_at_lem m i gone r (omega (arith, g.parted.rows_in)) (root_kept g f r h)) ∙ thin_root

  module _ (long : length m.points ≡ vertices m) where
    pub points_kept : take i after.points ≡ take i m.points
    points_kept = front_same no_point i after.points m.points points_in (omega (arith, g.parted.vertices_in)) initial_point

  pub records_kept : take i after.records ≡ take i m.records
  records_kept = front_same no_record i after.records m.records vertices_in g.parted.vertices_in initial_record

  pub rows_kept : map childless (take t after.rows) ≡ map childless (take t m.rows)
  rows_kept = take_same childless no_row t after.rows m.rows rows_in g.parted.rows_in root_row

  pub thin_afresh : length m.points ≡ vertices m → Afresh after i t
  thin_afresh long = afresh_same (points_kept long) records_kept rows_kept g.afresh
