-- The flat tables and the lists of records that they hold are two writings of the same.
use mathlib.Core.Path.{◌≡◌, refl, sym, ap, ◌∙◌}
use mathlib.Core.List.{List, [], ◌∷◌, ◌++◌, append_assoc, append-nil}
use Prim.Native.Nat.{ℕ, zero, suc, ◌+◌, ◌-◌, ◌*◌, ◌≤◌, ◌<◌}
use native.Mathlib.Nat.{mul-zero, mul-suc, add-sub_of_le}
use native.Mathlib.Numerals.{add-one}
use native.Mathlib.Omega.{arith}
use lib.ListN.{length, get_or, take, drop, replicate, length-append, length-replicate, take-append-drop, get_or-append}
use lib.Seq.{take-add, take_at, drop_at, get_or_at, length-take-le}
use Rattle.split.proofs.laws.Places.{Against, less, equal, more, against}
use Rattle.tables.specs.declared.layout.Counts.{Counts}
use Rattle.tables.specs.Layout.{point_width, record_width, row_width, record_cells, point_at, record_at, row_at, no_float, no_point, no_record, no_row}
use Rattle.tables.specs.Mesh.{Lent, Mesh, Counting, Unused, up_to, flat, padded, mesh_of, laid}
use Rattle.tables.proofs.laws.Width.{has}
use Rattle.tables.proofs.laws.Parts.{cut}
use Rattle.tables.proofs.laws.Table.{Table, cells_at, cells_apart}
use Rattle.tables.proofs.laws.Rows.{rows, records, points}

-- ---- `up_to`

module _ {ℓ} {A : Type ℓ} (f : ℕ → A) where
  pub up_to_next : (n : ℕ) → up_to f (n + 1) ≡ up_to f n ++ (f n ∷ [])
  unfolding up_to
  up_to_next n = rw (add-one n)

  pub length_up_to : (n : ℕ) → length (up_to f n) ≡ n
  unfolding up_to
  length_up_to zero = refl
  length_up_to (suc n) = rw (length-append (up_to f n) (f n ∷ []), length_up_to n) (add-one n)

  pub up_to_at : (n i : ℕ) (d : A) → i < n → get_or (up_to f n) i d ≡ f i
  unfolding up_to
  up_to_at zero i d h = absurd (omega arith)
  up_to_at (suc n) i d h = go (against i n) (up_to_at n i d)
    where
      go : Against i n → (i < n → get_or (up_to f n) i d ≡ f i) → get_or (up_to f n ++ (f n ∷ [])) i d ≡ f i
      go (less l) below = get_or-append (up_to f n) (f n ∷ []) d i (rw (length_up_to n) l) ∙ below l
      go (equal e) below = get_or_at (up_to f n) (f n) [] d i (length_up_to n ∙ sym e) ∙ ap f (sym e)
      go (more l) below = absurd (omega arith)

-- ---- `flat`

module _ {A B : Type 0} (cells : A → List B) where
  pub flat_append : (xs ys : List A) → flat cells (xs ++ ys) ≡ flat cells xs ++ flat cells ys
  unfolding flat
  flat_append [] ys = refl
  flat_append (x ∷ xs) ys = rw (flat_append xs ys) (sym (append_assoc (cells x) (flat cells xs) (flat cells ys)))

  pub flat_one : (x : A) → flat cells (x ∷ []) ≡ cells x
  unfolding flat
  flat_one x = append-nil (cells x)

  pub length_flat : (w : ℕ) → ((x : A) → length (cells x) ≡ w) → (xs : List A) → length (flat cells xs) ≡ w * length xs
  unfolding flat
  length_flat w h [] = sym (mul-zero w)
  length_flat w h (x ∷ xs) = rw (length-append (cells x) (flat cells xs), h x, length_flat w h xs, mul-suc w (length xs)) (omega arith)

-- ---- one table, of any width

module _ {A B : Type 0} {w : ℕ} {cells : A → List B} {from : List B → ℕ → A} {none : A} {at : List B → ℕ → A} {put : List B → ℕ → A → List B} (t : Table w cells from none at put) where
  -- lists of things are equal by their numbers
  pub flat_apart : (xs ys : List A) → length xs ≡ length ys → flat cells xs ≡ flat cells ys → xs ≡ ys
  unfolding flat
  flat_apart [] [] e f = refl
  flat_apart [] (y ∷ ys) e f = absurd (omega arith)
  flat_apart (x ∷ xs) [] e f = absurd (omega arith)
  flat_apart (x ∷ xs) (y ∷ ys) e f =
      let parts = cut (cells x) (cells y) (flat cells xs) (flat cells ys) w (t.length_cells x) (t.length_cells y) f in
      cc (cells_apart t x y parts.0, flat_apart xs ys (omega arith) parts.1)

  -- the first n things of a table, written out, are its first w * n numbers
  pub flat_up_to : (l : List B) (n : ℕ) → w * n ≤ length l → flat cells (up_to (at l) n) ≡ take (w * n) l
  unfolding up_to flat
  flat_up_to l zero h = rw (mul-zero w)
  flat_up_to l (suc n) h =
      let room : w * n + w ≤ length l = rw (mul-suc w n) at h in
      flat_append cells (up_to (at l) n) (at l n ∷ [])
      ∙ rw (flat_up_to l n (omega arith), append-nil (cells (at l n)), cells_at t l n (has w n (length l) t.some room))
      (sym (rw (mul-suc w n) (take-add (w * n) w l)))

  -- filled up with what stood after them they are the table again
  pub padded_up_to : (z : B) (l : List B) (n : ℕ) → w * n ≤ length l → drop (w * n) l ≡ replicate (length l - w * n) z → padded (length l) z (flat cells (up_to (at l) n)) ≡ l
  padded_up_to z l n h e = rw (flat_up_to l n h, length-take-le (w * n) l h, ← e) (take-append-drop (w * n) l)

  module _ (z : B) (xs : List A) (n : ℕ) (h : w * length xs ≤ n) where
    pub length_padded : length (padded n z (flat cells xs)) ≡ n
    length_padded =
        rw (length-append (flat cells xs) (replicate (n - length (flat cells xs)) z), length-replicate (n - length (flat cells xs)) z, length_flat cells w t.length_cells xs)
        (add-sub_of_le h)

    pub drop_padded : drop (w * length xs) (padded n z (flat cells xs)) ≡ replicate (length (padded n z (flat cells xs)) - w * length xs) z
    drop_padded =
        drop_at (flat cells xs) (replicate (n - length (flat cells xs)) z) (w * length xs) (length_flat cells w t.length_cells xs)
        ∙ rw (length_padded, length_flat cells w t.length_cells xs)

    -- a list of things laid into a table is read back
    pub up_to_padded : up_to (at (padded n z (flat cells xs))) (length xs) ≡ xs
    up_to_padded =
        flat_apart (up_to (at (padded n z (flat cells xs))) (length xs)) xs (length_up_to (at (padded n z (flat cells xs))) (length xs))
        (flat_up_to (padded n z (flat cells xs)) (length xs) (rw length_padded h)
        ∙ take_at (flat cells xs) (replicate (n - length (flat cells xs)) z) (w * length xs) (length_flat cells w t.length_cells xs))

-- ---- what a mesh has at a number is what its table has there

module _ (t : Lent) (c : Counts) (k : ℕ) where
  pub mesh_row : k < c.rows → get_or (mesh_of t c).rows k no_row ≡ row_at t.rows k
  unfolding mesh_of
  mesh_row h = up_to_at (row_at t.rows) c.rows k no_row h

  pub mesh_record : k < c.vertices → get_or (mesh_of t c).records k no_record ≡ record_at t.records k
  unfolding mesh_of
  mesh_record h = up_to_at (record_at t.records) c.vertices k no_record h

  pub mesh_point : k < c.vertices → get_or (mesh_of t c).points k no_point ≡ point_at t.points k
  unfolding mesh_of
  mesh_point h = up_to_at (point_at t.points) c.vertices k no_point h

pub mesh_points : (t : Lent) (c : Counts) → length (mesh_of t c).points ≡ c.vertices
unfolding mesh_of
mesh_points t c = length_up_to (point_at t.points) c.vertices

-- ---- the three tables together

pub laid_mesh : (t : Lent) (c : Counts) → Unused t c → laid (mesh_of t c) (length t.points) (length t.records) (length t.rows) ≡ t
unfolding laid mesh_of
laid_mesh t c u = λ i. record {
  points = padded_up_to points no_float t.points c.vertices u.points_fit u.points i;
  records = padded_up_to records 0 t.records c.vertices u.records_fit u.records i;
  rows = padded_up_to rows 0 t.rows c.rows u.rows_fit u.rows i;
}

-- a mesh with as many points as records, within tables of the given lengths
pub record Within (m : Mesh) (lp lv lr : ℕ) : Type 0 where
  pub points : point_width * length m.points ≤ lp
  pub records : record_width * length m.records ≤ lv
  pub rows : row_width * length m.rows ≤ lr
  pub together : length m.points ≡ length m.records

module _ (m : Mesh) (lp lv lr : ℕ) (f : Within m lp lv lr) {c : Counts} (k : Counting m c) where
  pub mesh_laid : mesh_of (laid m lp lv lr) c ≡ m
  unfolding laid mesh_of
  mesh_laid =
      rw (k.vertices, k.rows) (λ i. record {
        points = up_to_padded points no_float m.points lp f.points i;
        records = back i;
        rows = up_to_padded rows 0 m.rows lr f.rows i;
      })
    where
      back : up_to (record_at (padded lv 0 (flat record_cells m.records))) (length m.points) ≡ m.records
      back = rw f.together (up_to_padded records 0 m.records lv f.records)

  pub laid_unused : Unused (laid m lp lv lr) c
  unfolding laid
  laid_unused = record {
    points_fit = rw (k.vertices, length_padded points no_float m.points lp f.points) f.points;
    records_fit = rw (k.vertices, f.together, length_padded records 0 m.records lv f.records) f.records;
    rows_fit = rw (k.rows, length_padded rows 0 m.rows lr f.rows) f.rows;
    points = rw k.vertices (drop_padded points no_float m.points lp f.points);
    records = rw (k.vertices, f.together) (drop_padded records 0 m.records lv f.records);
    rows = rw k.rows (drop_padded rows 0 m.rows lr f.rows);
  }
