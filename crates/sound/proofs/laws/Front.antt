-- Meshes that begin alike: opening their initial vertices and roots afresh says the same of both, and they have the same forest and colours.
use mathlib.Core.Path.{◌≡◌, sym, ap, ◌∙◌, fun_ext}
use mathlib.Core.List.{List, map}
use Prim.Native.Nat.{ℕ}
use lib.ListN.{get_or, take, get_or-map}
use Rattle.split.specs.declared.row.Row.{Row}
use Rattle.split.specs.Split.{at, three}
use Rattle.split.specs.Row.{corners_of}
use Rattle.tables.specs.declared.record.Record.{Record}
use Rattle.tables.specs.Layout.{no_record, no_row}
use Rattle.tables.specs.Mesh.{Mesh}
use Rattle.sound.specs.Sound.{childless, elements_of, root_cells, Afresh}
use Rattle.sound.specs.Forest.{forest_of, colour_in, largest_in}

-- opening reads of a row its vertices only
elements_childless : (l : List Row) (n : ℕ) → elements_of l n ≡ elements_of (map childless l) n
elements_childless l n = λ i. record { count = n; vertex = fun_ext (λ k. fun_ext (λ q. ap (λ (r : Row). at (corners_of r) q) (sym (get_or-map childless l k no_row)))) i }

-- the same roots, but for their first children
module _ (m m' : Mesh) (t : ℕ) (rows : map childless (take t m'.rows) ≡ map childless (take t m.rows)) where
  given_same : root_cells m' t ≡ root_cells m t
  given_same = elements_childless (take t m'.rows) t ∙ ap (λ (l : List Row). elements_of l t) rows ∙ sym (elements_childless (take t m.rows) t)

  root_same : (k : ℕ) → corners_of (get_or (take t m'.rows) k no_row) ≡ corners_of (get_or (take t m.rows) k no_row)
  root_same k = ap corners_of (sym (get_or-map childless (take t m'.rows) k no_row) ∙ ap (λ (l : List Row). get_or l k no_row) rows ∙ get_or-map childless (take t m.rows) k no_row)

  pub forest_same : forest_of m' t ≡ forest_of m t
  forest_same = λ j. record { top = three; count = t; root = fun_ext root_same j }

-- the same initial vertices
module _ (m m' : Mesh) (i : ℕ) (records : take i m'.records ≡ take i m.records) where
  pub colour_same : colour_in m' i ≡ colour_in m i
  colour_same = ap (λ (l : List Record). λ (u : ℕ). (get_or l u no_record).first) records

  pub largest_same : largest_in m' i ≡ largest_in m i
  unfolding largest_in
  largest_same = rw records

-- clause 3 of sound tables (01, "Sound tables") is the same of both
pub afresh_same : {m m' : Mesh} {i t : ℕ} → take i m'.points ≡ take i m.points → take i m'.records ≡ take i m.records → map childless (take t m'.rows) ≡ map childless (take t m.rows) → Afresh m i t → Afresh m' i t
afresh_same {m} {m'} {i} {t} p r w a =
    let e = given_same m m' t w in
    record { some = a.some; opens = rw (p, e) a.opens; colours = rw (p, e, r) a.colours; rows = rw (p, e, w) a.rows }
