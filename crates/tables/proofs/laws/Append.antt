-- Putting one thing more at the end of what is laid: what each turn of a loop that fills a table does.
use mathlib.Core.Path.{◌≡◌, ◌∙◌}
use mathlib.Core.List.{List, [], ◌∷◌, ◌++◌}
use Prim.Native.Nat.{ℕ, ◌+◌, ◌-◌, ◌*◌, ◌≤◌}
use native.Mathlib.Omega.{arith}
use lib.ListN.{length, replicate, length-append, length-replicate}
use lib.Seq.{take_at, drop_at, drop-drop}
use lib.Ieee.{Float}
use Rattle.split.specs.declared.row.Row.{Row}
use Rattle.split.specs.declared.point.Point.{Point}
use Rattle.tables.specs.declared.record.Record.{Record}
use Rattle.tables.specs.Layout.{point_width, record_width, row_width, point_cells, record_cells, row_cells, put_point, put_record, put_row, no_float}
use Rattle.tables.specs.Mesh.{flat}
use Rattle.tables.proofs.laws.Width.{has}
use Rattle.tables.proofs.laws.Parts.{drop_replicate}
use Rattle.tables.proofs.laws.Table.{Table, put_parts}
use Rattle.tables.proofs.laws.View.{flat_append, flat_one, length_flat}
use Rattle.tables.proofs.laws.Rows.{rows, records, points}

module _ {A B : Type 0} {w : ℕ} {cells : A → List B} {from : List B → ℕ → A} {none : A} {at : List B → ℕ → A} {put : List B → ℕ → A → List B} (t : Table w cells from none at put) (z : B) where
  pub put_next : (now : List B) (xs : List A) (j : ℕ) (x : A) → now ≡ flat cells xs ++ replicate j z → w ≤ j → put now (length xs) x ≡ flat cells (xs ++ (x ∷ [])) ++ replicate (j - w) z
  put_next now xs j x e h =
      put_parts t now (length xs) x (has w (length xs) (length now) t.some room)
      ∙ rw (
        e,
        take_at (flat cells xs) (replicate j z) (w * length xs) long,
        ← drop-drop w (w * length xs) (flat cells xs ++ replicate j z),
        drop_at (flat cells xs) (replicate j z) (w * length xs) long,
        drop_replicate z w j h,
        flat_append cells xs (x ∷ []),
        flat_one cells x,
      )
    where
      long : length (flat cells xs) ≡ w * length xs
      long = length_flat cells w t.length_cells xs

      room : w * length xs + w ≤ length now
      room = rw (e, length-append (flat cells xs) (replicate j z), length-replicate j z, long) (omega arith)

pub put_next_row : (now : List ℕ) (xs : List Row) (j : ℕ) (r : Row) → now ≡ flat row_cells xs ++ replicate j 0 → row_width ≤ j → put_row now (length xs) r ≡ flat row_cells (xs ++ (r ∷ [])) ++ replicate (j - row_width) 0
put_next_row = put_next rows 0

pub put_next_record : (now : List ℕ) (xs : List Record) (j : ℕ) (r : Record) → now ≡ flat record_cells xs ++ replicate j 0 → record_width ≤ j → put_record now (length xs) r ≡ flat record_cells (xs ++ (r ∷ [])) ++ replicate (j - record_width) 0
put_next_record = put_next records 0

pub put_next_point : (now : List Float) (xs : List Point) (j : ℕ) (p : Point) → now ≡ flat point_cells xs ++ replicate j no_float → point_width ≤ j → put_point now (length xs) p ≡ flat point_cells (xs ++ (p ∷ [])) ++ replicate (j - point_width) no_float
put_next_point = put_next points no_float
