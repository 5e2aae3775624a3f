-- The row table as a list of rows and the vertex table as a list of records: one replaced, one appended.
use mathlib.Core.Path.{◌≡◌, sym, ◌∙◌}
use mathlib.Core.List.{List, [], ◌∷◌, ◌++◌}
use Prim.Native.Nat.{ℕ, ◌+◌, ◌/◌, ◌≤◌, ◌<◌}
use native.Mathlib.Decide.{ℕ_discrete}
use native.Mathlib.Omega.{arith}
use lib.ListN.{length, get_or, set, length-set}
use lib.Seq.{ext_get_or, get_or-set_same, get_or-set_other}
use Rattle.split.specs.declared.row.Row.{Row}
use Rattle.tables.specs.declared.record.Record.{Record}
use Rattle.tables.specs.Layout.{record_width, row_width, no_record, no_row, record_at, row_at, put_record, put_row}
use Rattle.tables.specs.Mesh.{up_to}
use Rattle.tables.proofs.laws.Rows.{rows, records, row_put, record_put}
use Rattle.tables.proofs.laws.View.{up_to_next, length_up_to, up_to_at}
use Rattle.sound.proofs.laws.Flat.{up_to_same}
use Rattle.closure.specs.State.{rows_of, records_of}
use Rattle.closure.proofs.laws.Tables.{put_other}

-- a row that is not replaced, wherever it is
pub row_other : (w : List ℕ) (k : ℕ) (r : Row) → k < length w / row_width → (j : ℕ) → (j ≡ k → ⊥) → row_at (put_row w k r) j ≡ row_at w j
row_other = put_other rows

-- a list that is one longer
up_to_longer : {A : Type 0} (d : A) (f g : ℕ → A) (n : ℕ) (x : A) → g n ≡ x → ((j : ℕ) → j < n → g j ≡ f j) → up_to g (n + 1) ≡ up_to f n ++ (x ∷ [])
up_to_longer d f g n x e h = up_to_next g n ∙ rw (e, up_to_same f n d g h)

pub rows_next : (w : List ℕ) (n : ℕ) (r : Row) → n < length w / row_width → rows_of (put_row w n r) (n + 1) ≡ rows_of w n ++ (r ∷ [])
rows_next w n r h = up_to_longer no_row (row_at w) (row_at (put_row w n r)) n r (row_put w n r h) (λ j l. row_other w n r h j (λ e. omega arith))

pub record_other : (r : List ℕ) (k : ℕ) (x : Record) → k < length r / record_width → (j : ℕ) → (j ≡ k → ⊥) → record_at (put_record r k x) j ≡ record_at r j
record_other = put_other records

pub records_next : (r : List ℕ) (n : ℕ) (x : Record) → n < length r / record_width → records_of (put_record r n x) (n + 1) ≡ records_of r n ++ (x ∷ [])
records_next r n x h = up_to_longer no_record (record_at r) (record_at (put_record r n x)) n x (record_put r n x h) (λ j l. record_other r n x h j (λ e. omega arith))

pub rows_set : (w : List ℕ) (n s : ℕ) (r : Row) → s < n → n ≤ length w / row_width → rows_of (put_row w s r) n ≡ set (rows_of w n) s r
rows_set w n s r h l =
    let size = length_up_to (row_at w) n in
    let size' = length_up_to (row_at (put_row w s r)) n in
    ext_get_or no_row _ _ (size' ∙ sym size ∙ sym (length-set (rows_of w n) s r)) (λ i k. go i (omega (arith, size', k)) (ℕ_discrete i s))
  where
    go : (i : ℕ) → i < n → Dec (i ≡ s) → get_or (rows_of (put_row w s r) n) i no_row ≡ get_or (set (rows_of w n) s r) i no_row
    go i k (yes e) = up_to_at (row_at (put_row w s r)) n i no_row k ∙ rw e (row_put w s r (omega arith) ∙ sym (get_or-set_same (rows_of w n) s r no_row (rw (length_up_to (row_at w) n) h)))
    go i k (no d) = up_to_at (row_at (put_row w s r)) n i no_row k ∙ row_other w s r (omega arith) i d ∙ sym (get_or-set_other (rows_of w n) s i r no_row d ∙ up_to_at (row_at w) n i no_row k)
