-- Tables of any width, once for rows, records and points: what is not replaced stays, and tables that hold the same are equal.
use mathlib.Core.Path.{◌≡◌, sym, ap, ◌∙◌}
use mathlib.Core.List.{List}
use mathlib.Core.Logic.{inl, inr}
use Prim.Native.Nat.{ℕ, ◌*◌, ◌/◌, ◌%◌, ◌<◌}
use native.Mathlib.Omega.{arith}
use lib.ListN.{length}
use lib.Seq.{take-length}
use Rattle.split.proofs.laws.Places.{le_or_lt}
use Rattle.tables.specs.Layout.{row_width, record_width, row_at, record_at}
use Rattle.tables.specs.Mesh.{up_to, flat}
use Rattle.tables.proofs.laws.Table.{Table, at_past, at_put_other, length_put}
use Rattle.tables.proofs.laws.Rows.{rows, records}
use Rattle.tables.proofs.laws.View.{flat_up_to}
use Rattle.sound.proofs.laws.Flat.{up_to_same}

module _ {A B : Type 0} {w : ℕ} {cells : A → List B} {from : List B → ℕ → A} {none : A} {at : List B → ℕ → A} {put : List B → ℕ → A → List B} (t : Table w cells from none at put) where
  -- a thing that is not replaced, wherever it is
  pub put_other : (l : List B) (k : ℕ) (x : A) → k < length l / w → (j : ℕ) → (j ≡ k → ⊥) → at (put l k x) j ≡ at l j
  put_other l k x h j d = elim (le_or_lt (length l / w) j) [
    | inr b ↦ at_put_other t l k x h j b d
    | inl b ↦ at_past t (put l k x) j (rw (length_put t l k x) b) ∙ sym (at_past t l j b)
  ]

  -- the first n things are all that the table has
  all_flat : (l : List B) (n : ℕ) → length l ≡ w * n → flat cells (up_to (at l) n) ≡ l
  all_flat l n e = flat_up_to t l n (omega (arith, e)) ∙ rw (← e) (take-length l)

  -- tables of one length, a multiple of the width, that hold the same are equal
  pub table_same : (l m : List B) (n : ℕ) → length l ≡ w * n → length m ≡ length l → ((k : ℕ) → at m k ≡ at l k) → m ≡ l
  table_same l m n e f h =
      sym (all_flat m n (f ∙ e)) ∙ ap (flat cells) (up_to_same (at l) n none (at m) (λ k b. h k)) ∙ all_flat l n e

pub rows_same : (l m : List ℕ) → length l % row_width ≡ 0 → length m ≡ length l → ((k : ℕ) → row_at m k ≡ row_at l k) → m ≡ l
rows_same l m e f h = table_same rows l m (length l / row_width) (omega arith) f h

pub records_same : (l m : List ℕ) → length l % record_width ≡ 0 → length m ≡ length l → ((k : ℕ) → record_at m k ≡ record_at l k) → m ≡ l
records_same l m e f h = table_same records l m (length l / record_width) (omega arith) f h
