-- Zeros after the counts, number by number and as a whole, once for rows, records and points.
use mathlib.Core.Path.{◌≡◌, refl, sym, ap, ◌∙◌}
use mathlib.Core.List.{List, ◌∷◌}
use mathlib.Core.Logic.{◌⊎◌, inl, inr}
use Prim.Native.Nat.{ℕ, zero, suc, ◌+◌, ◌-◌, ◌*◌, ◌/◌, ◌%◌, ◌≤◌, ◌<◌}
use native.Mathlib.Nat.{mul-le-mul_left}
use native.Mathlib.Omega.{arith}
use lib.Ieee.{Float}
use lib.ListN.{length, get_or, take, drop, replicate}
use lib.Seq.{drop-drop}
use Rattle.split.proofs.laws.Places.{le_or_lt}
use Rattle.tables.specs.Layout.{row_width, record_width, point_width, row_cells, record_cells, point_cells, row_at, record_at, point_at, no_row, no_record, no_point, no_float}
use Rattle.tables.specs.Mesh.{up_to, flat, padded}
use Rattle.tables.proofs.laws.Width.{whole}
use Rattle.tables.proofs.laws.Parts.{drop_replicate}
use Rattle.tables.proofs.laws.Table.{Table, at_past, cells_at, cells_apart}
use Rattle.tables.proofs.laws.Rows.{rows, records, points}
use Rattle.tables.proofs.laws.View.{length_up_to, up_to_at, length_padded, drop_padded, up_to_padded}
use Rattle.closure.proofs.laws.Tables.{table_same}

take_replicate : {B : Type 0} (n j : ℕ) (z : B) → n ≤ j → take n (replicate j z) ≡ replicate n z
take_replicate zero j z h = refl
take_replicate (suc n) zero z h = absurd (omega arith)
take_replicate {B} (suc n) (suc j) z h = ap (λ (l : List B). z ∷ l) (take_replicate n j z (omega arith))

module _ {A B : Type 0} {w : ℕ} {cells : A → List B} {from : List B → ℕ → A} {none : A} {at : List B → ℕ → A} {put : List B → ℕ → A → List B} (t : Table w cells from none at put) (z : B) (zeros : cells none ≡ replicate w z) where
  -- zeros from the n-th thing on
  pub blank_at : (l : List B) (n : ℕ) → drop (w * n) l ≡ replicate (length l - w * n) z → (k : ℕ) → n ≤ k → at l k ≡ none
  blank_at l n e k h = elim (le_or_lt (length l / w) k) [
    | inl b ↦ at_past t l k b
    | inr b ↦ cells_apart t (at l k) none (cells_at t l k b ∙ rest (whole w k (length l) t.some b) ∙ sym zeros)
  ]
    where
      past : w * n ≤ w * k
      past = mul-le-mul_left w h

      rest : w * k + w ≤ length l → take w (drop (w * k) l) ≡ replicate w z
      rest room =
          let here : w * n + (w * k - w * n) ≡ w * k = omega (arith, past) in
          ap (λ (i : ℕ). take w (drop i l)) (sym here) ∙ ap (take w) (sym (drop-drop (w * k - w * n) (w * n) l) ∙ ap (drop (w * k - w * n)) e ∙ drop_replicate z (w * k - w * n) (length l - w * n) (omega (arith, past, room)))
          ∙ take_replicate w (length l - w * n - (w * k - w * n)) z (omega (arith, past, room))

  -- a table that is zero from the n-th thing on is its first n things, laid out
  pub blank_padded : (l : List B) (n i : ℕ) → length l ≡ w * i → w * n ≤ length l → ((k : ℕ) → n ≤ k → at l k ≡ none) → l ≡ padded (length l) z (flat cells (up_to (at l) n))
  blank_padded l n i f h b =
      let size = length_up_to (at l) n in
      let room : w * length (up_to (at l) n) ≤ length l = rw size h in
      let full = length_padded t z (up_to (at l) n) (length l) room in
      table_same t (padded (length l) z (flat cells (up_to (at l) n))) l i (full ∙ f) (sym full) (λ k. go k room (le_or_lt n k))
    where
      go : (k : ℕ) → w * length (up_to (at l) n) ≤ length l → (n ≤ k) ⊎ (k < n) → at l k ≡ at (padded (length l) z (flat cells (up_to (at l) n))) k
      go k room (inl a) = b k a ∙ sym (blank_at (padded (length l) z (flat cells (up_to (at l) n))) n (rw (length_up_to (at l) n) at (drop_padded t z (up_to (at l) n) (length l) room)) k a)
      go k room (inr a) =
          sym (up_to_at (at l) n k none a) ∙ ap (λ (x : List A). get_or x k none) (sym (rw (length_up_to (at l) n) at (up_to_padded t z (up_to (at l) n) (length l) room)))
          ∙ up_to_at (at (padded (length l) z (flat cells (up_to (at l) n)))) n k none a

pub rows_blank : (l : List ℕ) (n : ℕ) → drop (row_width * n) l ≡ replicate (length l - row_width * n) 0 → (k : ℕ) → n ≤ k → row_at l k ≡ no_row
rows_blank = blank_at rows 0 refl

pub records_blank : (l : List ℕ) (n : ℕ) → drop (record_width * n) l ≡ replicate (length l - record_width * n) 0 → (k : ℕ) → n ≤ k → record_at l k ≡ no_record
records_blank = blank_at records 0 refl

pub points_blank : (l : List Float) (n : ℕ) → drop (point_width * n) l ≡ replicate (length l - point_width * n) no_float → (k : ℕ) → n ≤ k → point_at l k ≡ no_point
points_blank = blank_at points no_float refl

pub rows_padded : (l : List ℕ) (n : ℕ) → length l % row_width ≡ 0 → n ≤ length l / row_width → ((k : ℕ) → n ≤ k → row_at l k ≡ no_row) → l ≡ padded (length l) 0 (flat row_cells (up_to (row_at l) n))
rows_padded l n e h = blank_padded rows 0 refl l n (length l / row_width) (omega arith) (omega arith)

pub records_padded : (l : List ℕ) (n : ℕ) → length l % record_width ≡ 0 → n ≤ length l / record_width → ((k : ℕ) → n ≤ k → record_at l k ≡ no_record) → l ≡ padded (length l) 0 (flat record_cells (up_to (record_at l) n))
records_padded l n e h = blank_padded records 0 refl l n (length l / record_width) (omega arith) (omega arith)

pub points_padded : (l : List Float) (n : ℕ) → length l % point_width ≡ 0 → n ≤ length l / point_width → ((k : ℕ) → n ≤ k → point_at l k ≡ no_point) → l ≡ padded (length l) no_float (flat point_cells (up_to (point_at l) n))
points_padded l n e h = blank_padded points no_float refl l n (length l / point_width) (omega arith) (omega arith)
