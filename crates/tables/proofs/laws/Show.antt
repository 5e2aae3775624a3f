-- What is shown of an element: nothing, exactly unless its row is below a count that the table holds, and else four numbers.
use mathlib.Core.Path.{◌≡◌, sym, ap, ◌∙◌}
use mathlib.Core.List.{List, [], ◌∷◌}
use mathlib.Core.Logic.{◌⊎◌, inl, inr}
use Prim.Native.Nat.{ℕ, ◌*◌, ◌≤◌, ◌<◌}
use native.Mathlib.Omega.{arith}
use borrow.Author.Tests.{lt-ltb, le-ltb, le-leb, lt-leb}
use lib.Dec.{lit≤}
use lib.ListN.{length, take, drop}
use lib.Seq.{take-take}
use Rattle.split.proofs.laws.Places.{le_or_lt}
use Rattle.tables.specs.Layout.{row_width, row_at, shown}
use Rattle.tables.proofs.laws.Table.{cells_at}
use Rattle.tables.proofs.laws.Rows.{rows}

module _ (l : List ℕ) (count row : ℕ) where
  pub shown_empty : (row < count → row_width * count ≤ length l → ⊥) → shown l count row ≡ []
  unfolding shown
  shown_empty n = go (le_or_lt count row) (le_or_lt (row_width * count) (length l))
    where
      go : (count ≤ row) ⊎ (row < count) → (row_width * count ≤ length l) ⊎ (length l < row_width * count) → shown l count row ≡ []
      go (inl h) k = rw (le-ltb _ _ h)
      go (inr h) (inl k) = absurd (n h k)
      go (inr h) (inr k) = rw (lt-ltb _ _ h, lt-leb _ _ k)

  module _ (h : row < count) (k : row_width * count ≤ length l) where
    pub shown_whole : shown l count row ≡ take 4 (drop (row_width * row) l)
    unfolding shown
    shown_whole = rw (lt-ltb _ _ h, le-leb _ _ k)

    -- the vertices of the row
    pub shown_row : shown l count row ≡ (row_at l row).v0 ∷ (row_at l row).v1 ∷ (row_at l row).v2 ∷ (row_at l row).v3 ∷ []
    shown_row = shown_whole ∙ sym (take-take 4 row_width (drop (row_width * row) l) (lit≤ tt)) ∙ ap (take 4) (sym (cells_at rows l row (omega arith)))

    pub length_shown : length (shown l count row) ≡ 4
    length_shown = ap length shown_row
