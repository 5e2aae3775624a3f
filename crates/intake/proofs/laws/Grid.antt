-- What stands at a place of an element in a table, by the two strides; behind the end there are zeros.
use mathlib.Core.Path.{◌≡◌, sym, ◌∙◌}
use mathlib.Core.Bool.{true, false}
use mathlib.Core.List.{List}
use Prim.Native.Nat.{ℕ, ◌+◌, ◌-◌, ◌*◌, ◌/◌, ◌≤◌, ◌<◌}
use native.Mathlib.Omega.{arith}
use lib.ListN.{length, get_or, take, drop, get_or-eq_default}
use lib.Seq.{get_or-take, get_or-drop}
use Rattle.intake.specs.declared.grid.Grid.{Grid}
use Rattle.intake.specs.declared.grid.Four.{Four}
use Rattle.intake.specs.Cells.{cells, quads, four_of}

behind : (T : List ℕ) (i : ℕ) → length T ≤ i → 0 ≡ get_or T i 0
behind T i h = sym (get_or-eq_default T 0 {n = i} h)

pub behind_at : (T : List ℕ) (at q : ℕ) → length T - at ≤ q → 0 ≡ get_or T (at + q) 0
behind_at T at q h = behind T (at + q) (omega arith)

module _ (T : List ℕ) (g : Grid) (k q : ℕ) where
  pub row_behind : g.rows ≡ true → length T / 8 < k → 0 ≡ (cells T g).vertex k q
  row_behind e h = rw e (behind T (8 * k + q) (omega arith))

  pub row_there : {r : ℕ} → g.rows ≡ true → r ≡ get_or T (8 * k + q) 0 → r ≡ (cells T g).vertex k q
  row_there e h = rw e h

  pub quad_behind : g.rows ≡ false → length T / 4 < k → 0 ≡ (cells T g).vertex k q
  quad_behind e h = rw e (behind T (4 * k + q) (omega arith))

  pub quad_there : {r : ℕ} → g.rows ≡ false → r ≡ get_or T (4 * k + q) 0 → r ≡ (cells T g).vertex k q
  quad_there e h = rw e h

-- ---- four numbers read as one part of a table

abbrev part : List ℕ → ℕ → List ℕ
part T i = take (i + 4 - i) (drop i T)

part_at : (T : List ℕ) (i q : ℕ) → q < 4 → get_or (part T i) q 0 ≡ get_or T (i + q) 0
part_at T i q h = get_or-take (i + 4 - i) (drop i T) q 0 (omega arith) ∙ get_or-drop i T q 0

abbrev four : ℕ → ℕ → ℕ → ℕ → Four
four a b c d = record { a = a; b = b; c = c; d = d }

part_four : (T : List ℕ) (i : ℕ) → four_of (quads (part T i)) 0 ≡ four (get_or T (i + 0) 0) (get_or T (i + 1) 0) (get_or T (i + 2) 0) (get_or T (i + 3) 0)
unfolding four_of
part_four T i = rw (← part_at T i 0 (omega arith), ← part_at T i 1 (omega arith), ← part_at T i 2 (omega arith), ← part_at T i 3 (omega arith))

module _ (T : List ℕ) (g : Grid) (k : ℕ) {r : Four} where
  pub row_four : g.rows ≡ true → r ≡ four_of (quads (part T (8 * k))) 0 → r ≡ four_of (cells T g) k
  unfolding four_of
  row_four e h = rw e (h ∙ part_four T (8 * k))

  pub quad_four : g.rows ≡ false → r ≡ four_of (quads (part T (4 * k))) 0 → r ≡ four_of (cells T g) k
  unfolding four_of
  quad_four e h = rw e (h ∙ part_four T (4 * k))
