-- Elements as opening sees them: how many there are, and the vertex at place q of element k. Where the numbers stand is a matter of the view.
use Rattle.std.specs.Prelude.{Bool, cond, List, ℕ, ◌+◌, ◌*◌, ◌/◌, length, get_or}
use Rattle.tables.specs.Layout.{row_width}
use Rattle.intake.specs.declared.grid.Grid.{Grid}
use Rattle.intake.specs.declared.grid.Four.{Four}

pub record Cells : Type 0 where
  pub count : ℕ
  pub vertex : ℕ → ℕ → ℕ

-- an element in a table takes a row, its vertices first, or just four numbers
abbrev pub stride : Bool → ℕ
stride rows = cond rows row_width 4

abbrev pub grid_of : Bool → ℕ → Grid
grid_of rows n = record { rows = rows; count = n }

abbrev pub cells : List ℕ → Grid → Cells
cells T g = record { count = g.count; vertex = λ k q. get_or T (stride g.rows * k + q) 0 }

-- a list with four numbers an element
abbrev pub quads : List ℕ → Cells
quads E = record { count = length E / 4; vertex = λ k q. get_or E (4 * k + q) 0 }

-- the four vertices of element k
unfoldable pub four_of : Cells → ℕ → Four
four_of E k = record { a = E.vertex k 0; b = E.vertex k 1; c = E.vertex k 2; d = E.vertex k 3 }
