-- Vertices on their way into a row, with their colours in the table. Nothing here is promised to callers.
use Rattle.std.specs.Prelude.{ℕ, ◌<◌}
use Rattle.tables.specs.Layout.{most_vertices}
use Rattle.split.specs.Split.{Corners, corners}
use Rattle.opening.specs.declared.order.Two.{Two}
use Rattle.intake.specs.declared.grid.Four.{Four}
use Rattle.opening.specs.Order.{lower, upper}

abbrev pub four : Four → Corners ℕ
four w = corners w.a w.b w.c w.d

abbrev pub in_order : (ℕ → ℕ) → ℕ → ℕ → Two
in_order f a b = record { low = lower f a b; high = upper f a b }

-- vertex numbers that the table has a colour for
pub record Low (w : Four) : Type 0 where
  pub a : w.a < most_vertices
  pub b : w.b < most_vertices
  pub c : w.c < most_vertices
  pub d : w.d < most_vertices
