-- The index of corner slots built over rows that stand. Nothing here is promised to callers.
use Rattle.std.specs.Prelude.{◌≡◌, List, ℕ, ◌*◌, ◌/◌, ◌≤◌, ◌<◌, length, get_or}
use Rattle.tables.specs.Layout.{row_width, no_row, row_at, most_rows}
use Rattle.closure.specs.State.{corner, links_at, scratch_for}

-- the scratch table is enough, and no vertex has a slot yet
pub record Headless (w s : List ℕ) : Type 0 where
  pub size : scratch_for (length w) ≤ length s
  pub heads : (v : ℕ) → v < links_at → get_or s v 0 ≡ 0

-- the first n rows can be put into the index
pub record Indexable (w s : List ℕ) (n : ℕ) : Type 0 where
  pub fresh : Headless w s
  pub few : n ≤ most_rows
  pub fits : n ≤ length w / row_width
  pub low : (k : ℕ) → k < 4 * n → corner w k < links_at
  pub blank : (k : ℕ) → n ≤ k → row_at w k ≡ no_row
