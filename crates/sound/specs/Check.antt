-- What a check answers, and lent tables as one value.
use Rattle.std.specs.Prelude.{◌≡◌, Bool, true, false, List, [], ℕ, Float}
use Rattle.tables.specs.declared.layout.Counts.{Counts}
use Rattle.tables.specs.Mesh.{Lent, Mesh, mesh_of}

-- r says whether P holds
pub record Decides (P : Type 0) (r : Bool) : Type 0 where
  pub yes : r ≡ true → P
  pub no : r ≡ false → P → ⊥

abbrev pub lent : List Float → List ℕ → List ℕ → Lent
lent p r w = record { points = p; records = r; rows = w }

-- the mesh without its points: enough for every clause on records and rows
abbrev pub bare : List ℕ → List ℕ → Counts → Mesh
bare r w c = mesh_of (lent [] r w) c
