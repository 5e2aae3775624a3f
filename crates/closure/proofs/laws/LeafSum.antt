-- The leaf sum of sound tables (01, "Closure"): under each root the leaves' weights add up to one, over a list that has each leaf once.
use mathlib.Core.List.{[]}
use Prim.Native.Nat.{ℕ, ◌<◌}
use Rattle.tables.specs.declared.layout.Counts.{Counts}
use Rattle.tables.specs.Mesh.{Lent, mesh_of}
use Rattle.forest.specs.Element.{el}
use Rattle.forest.specs.LeafSum.{leaves_from}
use Rattle.sound.specs.Sound.{Sound}
use Rattle.run.specs.Leaves.{split_in}
use Rattle.run.proofs.laws.LeafSum.{Summed, table_leaves}
use Rattle.closure.proofs.laws.Taken.{sound_mesh, sound_ready}

pub sound_leaves : {t : Lent} {c : Counts} (s : Sound t c) (k : ℕ) → k < s.roots → Summed (mesh_of t c) s.roots k (leaves_from 60 (λ q. split_in (mesh_of t c) s.roots (el k q)) [])
sound_leaves {t} {c} s k h = rw (sound_mesh s) at (table_leaves (mesh_of t c).points (sound_ready s) k h)
