-- On lent tables: a rebuild that fits makes sound tables, and the leading vertices and roots of sound tables are intact (02, L13).
use mathlib.Core.Path.{◌≡◌}
use Prim.Native.Nat.{ℕ, ◌%◌, ◌≤◌}
use native.Mathlib.Omega.{arith}
use lib.ListN.{length}
use Rattle.tables.specs.declared.layout.Counts.{Counts}
use Rattle.tables.specs.Layout.{point_width, record_width, row_width, room_of, most_vertices}
use Rattle.tables.specs.Mesh.{Lent, Mesh, Counting, mesh_of, laid}
use Rattle.tables.proofs.laws.View as view
use Rattle.sound.specs.Sound.{rows, Sound}
use Rattle.sound.proofs.laws.Laid.{mesh_vertices, mesh_rows, laid_sound}
use Rattle.run.specs.Skeleton.{Skeleton}
use Rattle.run.specs.Run.{Within}
use Rattle.run.proofs.laws.Points.{points_length}
use Rattle.salvage_theory.specs.Kept.{Intact}
use Rattle.salvage_theory.specs.Rebuild.{initials, mesh_from, Rebuilt, KeptDeep}
use Rattle.salvage_theory.proofs.laws.Opened.{opened_rows}
use Rattle.salvage_theory.proofs.laws.Rebuilt.{Built, rebuilt_built}
use Rattle.salvage_theory.proofs.laws.Sound.{grown_intact}

-- the rebuilt tables are sound, whatever their lengths, where the mesh is within their room
module _ {m : Mesh} {i t : ℕ} (n : Intact m i t) (never : KeptDeep m t → ⊥) {T : Skeleton} (p : Rebuilt m i t (rows m) T) (lp lv lr : ℕ) (f : Within (room_of lp lv lr) T) where
  few : length T.records ≤ most_vertices
  unfolding room_of
  few = omega (arith, f.vertices)

  built : Built m i t (rows m) T
  built = rebuilt_built n never p (omega (arith, few))

  size : length (mesh_from m i T).points ≡ length T.records
  size = points_length (initials m i) T built.ready.based

  fits : view.Within (mesh_from m i T) lp lv lr
  unfolding room_of
  fits = record { points = omega (arith, size, f.vertices); records = omega (arith, f.vertices); rows = omega (arith, f.rows); together = size }

  pub rebuilt_sound : {c : Counts} → Counting (mesh_from m i T) c → lp % point_width ≡ 0 → lv % record_width ≡ 0 → lr % row_width ≡ 0 → Sound (laid (mesh_from m i T) lp lv lr) c
  rebuilt_sound k three two eight =
      laid_sound (mesh_from m i T) lp lv lr fits k (record { points_whole = three; records_whole = two; rows_whole = eight; vertices_fit = rw size f.vertices; rows_fit = f.rows })
      (omega (arith, built.grows.more_rows, opened_rows n, n.afresh.some)) i t built.ready.grown built.ready.conforming

-- the leading vertices and roots of sound tables are intact
pub sound_intact : {t : Lent} {c : Counts} (s : Sound t c) → Intact (mesh_of t c) s.initials s.roots
unfolding room_of
sound_intact {t} {c} s = grown_intact s.grown (omega (arith, s.fitting.vertices_fit, mesh_vertices t c)) (omega (arith, s.fitting.rows_fit, mesh_rows t c))
