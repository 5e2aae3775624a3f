-- An accepted call appends and renumbers nothing: old rows are what they were but for the first child of those split now, and old vertices are what they were.
use mathlib.Core.Path.{◌≡◌, refl, sym, ap, ◌∙◌}
use mathlib.Core.List.{List, [], ◌∷◌, ◌++◌}
use Prim.Native.Nat.{ℕ, ◌<◌}
use native.Mathlib.Omega.{arith}
use lib.ListN.{length, get_or, drop, length-append, get_or-append}
use Rattle.split.specs.declared.point.Point.{Point}
use Rattle.tables.specs.declared.layout.Counts.{Counts}
use Rattle.tables.specs.declared.record.Record.{Record}
use Rattle.tables.specs.Layout.{no_point, point_at, record_at, row_at}
use Rattle.tables.specs.Mesh.{Lent, Mesh, mesh_of}
use Rattle.tables.proofs.laws.View.{mesh_row, mesh_record, mesh_point, mesh_points}
use Rattle.sound.specs.Sound.{point_of, childless, Sound}
use Rattle.run.specs.Skeleton.{extended}
use Rattle.run.proofs.laws.Points.{halfway}
use Rattle.closure.specs.Refine.{refined_to, Refines}
use Rattle.closure.proofs.laws.Taken.{sound_rows, sound_vertices, taken}
use Rattle.closure.proofs.laws.Accepted.{accepted_mesh, accepted_grows, accepted_counted}

-- further midpoints do not move a point
extended_front : (P : List Point) (rs : List Record) (v : ℕ) → v < length P → get_or (extended P rs) v no_point ≡ get_or P v no_point
unfolding extended
extended_front P [] v h = refl
extended_front P (r ∷ rs) v h = extended_front (P ++ (halfway P r ∷ [])) rs v (omega (arith, length-append P (halfway P r ∷ []))) ∙ get_or-append P (halfway P r ∷ []) no_point v h

-- ---- an accepted call

pub record Kept (t : Lent) (c : Counts) (t' : Lent) : Type 0 where
  pub row : (k : ℕ) → k < c.rows → childless (row_at t'.rows k) ≡ childless (row_at t.rows k)
  pub split : (k : ℕ) → k < c.rows → ((row_at t.rows k).child ≡ 0 → ⊥) → row_at t'.rows k ≡ row_at t.rows k
  pub vertex : (v : ℕ) → v < c.vertices → record_at t'.records v ≡ record_at t.records v
  pub point : (v : ℕ) → v < c.vertices → point_at t'.points v ≡ point_at t.points v

module _ {t : Lent} {c : Counts} (s : Sound t c) {marks : List ℕ} {d : Counts} {n : ℕ} {t' : Lent} (x : Refines t c marks (refined_to d n) t') where
  row_in_both : (k : ℕ) → k < c.rows → k < d.rows
  row_in_both k h = omega (arith, (accepted_counted s x).rows)

  vertex_in : (v : ℕ) → v < c.vertices → v < d.vertices
  vertex_in v h = omega (arith, (accepted_counted s x).vertices)

  pub accepted_kept : Kept t c t'
  accepted_kept = record {
    row = λ k h. ap childless (sym (mesh_row t' d k (row_in_both k h))) ∙ (accepted_grows s x).row k (rw (sound_rows s) h) ∙ ap childless (mesh_row t c k h);
    split = λ k h b. sym (mesh_row t' d k (row_in_both k h)) ∙ (accepted_grows s x).split k (rw (sound_rows s) h) (rw (mesh_row t c k h) b) ∙ mesh_row t c k h;
    vertex = λ v h. sym (mesh_record t' d v (vertex_in v h)) ∙ (accepted_grows s x).record_old v (rw (sound_vertices s) h) ∙ mesh_record t c v h;
    point = λ v h. sym (mesh_point t' d v (vertex_in v h)) ∙ ap (λ (m : Mesh). point_of m v) (accepted_mesh s x)
        ∙ extended_front (mesh_of t c).points (drop (length (mesh_of t c).points) (taken s x).accepts.after.records) v (rw (mesh_points t c) h) ∙ mesh_point t c v h;
  }
