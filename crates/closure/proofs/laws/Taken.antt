-- A call that was accepted passed every test, and sound tables are a start for its run.
use Rattle.std.proofs.Common.{None}
use mathlib.Core.Path.{◌≡◌}
use mathlib.Core.List.{List}
use mathlib.Core.Logic.{inl, inr}
use Prim.Native.Nat.{ℕ}
use lib.ListN.{length}
use Rattle.tables.specs.declared.layout.Counts.{Counts}
use Rattle.tables.specs.Mesh.{Lent, mesh_of}
use Rattle.intake.specs.Search.{first}
use Rattle.sound.specs.Sound.{vertices, rows, Sound}
use Rattle.sound.proofs.laws.Laid.{mesh_vertices, mesh_rows}
use Rattle.run.specs.Skeleton.{skeleton, meshed}
use Rattle.run.specs.Ready.{Ready}
use Rattle.run.specs.Run.{Within}
use Rattle.run.specs.Demand.{Deep, Outgrows}
use Rattle.run.proofs.laws.Needs.{AllMarkable, deep_or_all}
use Rattle.closure.specs.Refine.{refined_to, absent, room_in, Engine, Accepts, outgrown, fits, deep, shallow, OnMarks, missing, present, RefinesBy, unsound, sound}
use Rattle.closure.proofs.laws.Entry.{entry_mesh, entry_ready}
use Rattle.closure.proofs.laws.Judged.{mark_row, deep_by_marks}
use Rattle.closure.proofs.laws.Promise.{done_never, judged_by}

-- ---- an accepted call passed every test

pub record Taken (E : Engine) (t : Lent) (c : Counts) (i roots : ℕ) (marks : List ℕ) (d : Counts) (n : ℕ) (t' : Lent) : Type 0 where
  pub there : first (absent c.rows marks) (length marks) ≡ None
  pub shallow : Deep (mesh_of t c) roots marks → ⊥
  pub fits : Outgrows (room_in t) (mesh_of t c) i roots marks → ⊥
  pub accepts : Accepts E t c marks (refined_to d n) t'

module _ {E : Engine} {t : Lent} {c : Counts} {marks : List ℕ} {d : Counts} {n : ℕ} {t' : Lent} where
  by_marks : {i roots : ℕ} → OnMarks E t c i roots marks (refined_to d n) t' → Taken E t c i roots marks d n t'
  by_marks (missing p e x) = done_never x.answers
  by_marks (present e (deep b x)) = done_never x.answers
  by_marks (present e (shallow b (outgrown o x))) = done_never x.answers
  by_marks (present e (shallow b (fits o x))) = record { there = e; shallow = b; fits = o; accepts = x }

  pub taken : (s : Sound t c) → RefinesBy E t c marks (refined_to d n) t' → Taken E t c s.initials s.roots marks d n t'
  taken s (unsound f x) = absurd (f s)
  taken s (sound s' x) = by_marks (judged_by s s' x)

  -- an accepted call was on sound tables
  pub was_sound : RefinesBy E t c marks (refined_to d n) t' → Sound t c
  was_sound (unsound f x) = done_never x.answers
  was_sound (sound s x) = s

-- ---- sound tables as a start for a run

module _ {t : Lent} {c : Counts} (s : Sound t c) where
  pub sound_mesh : meshed (mesh_of t c).points (skeleton (mesh_of t c)) ≡ mesh_of t c
  unfolding mesh_of
  sound_mesh = entry_mesh s

  pub sound_ready : Ready (mesh_of t c).points s.initials s.roots (skeleton (mesh_of t c))
  unfolding mesh_of
  sound_ready = entry_ready s

  pub sound_rows : rows (mesh_of t c) ≡ c.rows
  sound_rows = mesh_rows t c

  pub sound_vertices : vertices (mesh_of t c) ≡ c.vertices
  sound_vertices = mesh_vertices t c

  pub sound_within : Within (room_in t) (skeleton (mesh_of t c))
  sound_within = record { vertices = rw sound_vertices s.fitting.vertices_fit; rows = rw sound_rows s.fitting.rows_fit }

  -- marks that are there and do not need too deep an element
  pub sound_markable : {marks : List ℕ} → first (absent c.rows marks) (length marks) ≡ None → (Deep (mesh_of t c) s.roots marks → ⊥) → AllMarkable (skeleton (mesh_of t c)) marks
  sound_markable {marks} e n = elim (deep_or_all s.grown marks (mark_row s marks e)) [ inl d ↦ absurd (n ((deep_by_marks s marks e).1 d)) | inr k ↦ k ]
