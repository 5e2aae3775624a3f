-- Opened tables are sound, all their vertices are initial, all their rows are roots, and none is split: a history starts so (demand 3).
use Rattle.std.proofs.Common.{Ok}
use mathlib.Core.Path.{◌≡◌, sym, ap, subst, ◌∙◌}
use mathlib.Core.List.{List}
use Prim.Native.Nat.{ℕ, ◌/◌, ◌<◌}
use lib.ListN.{length}
use lib.Ieee.{Float}
use Rattle.split.specs.declared.row.Row.{Row}
use Rattle.tables.specs.declared.layout.Counts.{Counts}
use Rattle.tables.specs.Layout.{row_at}
use Rattle.tables.specs.Mesh.{Lent, Mesh, mesh_of, laid}
use Rattle.intake.specs.Cells.{quads}
use Rattle.opening.specs.Opening.{judged, opened_mesh, Opens}
use Rattle.sound.specs.Sound.{Parted, Sound}
use Rattle.sound.proofs.laws.Tested.{allowed}
use Rattle.sound.proofs.laws.Opened.{opened_row, opened_leaf, opened_parted, opened_mesh_lem, opened_sound}
use Rattle.sound.proofs.laws.Demanded.{size, table_row, opens_laid}
use Rattle.closure.proofs.laws.Promise.{one_initials, one_roots}

-- sound tables in which no row is split, as opening leaves them
pub record Unsplit (t : Lent) (c : Counts) : Type 0 where
  pub sound : Sound t c
  pub initials_are : sound.initials ≡ c.vertices
  pub roots_are : sound.roots ≡ c.rows
  pub leaves : (k : ℕ) → k < c.rows → (row_at t.rows k).child ≡ 0

module _ (F : List Float) (E : List ℕ) (lp lv lr : ℕ) (passed : judged F E lp lv lr ≡ Ok tt) where
  sure : Sound (laid (opened_mesh F (quads E)) lp lv lr) (size F E)
  sure = opened_sound F E lp lv lr passed

  parted : Parted (mesh_of (laid (opened_mesh F (quads E)) lp lv lr) (size F E)) (length F / 3) (length E / 4)
  parted = subst (λ (m : Mesh). Parted m (length F / 3) (length E / 4)) (sym (opened_mesh_lem F E lp lv lr (allowed F E lp lv lr passed))) (opened_parted F (quads E))

  pub laid_unsplit : Unsplit (laid (opened_mesh F (quads E)) lp lv lr) (size F E)
  laid_unsplit = record {
    sound = sure;
    initials_are = one_initials sure.grown.parted parted;
    roots_are = one_roots sure.grown.parted parted;
    leaves = λ k h. ap (λ (r : Row). r.child) (table_row F E lp lv lr passed k h ∙ sym (opened_row F (quads E) k h)) ∙ opened_leaf F (quads E) k h;
  }

pub opens_unsplit : {F : List Float} {E : List ℕ} {t : Lent} {c : Counts} {t' : Lent} → Opens F E t (Ok c) t' → Unsplit t' c
opens_unsplit {F} {E} o = opens_laid Unsplit o (laid_unsplit F E)
