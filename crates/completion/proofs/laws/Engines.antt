-- Both engines side by side (02, L10): they refuse in the same cases and split exactly the same elements. Nothing else here knows of the recursive one.
use mathlib.Core.Path.{sym, ◌∙◌}
use mathlib.Core.List.{List}
use mathlib.Core.Logic.Iff
use Prim.Native.Nat.{ℕ, ◌≤◌, ◌<◌}
use native.Mathlib.Omega.{arith}
use lib.ListN.{length}
use Rattle.tables.specs.Layout.{most_vertices}
use Rattle.split.specs.declared.point.Point.{Point}
use Rattle.tables.specs.declared.layout.Size.{Size}
use Rattle.run.specs.Skeleton.{Skeleton}
use Rattle.run.specs.Ready.{Ready}
use Rattle.run.specs.Run.{RunAll, StuckAll, Within}
use Rattle.run.proofs.laws.Needs.{AllMarkable}
use Rattle.run.proofs.laws.Demanded.{run_finished, demanded}
use Rattle.run.proofs.laws.Room.{enough_room}
use Rattle.run.proofs.laws.Refused.{no_room}
use Rattle.completion.specs.Completion.{Completed, Stuck}
use Rattle.completion.proofs.laws.Demanded.{completed_finished, Alike, same_counts}
use Rattle.completion.proofs.laws.Room.{outgrows_stuck, fits_accepted}

-- it splits exactly the same elements as the recursive engine (02, L10)
pub both_engines : (P : List Point) (i t : ℕ) {S A B : Skeleton} {rs : List ℕ} → RunAll S rs A → Completed S rs B → Ready P i t S → length A.records < 4294967295 → length B.records < 4294967295 → AllMarkable S rs → Alike P t A B
both_engines P i t p q y less few k =
    let a = run_finished P i t p y less k in
    let b = completed_finished P i t q y few k in
    same_counts a.ready b.ready (a.grows.forest ∙ sym b.grows.forest) (λ e. Iff.trans (demanded P i t p y less k e) (Iff.symm (b.exactly e)))

module _ (P : List Point) (i t : ℕ) {S : Skeleton} {rs : List ℕ} {room : Size} (y : Ready P i t S) (f : Within room S) (small : room.vertices ≤ most_vertices) (k : AllMarkable S rs) where
  -- where the recursive engine has no room, this one has none (02, L10)
  pub same_refusal : StuckAll room S rs → Stuck room S rs
  same_refusal p = outgrows_stuck P i t y f small k (no_room P i t p y f small k)

  -- and where the recursive one is accepted, so is this one (02, L10)
  pub same_acceptance : {A : Skeleton} → RunAll S rs A → Within room A → (B : Skeleton) × Completed S rs B × Within room B
  same_acceptance p w = fits_accepted P i t y f small k (enough_room P i t p y (omega (arith, w.vertices, small)) k room w)
