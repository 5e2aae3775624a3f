-- Room: an accepted call needs no more than there is (demand 3).
use mathlib.Core.List.{List}
use Prim.Native.Nat.{ℕ, ◌<◌}
use lib.ListN.{length}
use Rattle.split.specs.declared.point.Point.{Point}
use Rattle.tables.specs.declared.layout.Size.{Size}
use Rattle.run.specs.Ready.{Ready}
use Rattle.run.specs.Skeleton.{Skeleton, meshed}
use Rattle.run.specs.Run.{RunAll, Within}
use Rattle.run.specs.Demand.{Outgrows}
use Rattle.run.proofs.laws.Needs.{AllMarkable}
use Rattle.run.proofs.laws.Demanded.{run_finished, demanded}
use Rattle.run.proofs.laws.Sizes.{split_fits}

-- a call that is accepted
pub enough_room : (P : List Point) (i t : ℕ) {S S' : Skeleton} {rs : List ℕ} → RunAll S rs S' → Ready P i t S → length S'.records < 4294967295 → AllMarkable S rs → (room : Size) → Within room S' → Outgrows room (meshed P S) i t rs → ⊥
unfolding Outgrows
enough_room P i t p y few k room w = let f = run_finished P i t p y few k in split_fits f.ready.grown f.grows.forest (λ e. (demanded P i t p y few k e).1) w
