-- A run over marks splits exactly what the call needs (demand 3).
use mathlib.Core.List.{List}
use mathlib.Core.Logic.{◌↔◌}
use Prim.Native.Nat.{ℕ, ◌<◌}
use lib.ListN.{length}
use Rattle.split.specs.declared.point.Point.{Point}
use Rattle.forest.specs.Element.{Element}
use Rattle.forest.proofs.Forced.{forced_closed}
use Rattle.sound.specs.Forest.{SplitOf}
use Rattle.run.specs.Ready.{Ready}
use Rattle.run.specs.Skeleton.{Skeleton, meshed}
use Rattle.run.specs.Run.{RunAll}
use Rattle.run.specs.Demand.{Needed}
use Rattle.run.proofs.laws.Needs.{needed_split, needed_mark, AllMarkable, needed_exactly}
use Rattle.run.proofs.laws.Marks.{Finished, run_all}

module _ (P : List Point) (i t : ℕ) {S S' : Skeleton} {rs : List ℕ} (p : RunAll S rs S') (y : Ready P i t S) (few : length S'.records < 4294967295) (k : AllMarkable S rs) where
  pub run_finished : Finished P i t S S' rs (Needed (meshed P S) t rs)
  run_finished = run_all P i t (Needed (meshed P S) t rs) p y few k forced_closed (needed_split (meshed P S) t rs) (needed_mark (meshed P S) t rs)

  -- the split elements are the smallest closed set that holds those split before and those marked (demand 3)
  pub demanded : (e : Element) → SplitOf (meshed P S') t e ↔ Needed (meshed P S) t rs e
  demanded = let w = run_finished in needed_exactly w.ready.grown w.ready.conforming w.grows (λ r j. (k r j).there) w.split w.inside
