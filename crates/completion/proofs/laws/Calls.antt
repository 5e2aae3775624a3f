-- Histories of calls by either engine (02, L10; demand 3): what is split is what the splits at the start and the calls' marks force, whichever engine made each call.
use mathlib.Core.List.{List, ◌∷◌}
use Prim.Native.Nat.{ℕ, ◌<◌}
use lib.ListN.{length}
use Rattle.split.specs.declared.point.Point.{Point}
use Rattle.forest.specs.Element.{Forest, Element}
use Rattle.run.specs.Skeleton.{Skeleton, meshed}
use Rattle.run.specs.Ready.{Ready}
use Rattle.run.specs.Demand.{marked_elements}
use Rattle.run.proofs.laws.Needs.{AllMarkable}
use Rattle.run.proofs.laws.Calls.{After, after_needed}
use Rattle.completion.specs.Completion.{Completed}
use Rattle.completion.proofs.laws.Demanded.{completed_finished}

-- one call of the second engine more
pub after_completed : (P : List Point) (i t : ℕ) {S S' : Skeleton} {rs : List ℕ} → Completed S rs S' → Ready P i t S → length S'.records < 4294967295 → AllMarkable S rs
    → {F : Forest} {B : Element → Type 0} {calls : List (List Element)} → After (meshed P S) t F B calls → After (meshed P S') t F B (marked_elements (meshed P S) t rs ∷ calls)
after_completed P i t p y few k a = let w = completed_finished P i t p y few k in after_needed a w.grows.forest w.exactly
