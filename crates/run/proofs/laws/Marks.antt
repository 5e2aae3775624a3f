-- What refining all marked leaves does: sound tables stay so, every marked row is split, and everything split lies in every closed set that holds what was split before and the marked elements.
use mathlib.Core.List.{List, Memᴰ}
use Prim.Native.Nat.{ℕ, ◌<◌}
use lib.ListN.{length}
use Rattle.split.specs.declared.point.Point.{Point}
use Rattle.forest.specs.Element.{Element}
use Rattle.forest.specs.Closed.{Closed}
use Rattle.sound.specs.Forest.{forest_of, element_of}
use Rattle.run.specs.Ready.{Ready}
use Rattle.run.specs.Skeleton.{Skeleton, meshed}
use Rattle.run.specs.Run.{RunAll, done, passed, refined}
use Rattle.run.proofs.laws.Needs.{Inside, AllMarkable}
use Rattle.run.proofs.laws.Leads.{Leads, done_leads, passed_leads, refined_leads}
pub use Rattle.run.proofs.laws.Leads.{Finished, all_records}

module _ (P : List Point) (i t : ℕ) (Z : Element → Type 0) where
  leads : {S S' : Skeleton} {rs : List ℕ} → RunAll S rs S' → Leads P i t Z S rs S'
  leads (done e) = done_leads P i t Z e
  leads (passed n p) = passed_leads P i t Z n (leads p)
  leads (refined l p q) = refined_leads P i t Z l p q (leads q)

  pub run_all : {S S' : Skeleton} {rs : List ℕ} → RunAll S rs S' → Ready P i t S → length S'.records < 4294967295 → AllMarkable S rs → Closed (forest_of (meshed P S) t) Z → Inside (meshed P S) t Z → ((r : ℕ) → Memᴰ r rs → Z (element_of (meshed P S) t r))
      → Finished P i t S S' rs Z
  run_all p = (leads p).from
