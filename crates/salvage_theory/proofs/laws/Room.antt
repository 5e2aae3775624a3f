-- 2 is given exactly when the kept elements need more than there is (02, L13: "then 2").
use mathlib.Core.Path.{◌∙◌}
use Prim.Native.Nat.{ℕ, ◌≤◌, ◌<◌}
use native.Mathlib.Omega.{arith}
use lib.ListN.{length}
use Rattle.tables.specs.Layout.{most_vertices}
use Rattle.tables.specs.declared.layout.Size.{Size}
use Rattle.tables.specs.Mesh.{Mesh}
use Rattle.sound.specs.Sound.{rows}
use Rattle.sound.specs.Forest.{forest_of}
use Rattle.run.specs.Skeleton.{Skeleton}
use Rattle.run.specs.Run.{Within}
use Rattle.run.specs.Demand.{OutgrowsIn}
use Rattle.run.proofs.laws.Refused.{stuck_all_over}
use Rattle.run.proofs.laws.Sizes.{split_fits, split_outgrows}
use Rattle.salvage_theory.specs.Kept.{Intact}
use Rattle.salvage_theory.specs.Rebuild.{Salvaged, initials, Rebuilt, KeptDeep, Stalled, start, stuck}
use Rattle.salvage_theory.proofs.laws.Opened.{opened_grown, opened_whole, opened_forest}
use Rattle.salvage_theory.proofs.laws.Rebuilt.{kept_markable, kept_forced, built_closed, built_forest, rebuilt_built, rebuilt_forced}

module _ {m : Mesh} {i t : ℕ} (n : Intact m i t) (never : KeptDeep m t → ⊥) (room : Size) where
  -- a rebuild that comes to its end within the room needs no more than there is
  pub rebuilt_room : {T : Skeleton} → Rebuilt m i t (rows m) T → length T.records < 4294967295 → Within room T → OutgrowsIn room (forest_of m t) i (Salvaged m t) → ⊥
  rebuilt_room p few w =
      let b = rebuilt_built n never p few in
      split_fits b.ready.grown (built_forest n b) (λ e. (rebuilt_forced n never p few e).1) w

  -- one that has no room for the opened mesh or for a patch needs more
  pub stalled_large : room.vertices ≤ most_vertices → Stalled room m i t → OutgrowsIn room (forest_of m t) i (Salvaged m t)
  stalled_large small (start v) = split_outgrows (opened_grown n) (opened_forest n) (λ e s. absurd (opened_whole n e s)) v
  stalled_large small (stuck p f w q) =
      let b = rebuilt_built n never p (omega (arith, f.vertices, small)) in
      let o = stuck_all_over (initials m i) i t (Salvaged m t) room small q b.ready f (kept_markable n never b w) (built_closed n b) b.inside (kept_forced n b w) in
      split_outgrows o.ready.grown (o.grows.forest ∙ built_forest n b) o.inside o.over
