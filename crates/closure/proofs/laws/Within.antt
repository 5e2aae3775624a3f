-- A run that comes to its end is within the room, or it was stuck on the way; so the counts of an accepted call are within the room.
use Rattle.std.proofs.Common.{None, Some}
use mathlib.Core.Path.{◌≡◌}
use mathlib.Core.List.{List, ◌∷◌}
use mathlib.Core.Logic.{◌⊎◌, inl, inr}
use Prim.Native.Nat.{ℕ, ◌≤◌}
use lib.ListN.{length}
use Rattle.tables.specs.Layout.{most_vertices}
use Rattle.split.specs.declared.point.Point.{Point}
use Rattle.split.proofs.laws.Places.{le_or_lt}
use Rattle.tables.specs.declared.layout.Size.{Size}
use Rattle.run.specs.Skeleton.{Skeleton, row_in, meshed}
use Rattle.run.specs.Ready.{Ready}
use Rattle.run.specs.Run.{blocking, split_patch, Run, clear, blocked, RunAll, done, passed, refined, Within, Over, vertices, rows, Stuck, full, below, after, StuckAll, here}
use Rattle.run.specs.Demand.{Outgrows}
use Rattle.run.proofs.laws.Needs.{AllMarkable}
use Rattle.run.proofs.laws.Refused.{no_room}

module _ (room : Size) where
  within_or_over : (S : Skeleton) → Within room S ⊎ Over room S
  within_or_over S = elim (le_or_lt (length S.records) room.vertices) [
    | inr l ↦ inr (vertices l)
    | inl a ↦ elim (le_or_lt (length S.rows) room.rows) [ inr l ↦ inr (rows l) | inl b ↦ inl (record { vertices = a; rows = b }) ]
  ]

  clear_ends : {S S' : Skeleton} {r : ℕ} → blocking S.rows r ≡ None → S' ≡ split_patch S r → Within room S' ⊎ Stuck room S r
  clear_ends {S} {S'} {r} k e = elim (within_or_over (split_patch S r)) [ inl w ↦ inl (rw e w) | inr o ↦ inr (full k o) ]

  blocked_ends : {S T S' : Skeleton} {r b : ℕ} → blocking S.rows r ≡ Some b → Run S b T → Within room T ⊎ Stuck room S b → Within room S' ⊎ Stuck room T r → Within room S' ⊎ Stuck room S r
  blocked_ends k p (inr s) y = inr (below k s)
  blocked_ends k p (inl w) (inl w') = inl w'
  blocked_ends k p (inl w) (inr s) = inr (after k p w s)

  run_ends : {S S' : Skeleton} {r : ℕ} → Run S r S' → Within room S' ⊎ Stuck room S r
  run_ends (clear k e) = clear_ends k e
  run_ends (blocked k p q) = blocked_ends k p (run_ends p) (run_ends q)

  -- ---- all marks

  passed_ends : {S S' : Skeleton} {r : ℕ} {rs : List ℕ} → ((row_in S.rows r).child ≡ 0 → ⊥) → Within room S' ⊎ StuckAll room S rs → Within room S' ⊎ StuckAll room S (r ∷ rs)
  passed_ends n (inl w) = inl w
  passed_ends n (inr s) = inr (passed n s)

  refined_ends : {S T S' : Skeleton} {r : ℕ} {rs : List ℕ} → (row_in S.rows r).child ≡ 0 → Run S r T → Within room T ⊎ Stuck room S r → (Within room T → Within room S' ⊎ StuckAll room T rs) → Within room S' ⊎ StuckAll room S (r ∷ rs)
  refined_ends l p (inr s) f = inr (here l s)
  refined_ends l p (inl w) f = elim (f w) [ inl w' ↦ inl w' | inr s ↦ inr (refined l p w s) ]

  all_ends : {S S' : Skeleton} {rs : List ℕ} → RunAll S rs S' → Within room S → Within room S' ⊎ StuckAll room S rs
  all_ends (done e) w = inl (rw e w)
  all_ends (passed n p) w = passed_ends n (all_ends p w)
  all_ends (refined l p q) w = refined_ends l p (run_ends p) (all_ends q)

-- what does not outgrow the room ends within it
pub run_within : (P : List Point) (i t : ℕ) {S S' : Skeleton} {rs : List ℕ} {room : Size} → RunAll S rs S' → Ready P i t S → Within room S → room.vertices ≤ most_vertices → AllMarkable S rs → (Outgrows room (meshed P S) i t rs → ⊥) → Within room S'
run_within P i t {room = room} p y w small k n = elim (all_ends room p w) [ inl a ↦ a | inr s ↦ absurd (n (no_room P i t s y w small k)) ]
