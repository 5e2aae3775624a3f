-- The second engine refuses for want of room in the same cases (02, L10): it comes to a split without room exactly when the call needs more than there is (01, number 2).
use mathlib.Core.Path.{refl}
use mathlib.Core.List.{List, Memᴰ}
use Prim.Native.Nat.{ℕ, ◌≤◌, ◌<◌}
use native.Mathlib.Omega.{arith}
use lib.ListN.{length}
use Rattle.tables.specs.Layout.{most_vertices}
use Rattle.split.specs.declared.point.Point.{Point}
use Rattle.tables.specs.declared.layout.Size.{Size}
use Rattle.forest.specs.Element.{Element}
use Rattle.forest.specs.Closed.{Closed}
use Rattle.forest.proofs.Forced.{forced_closed}
use Rattle.sound.specs.Forest.{forest_of, element_of}
use Rattle.run.specs.Skeleton.{Skeleton, meshed}
use Rattle.run.specs.Ready.{Ready, Growing}
use Rattle.run.specs.Run.{Within, Over}
use Rattle.run.specs.Demand.{Needed, Outgrows}
use Rattle.run.proofs.laws.Needs.{Inside, AllMarkable, markable_open, markable_later, needed_split, needed_mark}
use Rattle.run.proofs.laws.Single.{growing}
use Rattle.run.proofs.laws.Sizes.{split_fits, split_outgrows}
use Rattle.completion.specs.Completion.{split_one, Completed, StuckLoop, Stuck}
use Rattle.completion.specs.Completion.StuckLoop.{full as loop-full, onward as loop-onward}
use Rattle.completion.specs.Completion.Stuck.{loop, passed, full, split}
use Rattle.completion.proofs.laws.One.{one_records}
use Rattle.completion.proofs.laws.Steps.{Went, went_on, went_one, went_lowest}
use Rattle.completion.proofs.laws.Demanded.{completed_finished}
use Rattle.completion.proofs.laws.Ends.{CallEnds, accepts, refuses, call_ends}

-- a mesh over the room that came from S by splits of single leaves, all in Z
pub record Overrun (P : List Point) (i t : ℕ) (Z : Element → Type 0) (room : Size) (S : Skeleton) : Type 0 where
  pub mesh : Skeleton
  pub went : Went P i t Z S mesh
  pub over : Over room mesh

module _ (P : List Point) (i t : ℕ) (Z : Element → Type 0) (room : Size) (small : room.vertices ≤ most_vertices) where
  later : {S T : Skeleton} → Went P i t Z S T → Overrun P i t Z room T → Overrun P i t Z room S
  later a w = record { mesh = w.mesh; went = went_on P i t Z a w.went; over = w.over }

  -- one split more than room for S leaves the numbers small
  few : (S : Skeleton) (s : ℕ) → Within room S → length (split_one S s).records < 4294967295
  few S s f = omega (arith, f.vertices, small, (one_records S s).most)

  loop_over : {S : Skeleton} → StuckLoop room S → Growing P i t S → Within room S → Closed (forest_of (meshed P S) t) Z → Inside (meshed P S) t Z → Overrun P i t Z room S
  loop_over {S} (loop-full {q = q} k v) y f c d = record { mesh = split_one S q; went = went_lowest P i t Z q y (few S q f) c d k; over = v }
  loop_over {S} (loop-onward {q = q} k v p) y f c d = let u = went_lowest P i t Z q y (few S q f) c d k in later u (loop_over p u.growing v (rw u.grows.forest c) u.inside)

  pub stuck_over : {S : Skeleton} {rs : List ℕ} → Stuck room S rs → Growing P i t S → Within room S → AllMarkable S rs → Closed (forest_of (meshed P S) t) Z → Inside (meshed P S) t Z → ((r : ℕ) → Memᴰ r rs → Z (element_of (meshed P S) t r)) → Overrun P i t Z room S
  stuck_over (loop p) y f k c d z = loop_over p y f c d
  stuck_over (passed n p) y f k c d z = stuck_over p y f (λ q j. k q (Memᴰ.tail j)) c d (λ q j. z q (Memᴰ.tail j))
  stuck_over {S} (full {r = r} l v) y f k c d z = record { mesh = split_one S r; went = went_one P i t Z r y (few S r f) d (markable_open l (k r (Memᴰ.head refl))) (z r (Memᴰ.head refl)); over = v }
  stuck_over {S} (split {r = r} l v p) y f k c d z =
      let u = went_one P i t Z r y (few S r f) d (markable_open l (k r (Memᴰ.head refl))) (z r (Memᴰ.head refl)) in
      later u (stuck_over p u.growing v (λ q j. markable_later u.grows (k q (Memᴰ.tail j))) (rw u.grows.forest c) u.inside (λ q j. rw (u.grows.element q (k q (Memᴰ.tail j)).there) (z q (Memᴰ.tail j))))

-- ---- number 2

-- a call that came to its end is within a room exactly when it needs no more than that (02, L10; also of the room that a share leaves, L11)
module _ (P : List Point) (i t : ℕ) {S S' : Skeleton} {rs : List ℕ} (p : Completed S rs S') (y : Ready P i t S) (less : length S'.records < 4294967295) (k : AllMarkable S rs) (room : Size) where
  pub completed_fits : Within room S' → Outgrows room (meshed P S) i t rs → ⊥
  unfolding Outgrows
  completed_fits w = let x = completed_finished P i t p y less k in split_fits x.ready.grown x.grows.forest (λ e. (x.exactly e).1) w

  pub completed_over : Over room S' → Outgrows room (meshed P S) i t rs
  unfolding Outgrows
  completed_over v = let x = completed_finished P i t p y less k in split_outgrows x.ready.grown x.grows.forest (λ e. (x.exactly e).0) v

module _ (P : List Point) (i t : ℕ) {S : Skeleton} {rs : List ℕ} {room : Size} (y : Ready P i t S) (f : Within room S) (small : room.vertices ≤ most_vertices) (k : AllMarkable S rs) where
  -- no room for a split: more is needed than there is (02, L10)
  pub stuck_outgrows : Stuck room S rs → Outgrows room (meshed P S) i t rs
  unfolding Outgrows
  stuck_outgrows p =
      let w = stuck_over P i t (Needed (meshed P S) t rs) room small p (growing y) f k forced_closed (needed_split (meshed P S) t rs) (needed_mark (meshed P S) t rs) in
      split_outgrows w.went.growing.grown w.went.grows.forest w.went.inside w.over

  -- and only then (02, L10: it refuses in the same cases)
  pub outgrows_stuck : Outgrows room (meshed P S) i t rs → Stuck room S rs
  outgrows_stuck o = go (call_ends room S rs f)
    where
      go : CallEnds room S rs → Stuck room S rs
      go (accepts p v) = absurd (completed_fits P i t p y (omega (arith, v.vertices, small)) k room v o)
      go (refuses p) = p

  -- else the call is accepted
  pub fits_accepted : (Outgrows room (meshed P S) i t rs → ⊥) → (B : Skeleton) × Completed S rs B × Within room B
  fits_accepted n = go (call_ends room S rs f)
    where
      go : CallEnds room S rs → (B : Skeleton) × Completed S rs B × Within room B
      go (accepts {S' = B} q v) = (B, q, v)
      go (refuses q) = absurd (n (stuck_outgrows q))
