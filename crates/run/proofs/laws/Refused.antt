-- A call that comes to a patch without room needs more than there is (demand 3).
use Rattle.std.proofs.Common.{None, Some}
use mathlib.Core.Path.{◌≡◌, refl}
use mathlib.Core.List.{List, [], ◌∷◌, Memᴰ}
use Prim.Native.Nat.{ℕ, ◌+◌, ◌≤◌}
use native.Mathlib.Omega.{arith}
use lib.ListN.{length, length-append}
use Rattle.tables.specs.Layout.{most_vertices}
use Rattle.split.specs.declared.point.Point.{Point}
use Rattle.split.specs.Row.{edge_of}
use Rattle.tables.specs.declared.layout.Size.{Size}
use Rattle.forest.specs.Element.{Element}
use Rattle.forest.specs.Closed.{Closed}
use Rattle.forest.proofs.Forced.{forced_closed}
use Rattle.sound.specs.Forest.{forest_of, element_of}
use Rattle.run.specs.Ready.{Ready, Open}
use Rattle.run.specs.Skeleton.{Skeleton, row_in, meshed}
use Rattle.run.specs.Run.{blocking, record_for, split_patch, Run, clear, Within, Over, Stuck, full, below, after, StuckAll, here, passed, refined}
use Rattle.run.specs.Demand.{Needed, Outgrows}
use Rattle.run.proofs.laws.Grows.{Grows, grows_on}
use Rattle.run.proofs.laws.Runs.{run_refined, block_open, block_forced, still_open}
use Rattle.run.proofs.laws.Needs.{Inside, needed_split, needed_mark, AllMarkable, markable_open, markable_later}
use Rattle.run.proofs.laws.Sizes.{split_outgrows}

patch_length : (S : Skeleton) (r : ℕ) → length (split_patch S r).records ≡ length S.records + 1
unfolding split_patch
patch_length S r = length-append S.records (record_for (edge_of (row_in S.rows r)) ∷ [])

-- a mesh over the room, grown from S, all of whose splits lie in Z
pub record Overrun (P : List Point) (i t : ℕ) (Z : Element → Type 0) (room : Size) (S : Skeleton) : Type 0 where
  pub mesh : Skeleton
  pub ready : Ready P i t mesh
  pub grows : Grows (meshed P S) (meshed P mesh) i t
  pub inside : Inside (meshed P mesh) t Z
  pub over : Over room mesh

module _ (P : List Point) (i t : ℕ) (Z : Element → Type 0) (room : Size) (small : room.vertices ≤ most_vertices) where
  later : {S T : Skeleton} → Grows (meshed P S) (meshed P T) i t → Overrun P i t Z room T → Overrun P i t Z room S
  later g w = record { mesh = w.mesh; ready = w.ready; grows = grows_on g w.grows; inside = w.inside; over = w.over }

  -- ---- one leaf

  -- what refining leaf r of S leads to
  record Leads (S : Skeleton) (r : ℕ) : Type 0 where
    from : Ready P i t S → Within room S → Open S r → Closed (forest_of (meshed P S) t) Z → Inside (meshed P S) t Z → Z (element_of (meshed P S) t r) → Overrun P i t Z room S

  full_leads : {S : Skeleton} {r : ℕ} → blocking S.rows r ≡ None → Over room (split_patch S r) → Leads S r
  full_leads {S} {r} k v = record {
    from = λ y f o c d z.
        let w = run_refined P i t Z (clear k refl) y (omega (arith, f.vertices, small, patch_length S r)) o c d z in
        record { mesh = split_patch S r; ready = w.ready; grows = w.grows; inside = w.inside; over = v };
  }

  below_leads : {S : Skeleton} {r b : ℕ} → blocking S.rows r ≡ Some b → Leads S b → Leads S r
  below_leads {S} {r} {b} k g = record { from = λ y f o c d z. g.from y f (block_open y r b o k) c d (block_forced Z y c d r b o k z) }

  after_leads : {S T : Skeleton} {r b : ℕ} → blocking S.rows r ≡ Some b → Run S b T → Within room T → Leads T r → Leads S r
  after_leads {S} {T} {r} {b} k p v g = record {
    from = λ y f o c d z.
        let u = run_refined P i t Z p y (omega (arith, v.vertices, small)) (block_open y r b o k) c d (block_forced Z y c d r b o k z) in
        later u.grows (g.from u.ready v (still_open Z y r b o k u) (rw u.grows.forest c) u.inside (rw (u.grows.element r o.there) z));
  }

  leads : {S : Skeleton} {r : ℕ} → Stuck room S r → Leads S r
  leads (full k v) = full_leads k v
  leads (below k p) = below_leads k (leads p)
  leads (after k p v q) = after_leads k p v (leads q)

  pub stuck_over : {S : Skeleton} {r : ℕ} → Stuck room S r → Ready P i t S → Within room S → Open S r → Closed (forest_of (meshed P S) t) Z → Inside (meshed P S) t Z → Z (element_of (meshed P S) t r) → Overrun P i t Z room S
  stuck_over p = (leads p).from

  -- ---- all marks

  record LeadsAll (S : Skeleton) (rs : List ℕ) : Type 0 where
    from : Ready P i t S → Within room S → AllMarkable S rs → Closed (forest_of (meshed P S) t) Z → Inside (meshed P S) t Z → ((r : ℕ) → Memᴰ r rs → Z (element_of (meshed P S) t r)) → Overrun P i t Z room S

  here_leads : {S : Skeleton} {r : ℕ} {rs : List ℕ} → (row_in S.rows r).child ≡ 0 → Stuck room S r → LeadsAll S (r ∷ rs)
  here_leads {S} {r} l p = record { from = λ y f k c d z. stuck_over p y f (markable_open l (k r (Memᴰ.head refl))) c d (z r (Memᴰ.head refl)) }

  passed_leads : {S : Skeleton} {r : ℕ} {rs : List ℕ} → LeadsAll S rs → LeadsAll S (r ∷ rs)
  passed_leads g = record { from = λ y f k c d z. g.from y f (λ q j. k q (Memᴰ.tail j)) c d (λ q j. z q (Memᴰ.tail j)) }

  refined_leads : {S T : Skeleton} {r : ℕ} {rs : List ℕ} → (row_in S.rows r).child ≡ 0 → Run S r T → Within room T → LeadsAll T rs → LeadsAll S (r ∷ rs)
  refined_leads {S} {T} {r} {rs} l p v g = record {
    from = λ y f k c d z.
        let u = run_refined P i t Z p y (omega (arith, v.vertices, small)) (markable_open l (k r (Memᴰ.head refl))) c d (z r (Memᴰ.head refl)) in
        later u.grows (g.from u.ready v (λ q j. markable_later u.grows (k q (Memᴰ.tail j))) (rw u.grows.forest c) u.inside (λ q j. rw (u.grows.element q (k q (Memᴰ.tail j)).there) (z q (Memᴰ.tail j))));
  }

  leads_all : {S : Skeleton} {rs : List ℕ} → StuckAll room S rs → LeadsAll S rs
  leads_all (here l p) = here_leads l p
  leads_all (passed n p) = passed_leads (leads_all p)
  leads_all (refined l p v q) = refined_leads l p v (leads_all q)

  pub stuck_all_over : {S : Skeleton} {rs : List ℕ} → StuckAll room S rs → Ready P i t S → Within room S → AllMarkable S rs → Closed (forest_of (meshed P S) t) Z → Inside (meshed P S) t Z → ((r : ℕ) → Memᴰ r rs → Z (element_of (meshed P S) t r)) → Overrun P i t Z room S
  stuck_all_over p = (leads_all p).from

pub no_room : (P : List Point) (i t : ℕ) {S : Skeleton} {rs : List ℕ} {room : Size} → StuckAll room S rs → Ready P i t S → Within room S → room.vertices ≤ most_vertices → AllMarkable S rs → Outgrows room (meshed P S) i t rs
unfolding Outgrows
no_room P i t {S} {rs} {room} p y f small k =
    let w = stuck_all_over P i t (Needed (meshed P S) t rs) room small p y f k forced_closed (needed_split (meshed P S) t rs) (needed_mark (meshed P S) t rs) in
    split_outgrows w.ready.grown w.grows.forest w.inside w.over
