-- The second engine splits exactly what the call needs (02, L10; demand 3), and meshes with the same split elements have the same numbers of rows and vertices.
use mathlib.Core.Path.{◌≡◌, sym}
use mathlib.Core.List.{List, Memᴰ}
use mathlib.Core.Logic.{◌↔◌}
use Prim.Native.Nat.{ℕ, ◌<◌}
use native.Mathlib.Omega.{arith}
use lib.ListN.{length}
use Rattle.split.specs.declared.point.Point.{Point}
use Rattle.forest.specs.Element.{Element}
use Rattle.forest.proofs.Forced.{forced_closed}
use Rattle.sound.specs.Forest.{forest_of, SplitOf}
use Rattle.run.specs.Skeleton.{Skeleton, row_in, meshed}
use Rattle.run.specs.Ready.{Ready}
use Rattle.run.specs.Demand.{Needed}
use Rattle.run.proofs.laws.Grows.{Grows, grows_on}
use Rattle.run.proofs.laws.Needs.{AllMarkable, needed_split, needed_mark, needed_exactly}
use Rattle.run.proofs.laws.Sizes.{fewer_rows, fewer_vertices}
use Rattle.run.proofs.laws.Single.{growing}
use Rattle.completion.specs.Completion.{split_marks, Completed}
use Rattle.completion.proofs.laws.Steps.{MarksSplit, marks_lead, Looped, loop_lead, loop_records}

-- what a call that is accepted leads to
pub record Finished (P : List Point) (i t : ℕ) (S : Skeleton) (rs : List ℕ) (S' : Skeleton) : Type 0 where
  pub ready : Ready P i t S'
  pub grows : Grows (meshed P S) (meshed P S') i t
  -- exactly what is needed is split (02, L10; demand 3)
  pub exactly : (e : Element) → SplitOf (meshed P S') t e ↔ Needed (meshed P S) t rs e

module _ (P : List Point) (i t : ℕ) {S S' : Skeleton} {rs : List ℕ} (p : Completed S rs S') (y : Ready P i t S) (few : length S'.records < 4294967295) (k : AllMarkable S rs) where
  abbrev Z : Element → Type 0
  Z = Needed (meshed P S) t rs

  after_marks : MarksSplit P i t (Needed (meshed P S) t rs) S rs (split_marks S rs)
  after_marks = marks_lead P i t Z rs (growing y) (omega (arith, few, loop_records p.loop)) k (needed_split (meshed P S) t rs) (needed_mark (meshed P S) t rs)

  after_loop : Looped P i t (Needed (meshed P S) t rs) (split_marks S rs) S'
  after_loop = let w = after_marks.went in loop_lead P i t Z p.loop w.growing few (rw w.grows.forest forced_closed) w.inside

  -- a marked row stays split
  still_split : (r : ℕ) → Memᴰ r rs → (row_in S'.rows r).child ≡ 0 → ⊥
  still_split r j =
      let a = after_marks in
      let same = after_loop.went.grows.split r (omega (arith, (k r j).there, a.went.grows.more_rows)) (a.split r j) in
      rw same (a.split r j)

  pub completed_finished : Finished P i t S rs S'
  completed_finished =
      let w = after_loop in
      let g = grows_on after_marks.went.grows w.went.grows in
      record { ready = w.ready; grows = g; exactly = needed_exactly w.ready.grown w.ready.conforming g (λ r j. (k r j).there) still_split w.went.inside }

-- ---- counts

-- the two meshes have the same split elements, as many rows and as many vertices
pub record Alike (P : List Point) (t : ℕ) (A B : Skeleton) : Type 0 where
  pub elements : (e : Element) → SplitOf (meshed P A) t e ↔ SplitOf (meshed P B) t e
  pub rows : length A.rows ≡ length B.rows
  pub vertices : length A.records ≡ length B.records

-- equal splits, equal counts
pub same_counts : {P : List Point} {i t : ℕ} {A B : Skeleton} → Ready P i t A → Ready P i t B → forest_of (meshed P A) t ≡ forest_of (meshed P B) t → ((e : Element) → SplitOf (meshed P A) t e ↔ SplitOf (meshed P B) t e) → Alike P t A B
same_counts a b f s = record {
  elements = s;
  rows = omega (arith, fewer_rows a.grown b.grown f (λ e. (s e).0), fewer_rows b.grown a.grown (sym f) (λ e. (s e).1));
  vertices = omega (arith, fewer_vertices a.grown b.grown f (λ e. (s e).0), fewer_vertices b.grown a.grown (sym f) (λ e. (s e).1));
}
