-- It ends (02, L10): each split adds two rows, so within any room the marks and the loop come to their end, or to a split that has no room.
use Rattle.std.proofs.Common.{None, Option, Some}
use mathlib.Core.Path.{◌≡◌, refl}
use mathlib.Core.List.{List, [], ◌∷◌}
use mathlib.Core.Logic.{◌⊎◌, inl, inr}
use Prim.Native.Nat.{ℕ, zero, suc, ◌+◌, ◌<◌}
use native.Mathlib.Decide.{ℕ_discrete}
use native.Mathlib.Omega.{arith}
use lib.ListN.{length}
use Rattle.split.proofs.laws.Places.{le_or_lt}
use Rattle.tables.specs.declared.layout.Size.{Size}
use Rattle.run.specs.Skeleton.{Skeleton, row_in}
use Rattle.run.specs.Run.{Within, Over, vertices as over-vertices, rows as over-rows}
use Rattle.completion.specs.Completion.{lowest, split_one, split_marks, Completes, complete, onward, Completed, StuckLoop, Stuck}
use Rattle.completion.specs.Completion.StuckLoop.{full as loop-full, onward as loop-onward}
use Rattle.completion.specs.Completion.Stuck.{loop, passed, full, split}
use Rattle.completion.proofs.laws.Marks.{marks_leaf, marks_passed}
use Rattle.completion.proofs.laws.One.{one_rows}

-- a mesh is within the room or over it
pub within_or_over : (room : Size) (S : Skeleton) → Within room S ⊎ Over room S
within_or_over room S = elim (le_or_lt (length S.records) room.vertices) [
  | inr l ↦ inr (over-vertices l)
  | inl h ↦ elim (le_or_lt (length S.rows) room.rows) [ inr l ↦ inr (over-rows l) | inl k ↦ inl (record { vertices = h; rows = k }) ]
]

-- ---- the loop

pub data LoopEnds (room : Size) (S : Skeleton) : Type 0 where
  completes : {S' : Skeleton} → Completes S S' → Within room S' → LoopEnds room S
  jams : StuckLoop room S → LoopEnds room S

loop_next : {room : Size} {S : Skeleton} {q : ℕ} → lowest S ≡ Some q → Within room (split_one S q) → LoopEnds room (split_one S q) → LoopEnds room S
loop_next k w (completes p v) = completes (onward k p) v
loop_next k w (jams p) = jams (loop-onward k w p)

-- n bounds the splits that there is still room for
loop_within : (room : Size) (n : ℕ) (S : Skeleton) → room.rows < length S.rows + n → Within room S → LoopEnds room S
loop_within room zero S h w = absurd (omega (arith, w.rows))
loop_within room (suc n) S h w = go (lowest S) refl (loop_within room n)
  where
    go : (f : Option ℕ) → lowest S ≡ f → ((T : Skeleton) → room.rows < length T.rows + n → Within room T → LoopEnds room T) → LoopEnds room S
    go None k deeper = completes (complete k refl) w
    go (Some q) k deeper = elim (within_or_over room (split_one S q)) [
      | inl v ↦ loop_next k v (deeper (split_one S q) (omega (arith, one_rows S q)) v)
      | inr v ↦ jams (loop-full k v)
    ]

pub loop_ends : (room : Size) (S : Skeleton) → Within room S → LoopEnds room S
loop_ends room S w = loop_within room (suc room.rows) S (omega arith) w

-- ---- the call

pub data CallEnds (room : Size) (S : Skeleton) (rs : List ℕ) : Type 0 where
  accepts : {S' : Skeleton} → Completed S rs S' → Within room S' → CallEnds room S rs
  refuses : Stuck room S rs → CallEnds room S rs

call_done : {room : Size} {S : Skeleton} → LoopEnds room S → CallEnds room S []
unfolding split_marks
call_done (completes p v) = accepts (record { loop = p }) v
call_done (jams p) = refuses (loop p)

call_passed : {room : Size} {S : Skeleton} {r : ℕ} {rs : List ℕ} → ((row_in S.rows r).child ≡ 0 → ⊥) → CallEnds room S rs → CallEnds room S (r ∷ rs)
call_passed n (accepts {S' = T} p v) = accepts {S' = T} (record { loop = rw marks_passed p.loop }) v
call_passed n (refuses p) = refuses (passed n p)

call_split : {room : Size} {S : Skeleton} {r : ℕ} {rs : List ℕ} → (row_in S.rows r).child ≡ 0 → Within room (split_one S r) → CallEnds room (split_one S r) rs → CallEnds room S (r ∷ rs)
call_split l w (accepts {S' = T} p v) = accepts {S' = T} (record { loop = rw marks_leaf p.loop }) v
call_split l w (refuses p) = refuses (split l w p)

-- every call within the room ends, with a result or without room (02, L10: it must end)
pub call_ends : (room : Size) (S : Skeleton) (rs : List ℕ) → Within room S → CallEnds room S rs
call_ends room S [] w = call_done (loop_ends room S w)
call_ends room S (r ∷ rs) w = elim (ℕ_discrete (row_in S.rows r).child 0) [
  | no n ↦ call_passed n (call_ends room S rs w)
  | yes l ↦ elim (within_or_over room (split_one S r)) [
    | inl v ↦ call_split l v (call_ends room (split_one S r) rs v)
    | inr v ↦ refuses (full l v)
  ]
]
