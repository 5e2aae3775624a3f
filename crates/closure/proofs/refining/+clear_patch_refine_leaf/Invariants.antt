-- The two sides of the recursion count the same rank, and a patch counts one less than the leaf that it is cleared for. The loop keeps what is cleared so far.
use Prim.Native.Nat.{◌+◌, ◌-◌, ◌*◌}
use Rattle.run.specs.Ready.{rank_in}
use Rattle.closure.specs.State.{seen}
use Rattle.closure.specs.Refining.{Clearing}
use Rattle.closure.proofs.refining.+clear_patch_refine_leaf.Given as goal

abbrev pub decreases-clear_patch : goal.decreases-clear_patch
decreases-clear_patch l = 2 * rank_in (seen l.records.now l.rows.now l.c) l.q

abbrev pub decreases-refine_leaf : goal.decreases-refine_leaf
decreases-refine_leaf l = 2 * rank_in (seen l.records.now l.rows.now l.c) l.q + 1

abbrev pub invariant-clear_patch-loop-b : goal.invariant-clear_patch-loop-b
invariant-clear_patch-loop-b l = Clearing l.initial.records l.initial.rows l.initial.scratch l.initial.d l.room l.q l.records l.rows l.scratch l.d

abbrev pub decreases-clear_patch-loop-b : goal.decreases-clear_patch-loop-b
decreases-clear_patch-loop-b l = l.room.vertices - l.d.vertices
