-- `search::first`: for each p that `test` computes, no place before `k` passes. Assumes nothing.
use Rattle.std.proofs.Common.{sym, ◌∙◌}
use native.Mathlib.Nat.{le_antisymm}
use Rattle.intake.proofs.laws.Search.{first_start, first_passed, first_stopped}
use Rattle.intake.proofs.search.first.Goals as goal

pub loop-k-init : goal.loop-k-init
loop-k-init g c = λ p h. first_start p

pub loop-k-preserved : goal.loop-k-preserved
loop-k-preserved g c = λ p h. first_passed p _ (c.loop-k.invariant p h) (sym (h _ _ c.loop-k-test.true c.test.ensures) ∙ c.if-test.false)

pub returns-then-test : goal.returns-then-test
returns-then-test g c = λ p h. sym (first_stopped p _ _ (c.loop-k.invariant p h) (sym (h _ _ c.loop-k-test.true c.test.ensures) ∙ c.if-test.true) c.loop-k-test.true)

pub returns : goal.returns
returns g c = λ p h. rw (le_antisymm c.loop-k-test.false c.loop-k.auto.k-end) (sym (c.loop-k.invariant p h))
