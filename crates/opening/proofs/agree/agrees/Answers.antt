-- `opening::agree::agrees`: the memory is cleared before and after. Assumes nothing.
use mathlib.Core.Path.{refl}
use borrow.Author.Rules.{rules}
use Rattle.opening.proofs.laws.Agree.{memory_short, memory_moderate, memory_empty, memory_same, memory_left}
use Rattle.opening.proofs.agree.agrees.Goals as goal

pub returns-then-not-is_workable-clause-value : goal.returns-then-not-is_workable-clause-value
returns-then-not-is_workable-clause-value c = memory_short c.args.index.now c.clear.ensures _ _ c.is_workable.ensures _ c.if-not-is_workable.true

pub invariant_of-input : goal.invariant_of-input
invariant_of-input c = record { moderate = memory_moderate c.args.index.now c.clear.ensures _ _ c.is_workable.ensures c.if-not-is_workable.false }

pub compare-same-requires : goal.compare-same-requires
compare-same-requires c = memory_empty c.args.index.now c.clear.ensures _ _ c.is_workable.ensures _ refl c.if-not-is_workable.false

pub returns-clause-value : goal.returns-clause-value
returns-clause-value c = memory_same c.args.index.now c.clear.ensures _ _ c.is_workable.ensures c.if-not-is_workable.false c.compare-same.ensures

pub returns-clause-index_after : goal.returns-clause-index_after
returns-clause-index_after c = search (memory_left, rules)
