-- `entry::put_each`: for each f that `entry` computes, the places before `k` are as its steps leave them. Assumes nothing.
use Rattle.std.proofs.Common.{ap, ◌∙◌, arith}
use Rattle.tables.proofs.laws.Steps.{over_none, over_next, over_done}
use Rattle.tables.proofs.entry.put_each.Goals as goal

pub loop-k-init : goal.loop-k-init
loop-k-init g c = (λ l. absurd (omega (arith, l)), λ f h. over_none _ _ _ _ (omega arith))

pub loop-k-preserved : goal.loop-k-preserved
loop-k-preserved g c = (
  λ l. omega (arith, c.loop-k-test.true),
  λ f h.
      c.write.ensures
      ∙ ap (g.E.Entry.put c.loop-k.table c.loop-k.k) (h _ _ _ c.loop-k-test.true c.entry.ensures ∙ ap (f c.loop-k.k) c.read.ensures)
      ∙ rw (c.loop-k.invariant.1 f h) (over_next _ _ _ _ c.loop-k.auto.k),
)

pub returns : goal.returns
returns g c = λ f h. c.loop-k.invariant.1 f h ∙ over_done _ _ _ _ _ c.loop-k.auto.k c.loop-k.invariant.0 c.loop-k-test.false
