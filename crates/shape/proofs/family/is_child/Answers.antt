use mathlib.Core.Path.{ap, ◌∙◌}
use Prim.Native.Nat.{ℕ, ◌+◌}
use Rattle.split.specs.Split.{left, right}
use Rattle.shape.proofs.laws.Family.{sided_here}
use Rattle.shape.proofs.family.is_child.Goals as goal

pub returns-then-r-first : goal.returns-then-r-first
returns-then-r-first c = sided_here left (c.if-r-first.true ∙ c.wide-first.ensures) c.first.ensures c.same_row.ensures

pub returns-then-r-first-2 : goal.returns-then-r-first-2
returns-then-r-first-2 c = sided_here right (c.if-r-first-2.true ∙ ap (λ (x : ℕ). x + 1) c.wide-first.ensures) c.second.ensures c.same_row-then-r-first-2.ensures
