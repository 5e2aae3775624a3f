use mathlib.Core.Path.{sym, ◌∙◌}
use mathlib.Core.Bool.{true≢false}
use Rattle.sound.proofs.laws.Deciding.{decides_same}
use Rattle.shape.proofs.laws.Family.{children_later}
use Rattle.shape.proofs.half.Goals as goal
use Rattle.shape.proofs.half.Goals.{then-no_initial_from, else-no_initial_from}

pub returns-then-children_fit : goal.returns-then-children_fit
returns-then-children_fit c = elim c.if-no_initial_from.branch [
  | then-no_initial_from w ↦
      let bred = w.children_fit.ensures.yes (sym w.value-is ∙ c.if-children_fit.true) in
      decides_same
      (λ q. record {
        midpoints = c.no_initial_from.ensures.yes w.if-no_initial_from.true;
        later = children_later _ _ c.args.tables.now.counts bred.children;
        bred = bred;
        parents = q;
      })
      (λ h. h.parents)
      c.parents_follow.ensures
  | else-no_initial_from w ↦ absurd (true≢false (sym c.if-children_fit.true ∙ w.value-is ∙ w.if-no_initial_from.false))
]
