use mathlib.Core.Path.{refl, sym, ◌∙◌}
use mathlib.Core.Bool.{true≢false}
use native.Mathlib.Omega.{arith}
use borrow.Author.Rules.{rules}
use borrow.Author.Tests.{tests}
use Rattle.tables.specs.Layout.{no_float}
use Rattle.sound.proofs.laws.Deciding.{decides_false}
use Rattle.shape.proofs.laws.Fitted.{fitting_points, fitting_records, fitting_inside, unused_last}
use Rattle.shape.proofs.laws.Zero.{decides_each}
use Rattle.shape.proofs.unused.unused_zero.Goals as goal
use Rattle.shape.proofs.unused.unused_zero.Goals.{then-all_from, else-all_from}

pub overflow_mul-c : goal.overflow_mul-c
overflow_mul-c c = omega (arith, fitting_inside c.requires)

pub all_from-requires-clause-from_in_bounds : goal.all_from-requires-clause-from_in_bounds
all_from-requires-clause-from_in_bounds c = fitting_points c.requires

pub overflow_mul-c-then-all_from : goal.overflow_mul-c-then-all_from
overflow_mul-c-then-all_from c = omega (arith, fitting_inside c.requires)

pub all_from-requires-then-all_from-clause-from_in_bounds : goal.all_from-requires-then-all_from-clause-from_in_bounds
all_from-requires-then-all_from-clause-from_in_bounds c = fitting_records c.requires

pub overflow_mul-c-then-all_from-2 : goal.overflow_mul-c-then-all_from-2
overflow_mul-c-then-all_from-2 c = omega (arith, fitting_inside c.requires)

pub all_from-requires-then-all_from-2-clause-from_in_bounds : goal.all_from-requires-then-all_from-2-clause-from_in_bounds
all_from-requires-then-all_from-2-clause-from_in_bounds c = (fitting_inside c.requires).rows_fit

pub returns-then-all_from-2 : goal.returns-then-all_from-2
returns-then-all_from-2 c = elim c.if-all_from.branch [
  | then-all_from w ↦
      unused_last c.requires
      ((decides_each no_float c.args.points.now _ c.all_from.ensures (λ x h. h.yes refl) (λ x h. h.no refl)).yes w.if-all_from.true)
      ((decides_each 0 c.args.records.now _ w.all_from-then-all_from.ensures (λ x h. search (rules, tests)) (λ x h. search (rules, tests))).yes (sym w.value-is ∙ c.if-all_from-2.true))
      (decides_each 0 c.args.rows.now _ c.all_from-then-all_from-2.ensures (λ x h. search (rules, tests)) (λ x h. search (rules, tests)))
  | else-all_from w ↦ absurd (true≢false (sym c.if-all_from-2.true ∙ w.value-is ∙ w.if-all_from.false))
]

pub returns-else-all_from-2 : goal.returns-else-all_from-2
returns-else-all_from-2 c = rw c.if-all_from-2.false
    (elim c.if-all_from.branch [
      | then-all_from w ↦ decides_false (λ u. (decides_each 0 c.args.records.now _ w.all_from-then-all_from.ensures (λ x h. search (rules, tests)) (λ x h. search (rules, tests))).no (sym w.value-is ∙ c.if-all_from-2.false) u.records)
      | else-all_from w ↦ decides_false (λ u. (decides_each no_float c.args.points.now _ c.all_from.ensures (λ x h. h.yes refl) (λ x h. h.no refl)).no w.if-all_from.false u.points)
    ])
