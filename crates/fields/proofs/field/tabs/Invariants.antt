use Rattle.std.specs.Prelude.{◌≡◌, eqb, count_by, take}
use Rattle.fields.proofs.field.tabs.Given as goal

abbrev pub invariant-loop-x : goal.invariant-loop-x
invariant-loop-x l = l.n ≡ count_by (λ x. eqb x 9) (take l.x-index l.line)
