use Rattle.fields.proofs.laws.Reading.{Spelling}
use Rattle.fields.proofs.digits.spells.Given as goal

abbrev pub invariant-loop-x : goal.invariant-loop-x
invariant-loop-x l = Spelling l.base l.text l.x-index l.n
