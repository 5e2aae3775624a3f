use Rattle.fields.proofs.laws.Fields.{Seeking}
use Rattle.fields.proofs.field.stop.Given as goal

abbrev pub invariant-loop-i : goal.invariant-loop-i
invariant-loop-i l = Seeking l.separator l.text l.from l.i
