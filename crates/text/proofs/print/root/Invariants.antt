use Rattle.text.proofs.laws.Putting.{Climbing}
use Rattle.text.proofs.print.root.Given as goal

abbrev pub invariant-loop : goal.invariant-loop
invariant-loop l = Climbing l.rows l.k l.counter l.at
