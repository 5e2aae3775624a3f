use Rattle.std.proofs.Common.{◌≡◌}
use Rattle.text.proofs.laws.Putting.{Listing}
use Rattle.text.proofs.put.Page.put_numbers.Given as goal

abbrev pub invariant-loop-n : goal.invariant-loop-n
invariant-loop-n l = record {
  same : l.self.out.ghost_name ≡ l.initial.self.out.ghost_name;
  listing : Listing l.numbers l.n-index l.initial.self.out.now l.initial.self.at l.self.out.now l.self.at;
}
