use Rattle.std.proofs.Common.{◌≡◌}
use lib.ListN.{length}
use Rattle.text.proofs.laws.Printing.{Leaves}
use Rattle.text.proofs.print.print_leaves.Given as goal

abbrev pub invariant-loop-k : goal.invariant-loop-k
invariant-loop-k l = record {
  same : l.page.out.ghost_name ≡ l.initial.page.out.ghost_name;
  leaves : Leaves l.rows l.list l.levels (length l.yielded) l.initial.page.out.now l.initial.page.at l.page.out.now l.page.at;
}
