use Rattle.std.proofs.Common.{◌≡◌}
use Rattle.text.proofs.laws.Printing.{Midpoints}
use Rattle.text.proofs.print.print_midpoints.Given as goal

abbrev pub invariant-loop-v : goal.invariant-loop-v
invariant-loop-v l = record {
  same : l.page.out.ghost_name ≡ l.initial.page.out.ghost_name;
  midpoints : Midpoints l.points l.records l.from l.to l.v l.initial.page.out.now l.initial.page.at l.page.out.now l.page.at;
}
