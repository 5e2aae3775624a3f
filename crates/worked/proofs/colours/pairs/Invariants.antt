use Rattle.std.proofs.Common.{◌≤◌}
use Rattle.worked.proofs.colours.pairs.Given as goal

abbrev pub invariant-loop-k : goal.invariant-loop-k
invariant-loop-k l = l.j ≤ l.k
