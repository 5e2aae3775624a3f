use Rattle.std.proofs.Common.{◌≤◌, length}
use Rattle.growth.proofs.picked.list.Given as goal

-- there is room for what is listed, and it is no more than was looked at
abbrev pub invariant-loop-k : goal.invariant-loop-k
invariant-loop-k g l = (l.count ≤ length l.marks) × (l.count ≤ l.k)
