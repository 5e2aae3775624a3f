-- What `split_patch` uses of the laws of `Patch`.
use borrow.Author.Rules.{rules}
use Rattle.closure.proofs.laws.Patch.{turn_start, turn_ready, turn_next, turn_end}

pub ruleset turning = (turn_start, turn_ready, turn_next, turn_end, rules)
