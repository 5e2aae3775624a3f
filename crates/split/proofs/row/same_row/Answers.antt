use Rattle.std.proofs.Common.{rules}
use Rattle.split.proofs.laws.Same.{compared}
use Rattle.split.proofs.row.same_row.Goals as goal

pub returns : goal.returns
returns c = search (compared, rules)
