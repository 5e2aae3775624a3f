use Rattle.std.proofs.Common.{rules}
use Rattle.std.proofs.lemmas.List.{length-take-le}
use Rattle.growth.proofs.picked.list.Goals as goal

-- the part that is given is as long as the count says
pub returns-clause-rows : goal.returns-clause-rows
returns-clause-rows c = search (length-take-le, rules)
