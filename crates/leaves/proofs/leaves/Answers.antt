use borrow.Author.Rules.{rules}
use Rattle.leaves.proofs.laws.Promise.{wholly}
use Rattle.leaves.proofs.leaves.Goals as goal

pub list_sound-requires : goal.list_sound-requires
list_sound-requires c = search (wholly, rules)

pub returns : goal.returns
returns c = search (wholly, rules)
