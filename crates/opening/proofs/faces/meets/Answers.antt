use borrow.Author.Rules.{rules}
use Rattle.opening.proofs.laws.Sorting.{read_low}
use Rattle.opening.proofs.laws.Faces.{meets_near, meets_far}
use Rattle.opening.proofs.faces.meets.Goals as goal

pub other-requires-clause-low : goal.other-requires-clause-low
other-requires-clause-low c = search (read_low, rules)

pub rarer-m-requires-clause-low : goal.rarer-m-requires-clause-low
rarer-m-requires-clause-low c = search (read_low, rules)

pub other-requires-2-clause-low : goal.other-requires-2-clause-low
other-requires-2-clause-low c = search (read_low, rules)

pub returns-then-near : goal.returns-then-near
returns-then-near c = search meets_near

pub returns : goal.returns
returns c = search meets_far
