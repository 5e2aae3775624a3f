use Rattle.soundness.proofs.laws.Steps.{judging, roots_enough}
use borrow.Author.Rules.{rules}
use Rattle.soundness.proofs.steps.judge.Goals as goal

pub afresh-requires-clause-roots_in_bounds : goal.afresh-requires-clause-roots_in_bounds
afresh-requires-clause-roots_in_bounds c = search (roots_enough, rules)

pub returns-then-not-afresh : goal.returns-then-not-afresh
returns-then-not-afresh c = search (judging, rules)

pub returns-then-c-i : goal.returns-then-c-i
returns-then-c-i c = search (judging, rules)

pub pairs_fit-requires-clause-run : goal.pairs_fit-requires-clause-run
pairs_fit-requires-clause-run c = search (judging, rules)

pub returns-then-midpoints_follow : goal.returns-then-midpoints_follow
returns-then-midpoints_follow c = search (judging, rules)

pub returns-else-midpoints_follow : goal.returns-else-midpoints_follow
returns-else-midpoints_follow c = search (judging, rules)
