use lib.Ieee.{mul}
use borrow.Author.Rules.{rules}
use Rattle.split.specs.Midpoint.{mean}
use Rattle.split.proofs.point.halfway.Goals as goal

pub returns : goal.returns
unfolding mul mean
returns c = search rules
