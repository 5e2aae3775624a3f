use Rattle.closure.proofs.laws.Uses.{entering}
use Rattle.closure.proofs.index.enter.Goals as goal

pub returns-then-k-ge-LINKS : goal.returns-then-k-ge-LINKS
returns-then-k-ge-LINKS c = search entering

pub returns : goal.returns
returns c = search entering
