use Rattle.closure.proofs.laws.Index.{halving}
use Rattle.closure.proofs.leaf.split_leaf.Goals as goal

pub bear-requires-clause-n_in_bounds : goal.bear-requires-clause-n_in_bounds
bear-requires-clause-n_in_bounds c = search halving

pub returns : goal.returns
returns c = search halving
