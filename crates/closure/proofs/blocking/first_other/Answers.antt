use Rattle.closure.proofs.laws.Blocking.{first_listed}
use Rattle.closure.proofs.blocking.first_other.Goals as goal

pub returns : goal.returns
returns c = first_listed c.args.rows.now c.args.scratch.now c.args.n c.args.k c.args.e c.requires c.first_in.ensures
