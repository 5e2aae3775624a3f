use Rattle.closure.proofs.laws.Tests.{has_any}
use Rattle.closure.proofs.gather.has.Goals as goal

pub returns : goal.returns
returns c = has_any c.args.r c.args.v
