use Rattle.leaves.proofs.laws.Rounding.{level_ceil}
use Rattle.leaves.proofs.walk.level.Goals as goal

pub returns : goal.returns
returns c = rw c.div_ceil.ensures (level_ceil c.requires c.args.depth)
