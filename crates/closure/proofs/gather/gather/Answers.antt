use Rattle.closure.proofs.laws.Gather.{walking}
use Rattle.closure.proofs.gather.gather.Goals as goal

pub loop-at-init : goal.loop-at-init
loop-at-init c = search walking

pub loop-at-smaller : goal.loop-at-smaller
loop-at-smaller c = search walking

pub loop-at-preserved : goal.loop-at-preserved
loop-at-preserved c = search walking

pub returns : goal.returns
returns c = search walking
