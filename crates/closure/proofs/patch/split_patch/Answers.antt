use Rattle.closure.proofs.laws.Turning.{turning}
use Rattle.closure.proofs.patch.split_patch.Goals as goal

pub split_leaf-requires : goal.split_leaf-requires
split_leaf-requires c = search turning

pub loop-j-preserved : goal.loop-j-preserved
loop-j-preserved c = search turning

pub returns : goal.returns
returns c = search turning
