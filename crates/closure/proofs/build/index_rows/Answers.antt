use Rattle.closure.proofs.laws.Build.{building}
use Rattle.closure.proofs.build.index_rows.Goals as goal

pub loop-k-init : goal.loop-k-init
loop-k-init c = search building

pub index_standing-requires-clause-k_in_bounds : goal.index_standing-requires-clause-k_in_bounds
index_standing-requires-clause-k_in_bounds c = search building

pub loop-k-preserved : goal.loop-k-preserved
loop-k-preserved c = search building
