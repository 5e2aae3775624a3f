use Rattle.closure.proofs.laws.Cutting.{cutting}
use Rattle.closure.proofs.cutting.cut_patch.Goals as goal

pub returns-then-not-fits : goal.returns-then-not-fits
returns-then-not-fits c = search cutting

pub split_patch-requires : goal.split_patch-requires
split_patch-requires c = search cutting

pub returns : goal.returns
returns c = search cutting
