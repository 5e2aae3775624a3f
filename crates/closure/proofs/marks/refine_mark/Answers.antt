use Rattle.closure.proofs.laws.Marking.{passing}
use Rattle.closure.proofs.marks.refine_mark.Goals as goal

pub returns-then-held-ne0 : goal.returns-then-held-ne0
returns-then-held-ne0 c = search passing

pub refine_leaf-requires : goal.refine_leaf-requires
refine_leaf-requires c = search passing

pub returns : goal.returns
returns c = search passing
