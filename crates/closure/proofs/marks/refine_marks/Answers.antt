use Rattle.std.proofs.lemmas.Result.{err_from_is_err_and}
use Rattle.closure.proofs.laws.Marking.{marking}
use Rattle.closure.proofs.marks.refine_marks.Goals as goal

pub loop-mark-init : goal.loop-mark-init
loop-mark-init c = search marking

pub returns-in_err-d : goal.returns-in_err-d
returns-in_err-d c = let p = err_from_is_err_and c.from_residual.result c.from_residual.ensures.1 in rw (p.1, p.2) (search (marking, c.in_err-d.was))

pub loop-mark-preserved : goal.loop-mark-preserved
loop-mark-preserved c = search (marking, c.in_ok-d.was)

pub returns : goal.returns
returns c = search marking
