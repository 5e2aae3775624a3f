use Rattle.std.proofs.lemmas.Result.{err_from_is_err_and}
use Rattle.opening.proofs.laws.Judging.{judged_refused, judged_coloured}
use Rattle.opening.proofs.judge.judge_late.Goals as goal

pub returns-in_err-sift : goal.returns-in_err-sift
returns-in_err-sift c =
    let p = err_from_is_err_and c.from_residual.result c.from_residual.ensures.1 in
    rw (p.1, p.2) (judged_refused c.sift.ensures c.in_err-sift.was c.requires.clear)

pub colour_all-requires-clause-ready : goal.colour_all-requires-clause-ready
colour_all-requires-clause-ready c = c.sift.ensures.ready c.in_ok-sift.was

pub returns : goal.returns
returns c = judged_coloured c.sift.ensures c.in_ok-sift.was c.colour_all.ensures c.refused_at.ensures
