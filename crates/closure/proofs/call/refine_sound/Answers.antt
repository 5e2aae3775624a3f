use Rattle.std.proofs.lemmas.Result.{err_from_is_err_and}
use Rattle.closure.proofs.laws.Call.{calling}
use Rattle.closure.proofs.call.refine_sound.Goals as goal

pub returns-in_err-judge : goal.returns-in_err-judge
returns-in_err-judge c = let p = err_from_is_err_and c.from_residual.result c.from_residual.ensures.1 in rw (p.1, p.2) (search (calling, c.in_err-judge.was))

pub close-requires : goal.close-requires
close-requires c = search (calling, c.in_ok-judge.was)

pub returns : goal.returns
returns c = search (calling, c.in_ok-judge.was)
