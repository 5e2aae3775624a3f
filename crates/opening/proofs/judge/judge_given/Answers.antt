use Rattle.opening.proofs.laws.Judging.{passing_refused, plain_given, passing_judged}
use Rattle.std.proofs.lemmas.Result.{err_from_is_err_and}
use Rattle.opening.proofs.judge.judge_given.Goals as goal

pub returns-in_err-judge_numbers : goal.returns-in_err-judge_numbers
returns-in_err-judge_numbers c =
    let p = err_from_is_err_and c.from_residual.result c.from_residual.ensures.1 in
    rw (p.1, p.2) (passing_refused _ _ c.judge_numbers.ensures c.in_err-judge_numbers.was c.requires.clear)

pub invariant_of-mesh : goal.invariant_of-mesh
invariant_of-mesh c = record { plain = plain_given _ _ c.args.input.now.moderate c.judge_numbers.ensures c.in_ok-judge_numbers.was }

pub returns : goal.returns
returns c = passing_judged _ _ c.args.input.now.moderate c.judge_numbers.ensures c.in_ok-judge_numbers.was c.judge_late.ensures
