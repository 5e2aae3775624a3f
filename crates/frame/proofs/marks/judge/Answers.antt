use Rattle.std.proofs.lemmas.Result.{err_from_is_err_and}
use Rattle.frame.proofs.laws.Marks.{judging}
use Rattle.frame.proofs.marks.judge.Goals as goal

pub returns-in_err-refused_at : goal.returns-in_err-refused_at
returns-in_err-refused_at c = let p = err_from_is_err_and c.from_residual.result c.from_residual.ensures.1 in rw (p.1, p.2) (search (judging, c.in_err-refused_at.was))

pub returns-then-any_deep : goal.returns-then-any_deep
returns-then-any_deep c = search (judging, c.in_ok-refused_at.was)

-- passed: every mark names a row,
-- and none of them is a leaf of depth 60
pub returns : goal.returns
returns c = search (judging, c.in_ok-refused_at.was)
