use Rattle.std.proofs.lemmas.Result.{err_from_is_err_and}
use Rattle.intake.specs.Verdict.{plain}
use Rattle.intake.proofs.laws.Verdicts.{stands, goes_on}
use Rattle.intake.proofs.judge_numbers.Goals as goal

pub returns-in_err-refused_at : goal.returns-in_err-refused_at
unfolding plain
returns-in_err-refused_at c =
    let p = err_from_is_err_and c.from_residual.result c.from_residual.ensures.1 in
    rw (p.1, p.2) (stands _ _ c.first_unusable-unusable.ensures c.refused_at.ensures c.in_err-refused_at.was)

pub returns-in_err-refused_at-2 : goal.returns-in_err-refused_at-2
unfolding plain
returns-in_err-refused_at-2 c =
    let p = err_from_is_err_and c.from_residual-in_err-refused_at-2.result c.from_residual-in_err-refused_at-2.ensures.1 in
    rw (p.1, p.2) (goes_on _ _ c.first_unusable-unusable.ensures c.refused_at.ensures c.in_ok-refused_at.was (stands _ _ c.first_missing-missing.ensures c.refused_at-2.ensures c.in_err-refused_at-2.was))

pub returns : goal.returns
unfolding plain
returns c = goes_on _ _ c.first_unusable-unusable.ensures c.refused_at.ensures c.in_ok-refused_at.was (goes_on _ _ c.first_missing-missing.ensures c.refused_at-2.ensures c.in_ok-refused_at-2.was (rw (c.refused_at-3.ensures, c.first_double-double.ensures)))
