use mathlib.Core.Path.{sym, ◌∙◌}
use Rattle.opening.proofs.laws.Judging.{settled_lengths, moderate, settled_given}
use Rattle.std.proofs.lemmas.Result.{err_from_is_err_and}
use Rattle.opening.proofs.judge.judge.Goals as goal

pub returns-in_err-judge_lengths : goal.returns-in_err-judge_lengths
returns-in_err-judge_lengths c =
    let p = err_from_is_err_and c.from_residual.result c.from_residual.ensures.1 in
    rw (p.1, p.2) (settled_lengths _ _ _ _ _ (sym c.judge_lengths.ensures ∙ c.in_err-judge_lengths.was) c.requires)

pub invariant_of-input : goal.invariant_of-input
invariant_of-input c = record { moderate = moderate _ _ _ _ _ c.judge_lengths.ensures c.in_ok-judge_lengths.was }

pub returns : goal.returns
returns c = settled_given _ _ _ _ _ c.judge_lengths.ensures c.in_ok-judge_lengths.was c.judge_alone.ensures
