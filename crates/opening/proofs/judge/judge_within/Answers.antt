use native.Mathlib.Omega.{arith}
use Rattle.opening.proofs.laws.Indexing.{zeros_filled}
use Rattle.opening.proofs.judge.judge_within.Goals as goal

pub whole_as_slice-judge_given : goal.whole_as_slice-judge_given
whole_as_slice-judge_given g c = omega arith

pub judge_given-requires-clause-empty : goal.judge_given-requires-clause-empty
judge_given-requires-clause-empty g c = zeros_filled _ _ c.requires.room
