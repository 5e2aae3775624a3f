use Rattle.std.proofs.Common.{rules}
use Rattle.intake.specs.Verdict.{fitting}
use Rattle.intake.proofs.laws.Tests.{tests}
use Rattle.intake.proofs.judge_lengths.Goals as goal

pub returns-then-input_wrong : goal.returns-then-input_wrong
unfolding fitting
returns-then-input_wrong c = search (tests, rules)

pub returns-then-too_many : goal.returns-then-too_many
unfolding fitting
returns-then-too_many c = search (tests, rules)

pub returns : goal.returns
unfolding fitting
returns c = search (tests, rules)
