-- `opening::agree::compare`: where the tests pass, the table has the colours of Algorithm 2.
use mathlib.Core.Path.{◌∙◌}
use Rattle.tables.specs.Layout.{most_vertices}
use Rattle.opening.proofs.laws.Indexing.{zeros_clear}
use Rattle.opening.proofs.laws.Painted.{most_largest}
use Rattle.opening.proofs.laws.Agree.{no_err, agreed_refused, agreed_records, agreed_rows}
use Rattle.opening.proofs.agree.compare.Goals as goal

pub judge_given-requires-clause-clear : goal.judge_given-requires-clause-clear
judge_given-requires-clause-clear c = zeros_clear most_vertices

pub returns-then-is_err : goal.returns-then-is_err
returns-then-is_err c = agreed_refused _ _ _ _ c.judge_given.ensures c.is_err.ensures.negation c.if-is_err.true

pub returns-else-records_agree : goal.returns-else-records_agree
returns-else-records_agree c = c.if-records_agree.false ∙ agreed_records _ _ _ _ c.judge_given.ensures (no_err c.is_err.ensures.negation c.if-is_err.false) c.records_agree.ensures c.if-records_agree.false

pub invariant_of-mesh : goal.invariant_of-mesh
invariant_of-mesh c = record { plain = c.judge_given.ensures.plain (no_err c.is_err.ensures.negation c.if-is_err.false) }

pub returns-then-records_agree : goal.returns-then-records_agree
returns-then-records_agree c =
    let passed = no_err c.is_err.ensures.negation c.if-is_err.false in
    agreed_rows _ _ _ _ c.judge_given.ensures passed c.records_agree.ensures c.if-records_agree.true (c.largest_colour.ensures ∙ most_largest (c.judge_given.ensures.painted passed)) c.rows_agree.ensures
