use mathlib.Core.Path.{refl, sym, ◌∙◌}
use Rattle.std.proofs.lemmas.Result.{err_from_is_err_and}
use Rattle.tables.specs.Layout.{most_vertices}
use Rattle.opening.proofs.laws.Indexing.{zeros_clear}
use Rattle.opening.proofs.laws.Opened.{opens_refused, opens_passed}
use Rattle.opening.proofs.open.Goals as goal

pub judge-requires : goal.judge-requires
judge-requires c = zeros_clear most_vertices

pub returns-in_err-judge : goal.returns-in_err-judge
returns-in_err-judge c =
    let p = err_from_is_err_and c.from_residual.result c.from_residual.ensures.1 in
    rw (p.1, p.2) (opens_refused (sym c.judge.ensures.answer ∙ c.in_err-judge.was) refl refl refl)

pub store_all-requires : goal.store_all-requires
store_all-requires c = c.judge.ensures.storable c.in_ok-judge.was

pub started-requires : goal.started-requires
started-requires c = tt

pub returns : goal.returns
returns c = opens_passed (sym c.judge.ensures.answer ∙ c.in_ok-judge.was) c.started.ensures c.store_all.ensures
