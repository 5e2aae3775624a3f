use mathlib.Core.Path.{ap, ◌∙◌}
use Rattle.split.specs.declared.row.Ends.{Ends}
use Rattle.split.specs.Row.{edge_of}
use Rattle.run.specs.Run.{same_ends}
use Rattle.closure.proofs.blocking.has_edge.Goals as goal

pub returns : goal.returns
unfolding same_ends
returns c = c.eq.ensures ∙ ap (λ (e : Ends). same_ends e c.args.e) (c.edge.ensures ∙ ap edge_of c.read.ensures)
