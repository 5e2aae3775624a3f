use mathlib.Core.Path.{◌∙◌}
use Rattle.opening.proofs.laws.Sorting.{read_low, root_is}
use Rattle.opening.proofs.order.root_row.Goals as goal

pub sort-requires : goal.sort-requires
sort-requires c = read_low _ _ c.corners-w.ensures c.args.mesh.now.plain c.requires

pub returns : goal.returns
returns c = c.root.ensures ∙ root_is _ _ c.corners-w.ensures _ _ _ _ c.sort.ensures.0 c.arrange-f.ensures
