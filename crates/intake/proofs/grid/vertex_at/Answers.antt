use mathlib.Core.Path.{◌∙◌}
use Rattle.intake.proofs.grid.vertex_at.Goals as goal

pub returns : goal.returns
returns c = c.wide.ensures ∙ c.number_at.ensures
