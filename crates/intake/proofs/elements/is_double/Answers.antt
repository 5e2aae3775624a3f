use mathlib.Core.Path.{◌∙◌}
use Rattle.intake.specs.Causes.{twice}
use Rattle.intake.proofs.elements.is_double.Goals as goal

pub returns : goal.returns
returns c = c.repeats.ensures ∙ (λ i. twice (c.vertex_at-a.ensures i) (c.vertex_at-b.ensures i) (c.vertex_at-c.ensures i) (c.vertex_at-d.ensures i))
