use mathlib.Core.Path.{◌∙◌}
use Rattle.opening.proofs.laws.Painted.{most_largest}
use Rattle.opening.proofs.laws.Opened.{opened_laid}
use Rattle.opening.proofs.store_all.Goals as goal

pub returns : goal.returns
returns c = opened_laid c.requires.painted (c.largest_colour.ensures ∙ most_largest c.requires.painted) (record { points = c.store_points.ensures; records = c.store_records.ensures; rows = c.store_rows.ensures })
