use mathlib.Core.Path.{refl}
use Rattle.tables.proofs.row.RowEntry.unused.Goals as goal

pub returns : goal.returns
returns c = refl
