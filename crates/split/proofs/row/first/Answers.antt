use Rattle.split.specs.Split.{left}
use Rattle.split.proofs.laws.Rows.{by_places}
use Rattle.split.proofs.row.first.Goals as goal

pub returns : goal.returns
returns c = search (by_places left)
