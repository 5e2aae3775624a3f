use Rattle.split.specs.Split.{right}
use Rattle.split.proofs.laws.Rows.{by_places}
use Rattle.split.proofs.row.second.Goals as goal

pub returns : goal.returns
returns c = search (by_places right)
