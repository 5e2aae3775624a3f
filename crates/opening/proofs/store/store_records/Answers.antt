use Rattle.std.proofs.Common.{rules}
use Rattle.tables.proofs.laws.Rows.{records as record-table}
use Rattle.opening.specs.Opening.{initial}
use Rattle.opening.specs.Scratch.{colour_in}
use Rattle.opening.proofs.laws.Filling.{stored}
use Rattle.opening.proofs.store.store_records.Goals as goal

pub returns : goal.returns
returns c = stored record-table _ _ _ _ c.clear.ensures c.requires (c.put_each.ensures (λ v e. initial (colour_in c.args.paint.now v)) (search rules))
