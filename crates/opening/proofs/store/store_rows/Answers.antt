use Rattle.std.proofs.Common.{rules}
use Rattle.opening.specs.Mesh.{cells_of}
use Rattle.tables.proofs.laws.Rows.{rows as row-table}
use Rattle.opening.specs.Order.{root_of}
use Rattle.opening.specs.Scratch.{colour_in}
use Rattle.opening.proofs.laws.Filling.{stored}
use Rattle.opening.proofs.store.store_rows.Goals as goal

pub returns : goal.returns
returns c = stored row-table _ _ _ _ c.clear.ensures c.requires (c.put_each.ensures (λ k e. root_of c.args.n (colour_in c.args.paint.now) (cells_of c.args.mesh.now) k) (search rules))
