use Rattle.std.proofs.Common.{rules, ◌/◌, length}
use Rattle.tables.specs.Layout.{no_float, point_width, point_at}
use Rattle.tables.proofs.laws.Rows.{points as point-table}
use Rattle.opening.proofs.laws.Filling.{stored}
use Rattle.opening.proofs.store.store_points.Goals as goal

pub returns : goal.returns
returns c =
    let put = c.put_each.ensures (λ v e. point_at c.args.coordinates.now v) (search rules) in
    stored point-table no_float (point_at c.args.coordinates.now) (length c.args.coordinates.now / point_width) (length c.args.points.now) {start = c.fill.new.self} (search rules) c.requires put
