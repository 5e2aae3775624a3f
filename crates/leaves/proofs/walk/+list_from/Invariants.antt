use Prim.Native.Nat.{◌-◌}
use Rattle.tables.specs.Layout.{row_at}
use Rattle.leaves.proofs.walk.+list_from.Given as goal

abbrev pub decreases-list_from : goal.decreases-list_from
decreases-list_from l = 60 - (row_at l.rows.now l.k).depth
