-- The points of midpoints that closure appended: closure does not see them, and they follow from the records (01, "One split").
use Rattle.std.specs.Prelude.{List, ℕ, Float}
use Rattle.split.specs.declared.point.Point.{Point}
use Rattle.split.specs.Midpoint.{between}
use Rattle.tables.specs.declared.record.Record.{Record}
use Rattle.tables.specs.Layout.{point_at, record_at, put_point}
use Rattle.tables.specs.Steps.{over}

-- halfway between the points of the vertex's parents
abbrev pub halfway_at : List Float → Record → Point
halfway_at p r = between (point_at p r.first) (point_at p r.second)

-- the point of v stored
abbrev pub with_point : List ℕ → List Float → ℕ → List Float
with_point r p v = put_point p v (halfway_at p (record_at r v))

-- the points of the vertices from `from` on, below `to`, stored in number order
abbrev pub filled : List Float → List ℕ → ℕ → ℕ → List Float
filled p r from to = over (with_point r) p from to
