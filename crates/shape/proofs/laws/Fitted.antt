-- What clause 1 gives the others: the counts are within the tables.
use Prim.Native.Nat.{ℕ, ◌*◌, ◌-◌, ◌≤◌}
use native.Mathlib.Omega.{arith}
use mathlib.Core.Path.{◌≡◌}
use mathlib.Core.Bool.{Bool}
use mathlib.Core.List.{List}
use lib.ListN.{length, drop, replicate}
use lib.Ieee.{Float}
use Rattle.tables.specs.declared.layout.Counts.{Counts}
use Rattle.tables.specs.Layout.{no_float, room_of, point_width, record_width}
use Rattle.tables.specs.Mesh.{Lent, Unused}
use Rattle.sound.specs.Sound.{Fitting}
use Rattle.sound.specs.Check.{Decides, lent}
use Rattle.sound.proofs.laws.Deciding.{decides_same}
use Rattle.shape.specs.Shape.{Inside}

module _ {t : Lent} {c : Counts} (f : Fitting t c) where
  pub fitting_points : point_width * c.vertices ≤ length t.points
  unfolding room_of
  fitting_points = omega (arith, f.vertices_fit)

  pub fitting_records : record_width * c.vertices ≤ length t.records
  unfolding room_of
  fitting_records = omega (arith, f.vertices_fit)

  pub fitting_inside : Inside t.records t.rows c
  unfolding room_of
  fitting_inside = omega (arith, f.vertices_fit, f.rows_fit)

-- clause 8, of the rows last
pub unused_last : {p : List Float} {r w : List ℕ} {c : Counts} → Fitting (lent p r w) c → drop (3 * c.vertices) p ≡ replicate (length p - 3 * c.vertices) no_float → drop (2 * c.vertices) r ≡ replicate (length r - 2 * c.vertices) 0
    → {b : Bool} → Decides (drop (8 * c.rows) w ≡ replicate (length w - 8 * c.rows) 0) b → Decides (Unused (lent p r w) c) b
unused_last f a b = decides_same (λ e. record { points_fit = fitting_points f; records_fit = fitting_records f; rows_fit = (fitting_inside f).rows_fit; points = a; records = b; rows = e }) (λ u. u.rows)
