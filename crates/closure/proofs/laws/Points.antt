-- The points of appended midpoints, stored one after the other.
use mathlib.Core.Path.{◌≡◌, refl, sym, ap, ◌∙◌}
use mathlib.Core.List.{List, [], ◌∷◌, ◌++◌}
use mathlib.Core.Logic.{inl, inr}
use Prim.Native.Nat.{ℕ, ◌+◌, ◌/◌, ◌≤◌, ◌<◌}
use native.Mathlib.Omega.{arith}
use lib.ListN.{length, get_or, drop, get_or-eq_default}
use lib.Seq.{drop-length}
use lib.Ieee.{Float}
use Rattle.split.specs.declared.point.Point.{Point}
use Rattle.split.specs.Midpoint.{between}
use Rattle.split.proofs.laws.Places.{le_or_lt}
use Rattle.tables.specs.declared.record.Record.{Record}
use Rattle.tables.specs.Layout.{point_width, no_point, point_at, put_point, record_at}
use Rattle.tables.specs.Mesh.{up_to}
use Rattle.tables.proofs.laws.Rows.{points, length_put_point, point_put}
use Rattle.tables.proofs.laws.View.{up_to_next, length_up_to, up_to_at}
use Rattle.sound.proofs.laws.Flat.{up_to_same}
use Rattle.run.specs.Skeleton.{extended}
use Rattle.run.proofs.laws.Points.{halfway, points_next}
use Rattle.frame.specs.Points.{halfway_at, with_point, filled}
use Rattle.frame.proofs.laws.Steps.{over_keeps}
use Rattle.closure.proofs.laws.Tables.{put_other}

-- ---- the point table as a list of points

points_put : (p : List Float) (n : ℕ) (x : Point) → n < length p / point_width → up_to (point_at (put_point p n x)) (n + 1) ≡ up_to (point_at p) n ++ (x ∷ [])
points_put p n x h =
    up_to_next (point_at (put_point p n x)) n
    ∙ rw (point_put p n x h, up_to_same (point_at p) n no_point (point_at (put_point p n x)) (λ j l. put_other points p n x h j (λ e. omega arith)))

-- where zeros follow, a point that is not there reads the same in both
point_read : (p : List Float) (n : ℕ) → ((k : ℕ) → n ≤ k → point_at p k ≡ no_point) → (k : ℕ) → get_or (up_to (point_at p) n) k no_point ≡ point_at p k
point_read p n z k = elim (le_or_lt n k) [
  | inr l ↦ up_to_at (point_at p) n k no_point l
  | inl l ↦ get_or-eq_default (up_to (point_at p) n) no_point {n = k} (rw (length_up_to (point_at p) n) l) ∙ sym (z k l)
]

halfway_read : (p : List Float) (n : ℕ) → ((k : ℕ) → n ≤ k → point_at p k ≡ no_point) → (r : Record) → halfway (up_to (point_at p) n) r ≡ halfway_at p r
halfway_read p n z r = λ i. between (point_read p n z r.first i) (point_read p n z r.second i)

-- one record more is one point more
extended_next : (P : List Point) (r : List ℕ) (from v : ℕ) → length P ≡ from → from ≤ v → extended P (drop from (up_to (record_at r) (v + 1))) ≡ extended P (drop from (up_to (record_at r) v)) ++ (halfway (extended P (drop from (up_to (record_at r) v))) (record_at r v) ∷ [])
extended_next P r from v e h =
    rw (up_to_next (record_at r) v, ← e) (points_next P (record { records = up_to (record_at r) v; rows = [] }) (omega (arith, length_up_to (record_at r) v)) (record_at r v))

-- ---- all of them

-- the points of the vertices from `from` on, below `to`, can be stored
pub record Fillable (p : List Float) (from to : ℕ) : Type 0 where
  pub ordered : from ≤ to
  pub fits : to ≤ length p / point_width
  pub blank : (k : ℕ) → from ≤ k → point_at p k ≡ no_point

-- they are stored
pub record Filled (p : List Float) (r : List ℕ) (from to : ℕ) (p' : List Float) : Type 0 where
  pub size : length p' ≡ length p
  pub points : up_to (point_at p') to ≡ extended (up_to (point_at p) from) (drop from (up_to (record_at r) to))
  pub blank : (k : ℕ) → to ≤ k → point_at p' k ≡ no_point

-- the points below v are stored
pub record Storing (p : List Float) (r : List ℕ) (from to : ℕ) (p' : List Float) (v : ℕ) : Type 0 where
  pub size : length p' ≡ length p
  pub above : from ≤ v
  pub within : v ≤ to
  pub points : up_to (point_at p') v ≡ extended (up_to (point_at p) from) (drop from (up_to (record_at r) v))
  pub blank : (k : ℕ) → v ≤ k → point_at p' k ≡ no_point

-- no record is behind the last
none_left : (r : List ℕ) (n : ℕ) → drop n (up_to (record_at r) n) ≡ []
none_left r n = ap (λ (k : ℕ). drop k (up_to (record_at r) n)) (sym (length_up_to (record_at r) n)) ∙ drop-length (up_to (record_at r) n)

module _ {p : List Float} {from to : ℕ} (x : Fillable p from to) where
  storing_start : {r : List ℕ} → Storing p r from to p from
  unfolding extended
  storing_start {r} = record { size = refl; above = omega arith; within = x.ordered; points = rw (none_left r from); blank = x.blank }

  module _ {r : List ℕ} {p' : List Float} {v : ℕ} (s : Storing p r from to p' v) (h : v < to) where
    abbrev new : Point
    new = halfway_at p' (record_at r v)

    room : v < length p' / point_width
    room = rw s.size (omega (arith, x.fits, h))

    points_stored : up_to (point_at (put_point p' v new)) (v + 1) ≡ extended (up_to (point_at p) from) (drop from (up_to (record_at r) (v + 1)))
    points_stored =
        points_put p' v new room
        ∙ rw (← halfway_read p' v s.blank (record_at r v), s.points)
        (sym (extended_next (up_to (point_at p) from) r from v (length_up_to (point_at p) from) s.above))

    storing_next : {p'' : List Float} → p'' ≡ put_point p' v (halfway_at p' (record_at r v)) → Storing p r from to p'' (v + 1)
    storing_next e = rw e (record {
      size = length_put_point p' v new ∙ s.size;
      above = omega (arith, s.above);
      within = omega arith;
      points = points_stored;
      blank = λ k l. put_other points p' v new room k (λ q. omega arith) ∙ s.blank k (omega arith);
    })

  pub filled_right : {r : List ℕ} {p' : List Float} → p' ≡ filled p r from to → Filled p r from to p'
  filled_right {r} e = rw e (done (over_keeps (with_point r) p from to x.ordered (Storing p r from to) storing_start (λ p' v h s. storing_next s h refl)))
    where
      done : {r : List ℕ} {p' : List Float} → Storing p r from to p' to → Filled p r from to p'
      done t = record { size = t.size; points = t.points; blank = t.blank }
