-- No coordinate of a used vertex of sound tables is over 2 ^ 1000 or not finite: opening afresh says it of the initial vertices, and a midpoint's are means of its parents'.
use Rattle.std.proofs.Common.{None}
use mathlib.Core.Path.{◌≡◌, refl}
use mathlib.Core.Bool.{true, false, ◌&&◌}
use mathlib.Core.List.{List}
use mathlib.Core.Logic.{inl, inr}
use Prim.Native.Nat.{ℕ, zero, suc, ◌+◌, ◌*◌, ◌/◌, ◌<◌}
use native.Mathlib.Nat.{add-zero}
use native.Mathlib.Omega.{arith}
use borrow.Author.Tests.{not-false}
use lib.ListN.{length, get_or, take, get_or-eq_default}
use lib.Seq.{get_or-take}
use lib.Ieee.{Float, nan, of_bits}
use Rattle.split.specs.declared.point.Point.{Point}
use Rattle.split.specs.Magnitude.{Bounded}
use Rattle.split.specs.Midpoint.{between}
use Rattle.split.proofs.laws.Magnitude.{mean_bounded}
use Rattle.split.proofs.laws.Places.{le_or_lt}
use Rattle.tables.specs.declared.layout.Counts.{Counts}
use Rattle.tables.specs.Layout.{no_float, no_point, point_cells, point_at, record_at}
use Rattle.tables.specs.Mesh.{Lent, Mesh, flat, mesh_of}
use Rattle.tables.proofs.laws.View.{length_flat, length_up_to, mesh_point}
use Rattle.intake.specs.Search.{first}
use Rattle.intake.specs.Causes.{usable, unusable}
use Rattle.intake.proofs.laws.Search.{first_none}
use Rattle.opening.proofs.laws.Passed.{usable_bounded}
use Rattle.sound.specs.Sound.{vertices, point_of, record_of, given_points, root_cells, Grown, Sound}
use Rattle.sound.specs.Follows.{BoundedPoint}
use Rattle.sound.proofs.laws.Searches.{and_both}
use Rattle.sound.proofs.laws.Flat.{flat_at}
use Rattle.sound.proofs.laws.Tested.{tested}

-- ---- points that passed test 3

zero_bounded : BoundedPoint no_point
unfolding usable of_bits
zero_bounded = let z : Bounded no_float = usable_bounded no_float refl in record { x = z; y = z; z = z }

-- the coordinates of vertex v are usable
record Usable (F : List Float) (v : ℕ) : Type 0 where
  x : usable (get_or F (3 * v) nan) ≡ true
  y : usable (get_or F (3 * v + 1) nan) ≡ true
  z : usable (get_or F (3 * v + 2) nan) ≡ true

none_unusable : (F : List Float) (v : ℕ) → unusable F v ≡ false → Usable F v
unfolding unusable
none_unusable F v h =
    let (x, yz) = and_both (usable (get_or F (3 * v) nan)) (usable (get_or F (3 * v + 1) nan) && usable (get_or F (3 * v + 2) nan)) (not-false _ h) in
    let (y, z) = and_both (usable (get_or F (3 * v + 1) nan)) (usable (get_or F (3 * v + 2) nan)) yz in
    record { x = x; y = y; z = z }

module _ (xs : List Point) (h : first (unusable (flat point_cells xs)) (length (flat point_cells xs) / 3) ≡ None) where
  spelt : (v q : ℕ) → v < length xs → q < 3 → get_or (flat point_cells xs) (3 * v + q) nan ≡ get_or (point_cells (get_or xs v no_point)) q nan
  spelt v q l m = flat_at point_cells 3 (λ p. refl) xs v q no_point nan l m

  given_bounded : (v : ℕ) → v < length xs → BoundedPoint (get_or xs v no_point)
  given_bounded v l =
      let inside : v < length (flat point_cells xs) / 3 = omega (arith, length_flat point_cells 3 (λ p. refl) xs) in
      let u = none_unusable (flat point_cells xs) v (first_none (unusable (flat point_cells xs)) (length (flat point_cells xs) / 3) h v inside) in
      record {
        x = usable_bounded (get_or xs v no_point).x (rw (← spelt v 0 l (omega arith), add-zero) u.x);
        y = usable_bounded (get_or xs v no_point).y (rw (← spelt v 1 l (omega arith)) u.y);
        z = usable_bounded (get_or xs v no_point).z (rw (← spelt v 2 l (omega arith)) u.z);
      }

  -- past their end stands the zero point
  listed_bounded : (v : ℕ) → BoundedPoint (get_or xs v no_point)
  listed_bounded v = elim (le_or_lt (length xs) v) [ inl l ↦ rw (get_or-eq_default xs no_point l) zero_bounded | inr l ↦ given_bounded v l ]

-- ---- midpoints

pub between_bounded : (p q : Point) → BoundedPoint p → BoundedPoint q → BoundedPoint (between p q)
unfolding between
between_bounded p q a b = record { x = mean_bounded p.x q.x a.x b.x; y = mean_bounded p.y q.y a.y b.y; z = mean_bounded p.z q.z a.z b.z }

module _ {m : Mesh} {i t : ℕ} (g : Grown m i t) where
  initial_bounded : (v : ℕ) → v < i → BoundedPoint (point_of m v)
  initial_bounded v h =
      rw (← get_or-take i m.points v no_point h)
      (listed_bounded (take i m.points) (tested (given_points m i) (root_cells m t) g.afresh.opens).usable v)

  bounded_below : (n v : ℕ) → v < n → v < vertices m → BoundedPoint (point_of m v)
  bounded_below zero v h l = absurd (omega arith)
  bounded_below (suc n) v h l = elim (le_or_lt i v) [
    | inr a ↦ initial_bounded v a
    | inl a ↦ let p = g.midpoint v a l in
        rw p.point (between_bounded (point_of m (record_of m v).first) (point_of m (record_of m v).second)
        (bounded_below n (record_of m v).first (omega (arith, p.rising, p.older)) (omega (arith, p.rising, p.older)))
        (bounded_below n (record_of m v).second (omega (arith, p.older)) (omega (arith, p.older))))
  ]

  pub grown_bounded : (v : ℕ) → v < vertices m → BoundedPoint (point_of m v)
  grown_bounded v l = bounded_below (suc v) v (omega arith) l

-- ---- on tables

module _ {t : Lent} {c : Counts} (s : Sound t c) (v : ℕ) (h : v < c.vertices) where
  pub sound_bounded_mesh : BoundedPoint (point_of (mesh_of t c) v)
  unfolding mesh_of
  sound_bounded_mesh = grown_bounded s.grown v (rw (length_up_to (record_at t.records) c.vertices) h)

  -- the coordinates of every used vertex are finite and of magnitude at most 2 ^ 1000
  pub sound_bounded : BoundedPoint (point_at t.points v)
  sound_bounded = rw (← mesh_point t c v h) sound_bounded_mesh
