-- The exact case on sound tables (01, "One split"): within 23 midpoint steps every coordinate is a whole number over 2 ^ 23, and a midpoint's is exactly the mean of its parents'.
use mathlib.Core.Path.{◌≡◌, refl, sym, ap, subst, ◌∙◌}
use mathlib.Core.Bool.{Bool}
use mathlib.Core.List.{List}
use mathlib.Core.Logic.{inl, inr}
use Prim.Native.Nat.{ℕ, zero, suc, ◌+◌, ◌-◌, ◌*◌, ◌^◌, ◌≤◌, ◌<◌, max}
use native.Mathlib.Nat.{eq_of_mul-eq-mul_right}
use native.Mathlib.Omega.{arith}
use lib.IntN.{ℤ, ◌+ℤ◌}
use lib.Ieee.{Float, nan, inf, fin, down}
use lib.Ieee.Exact.{HasValue}
use lib.Ieee.Fits.{down_pos}
use Rattle.split.specs.declared.point.Point.{Point}
use Rattle.split.specs.Exact.{signed, Reached, Whole}
use Rattle.split.specs.Midpoint.{mean, between}
use Rattle.split.proofs.laws.Exact.{start, more, step}
use Rattle.split.proofs.laws.Places.{le_or_lt}
use Rattle.tables.specs.declared.layout.Counts.{Counts}
use Rattle.tables.specs.declared.record.Record.{Record}
use Rattle.tables.specs.Layout.{point_at, record_at}
use Rattle.tables.proofs.laws.View.{mesh_record, mesh_point}
use Rattle.tables.specs.Mesh.{Lent, Mesh, mesh_of}
use Rattle.sound.specs.Sound.{vertices, point_of, record_of, Grown, Sound}
use Rattle.closure.specs.Refine.{refined_to, Refines}
use Rattle.closure.specs.Exact.{Axis, x_axis, y_axis, z_axis, along, Steps, initial, midpoint, WholeStart}
use Rattle.closure.proofs.laws.Taken.{sound_vertices}
use Rattle.closure.proofs.laws.Accepted.{accepted_grows, accepted_counted}
use Rattle.closure.proofs.laws.Kept.{accepted_kept}

-- ---- a coordinate is one number

value_only : (x : Float) (s t : Bool) (a b c : ℕ) → HasValue x s a c → HasValue x t b c → (s ≡ t) × (a ≡ b)
value_only nan s t a b c v w = absurd v
value_only (inf z) s t a b c v w = absurd v
value_only (fin z m e) s t a b c v w = (sym v.0 ∙ w.0, eq_of_mul-eq-mul_right (down e) (down_pos e) a b (sym v.1 ∙ w.1))

pub reached_one : {j k : ℕ} {x : Float} {a b : ℤ} → Reached j x a → Reached k x b → a ≡ b
reached_one {j} {k} {x} r w =
    let (s, n) = value_only x r.sign w.sign (r.units * 2 ^ (23 - j)) (w.units * 2 ^ (23 - k)) (2 ^ 23) r.value w.value in
    r.is ∙ (λ i. signed (s i) (n i)) ∙ sym w.is

along_between : (w : Axis) (p q : Point) → along w (between p q) ≡ mean (along w p) (along w q)
unfolding between
along_between x_axis p q = refl
along_between y_axis p q = refl
along_between z_axis p q = refl

-- ---- every vertex has its number of steps

module _ {m : Mesh} {i t : ℕ} (g : Grown m i t) where
  steps_below : (n v : ℕ) → v < n → v < vertices m → (k : ℕ) × Steps m i v k
  steps_below zero v h l = absurd (omega arith)
  steps_below (suc n) v h l = elim (le_or_lt i v) [
    | inr a ↦ (0, initial a refl)
    | inl a ↦ let p = g.midpoint v a l in
        let (j, x) = steps_below n (record_of m v).first (omega (arith, p.rising, p.older)) (omega (arith, p.rising, p.older)) in
        let (k, y) = steps_below n (record_of m v).second (omega (arith, p.older)) (omega (arith, p.older)) in
        (suc (max j k), midpoint a l x y refl)
  ]

  pub steps_all : (v : ℕ) → v < vertices m → (k : ℕ) × Steps m i v k
  steps_all v h = steps_below (suc v) v (omega arith) h

  -- ---- the numbers

  module _ (w : Axis) (o : WholeStart m i w) where
    abbrev coordinate : ℕ → Float
    coordinate v = along w (point_of m v)

    initial_exact : {v k : ℕ} → v < i → k ≡ 0 → (z : ℤ) × Reached k (coordinate v) z
    initial_exact {v} h e = let (sign, size, whole) = o.whole v h in (signed sign (size * 2 ^ 23), rw e (start whole))

    midpoint_step : {v a b k : ℕ} {p q : ℤ} → i ≤ v → v < vertices m → k ≡ suc (max a b) → k ≤ 23 → Reached a (coordinate (record_of m v).first) p → Reached b (coordinate (record_of m v).second) q → (z : ℤ) × (z +ℤ z ≡ p +ℤ q) × Reached k (coordinate v) z
    midpoint_step {v} {a} {b} {k} h l e s x y =
        let c = max a b in
        let (z, twice, r) = step c (omega arith) (more a c (omega arith) (omega arith) x) (more b c (omega arith) (omega arith) y) in
        let here : along w (point_of m v) ≡ mean (coordinate (record_of m v).first) (coordinate (record_of m v).second) = ap (along w) (g.midpoint v h l).point ∙ along_between w (point_of m (record_of m v).first) (point_of m (record_of m v).second) in
        let next : k ≡ c + 1 = omega arith in
        (z, twice, subst (λ (n : ℕ). Reached n (coordinate v) z) (sym next) (subst (λ (f : Float). Reached (c + 1) f z) (sym here) r))

    -- every vertex within 23 steps has a number
    pub exact_vertex : {v k : ℕ} → Steps m i v k → k ≤ 23 → (z : ℤ) × Reached k (coordinate v) z
    exact_vertex (initial h e) s = initial_exact h e
    exact_vertex (midpoint h l x y e) s =
        let (p, a) = exact_vertex x (omega (arith, e, s)) in
        let (q, b) = exact_vertex y (omega (arith, e, s)) in
        let (z, twice, r) = midpoint_step h l e s a b in
        (z, r)

    -- and a midpoint's is exactly the mean of its parents'
    pub exact_mean : {v k a b c : ℕ} {p q z : ℤ} → Steps m i v k → k ≤ 23 → i ≤ v → v < vertices m → Reached a (coordinate (record_of m v).first) p → Reached b (coordinate (record_of m v).second) q → Reached c (coordinate v) z → z +ℤ z ≡ p +ℤ q
    exact_mean (initial h e) s f l x y r = absurd (omega arith)
    exact_mean (midpoint h l' x' y' e) s f l x y r =
        let (p', a) = exact_vertex x' (omega (arith, e, s)) in
        let (q', b) = exact_vertex y' (omega (arith, e, s)) in
        let (z', twice, r') = midpoint_step h l e s a b in
        ap (λ (n : ℤ). n +ℤ n) (reached_one r r') ∙ twice ∙ (λ j. reached_one a x j +ℤ reached_one b y j)

-- ---- on tables

module _ {t : Lent} {c : Counts} (s : Sound t c) where
  abbrev table_point : Axis → ℕ → Float
  table_point w v = along w (point_at t.points v)

  pub sound_steps : (v : ℕ) → v < c.vertices → (k : ℕ) × Steps (mesh_of t c) s.initials v k
  sound_steps v h = steps_all s.grown v (rw (sound_vertices s) h)

  module _ (w : Axis) (o : WholeStart (mesh_of t c) s.initials w) {v k : ℕ} (h : v < c.vertices) (l : Steps (mesh_of t c) s.initials v k) (few : k ≤ 23) where
    pub sound_exact : (z : ℤ) × Reached k (table_point w v) z
    sound_exact = let (z, r) = exact_vertex s.grown w o l few in (z, subst (λ (p : Point). Reached k (along w p) z) (mesh_point t c v h) r)

    pub sound_mean : {a b d : ℕ} {p q z : ℤ} → s.initials ≤ v → Reached a (table_point w (record_at t.records v).first) p → Reached b (table_point w (record_at t.records v).second) q → Reached d (table_point w v) z → z +ℤ z ≡ p +ℤ q
    sound_mean {a} {b} {d} {p} {q} {z} m x y r =
        let there : v < vertices (mesh_of t c) = rw (sound_vertices s) h in
        let parents = s.grown.midpoint v m there in
        let first : (record_of (mesh_of t c) v).first < c.vertices = omega (arith, parents.rising, parents.older, h) in
        let second : (record_of (mesh_of t c) v).second < c.vertices = omega (arith, parents.older, h) in
        let at : record_at t.records v ≡ record_of (mesh_of t c) v = sym (mesh_record t c v h) in
        exact_mean s.grown w o l few m there
        (subst (λ (n : Point). Reached a (along w n) p) (ap (λ (n : Record). point_at t.points n.first) at ∙ sym (mesh_point t c (record_of (mesh_of t c) v).first first)) x)
        (subst (λ (n : Point). Reached b (along w n) q) (ap (λ (n : Record). point_at t.points n.second) at ∙ sym (mesh_point t c (record_of (mesh_of t c) v).second second)) y)
        (subst (λ (n : Point). Reached d (along w n) z) (sym (mesh_point t c v h)) r)

-- an accepted call keeps the start and the steps
module _ {t : Lent} {c : Counts} (s : Sound t c) {marks : List ℕ} {d : Counts} {n : ℕ} {t' : Lent} (x : Refines t c marks (refined_to d n) t') where
  pub whole_kept : {w : Axis} → WholeStart (mesh_of t c) s.initials w → WholeStart (mesh_of t' d) s.initials w
  whole_kept {w} o = record {
    whole = λ v h.
        let l : v < c.vertices = omega (arith, s.grown.parted.vertices_in, sound_vertices s) in
        let same : point_of (mesh_of t' d) v ≡ point_of (mesh_of t c) v = mesh_point t' d v (omega (arith, (accepted_counted s x).vertices)) ∙ (accepted_kept s x).point v l ∙ sym (mesh_point t c v l) in
        let (sign, size, whole) = o.whole v h in
        (sign, size, subst (λ (p : Point). Whole (along w p) sign size) (sym same) whole);
  }

  pub steps_kept : {v k : ℕ} → Steps (mesh_of t c) s.initials v k → Steps (mesh_of t' d) s.initials v k
  steps_kept (initial h e) = initial h e
  steps_kept {v} {k} (midpoint {a = a} {b = b} h l p q e) =
      let same = (accepted_grows s x).record_old v l in
      midpoint h (omega (arith, l, (accepted_grows s x).more_vertices)) (subst (λ (r : Record). Steps (mesh_of t' d) s.initials r.first a) (sym same) (steps_kept p)) (subst (λ (r : Record). Steps (mesh_of t' d) s.initials r.second b) (sym same) (steps_kept q)) e
