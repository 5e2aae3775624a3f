-- The split of one leaf keeps everything in sound tables but their last condition (01, "Sound tables", clauses 2 to 6).
use mathlib.Core.Path.{◌≡◌, sym, ap, ◌∙◌}
use mathlib.Core.List.{map}
use mathlib.Core.Logic.{inl, inr}
use Prim.Native.Nat.{ℕ, ◌+◌, ◌≤◌, ◌<◌}
use native.Mathlib.Decide.{ℕ_discrete}
use native.Mathlib.Omega.{arith}
use lib.ListN.{take}
use Rattle.split.specs.declared.row.Row.{Row}
use Rattle.split.specs.declared.row.Ends.{Ends}
use Rattle.split.specs.Split.{Side, left, right, number, far}
use Rattle.split.specs.Row.{corners_of, tag_of, ends, edge_of, with_child, first_of, second_of, child_of, pair}
use Rattle.split.specs.Midpoint.{between}
use Rattle.split.proofs.laws.Places.{le_or_lt}
use Rattle.split.proofs.laws.Tags.{tag_range}
use Rattle.split.proofs.laws.Children.{far_at}
use Rattle.split.proofs.laws.Ends.{ends_rising, ends_falling}
use Rattle.split.proofs.laws.Rows.{row_step, deeper_is}
use Rattle.split.proofs.laws.Same.{child_leaf, edge_childless, child_childless}
use Rattle.tables.specs.declared.record.Record.{Record}
use Rattle.tables.specs.Mesh.{Mesh}
use Rattle.sound.specs.Sound.{vertices, rows, point_of, record_of, row_of, childless, Parted, Records, place, Child, Parent, Midpoint, Grown}
use Rattle.sound.proofs.laws.Front.{afresh_same}
use Rattle.sound.proofs.laws.Placed.{placed, row_distinct}

-- the rows of m' are those of m with the leaf s split at the vertex v
pub record RowsCut (m m' : Mesh) (t s v : ℕ) : Type 0 where
  pub there : s < rows m
  pub leaf : (row_of m s).child ≡ 0
  pub shallow : (row_of m s).depth < 60
  pub more : rows m' ≡ rows m + 2
  pub old : (r : ℕ) → r < rows m → (r ≡ s → ⊥) → row_of m' r ≡ row_of m r
  pub own : row_of m' s ≡ with_child (row_of m s) (rows m)
  pub first : row_of m' (rows m) ≡ first_of (row_of m s) s v
  pub second : row_of m' (rows m + 1) ≡ second_of (row_of m s) s v
  pub kept : map childless (take t m'.rows) ≡ map childless (take t m.rows)

-- m' is m with the leaf s split at the vertex v, which may be new
pub record Cuts (m m' : Mesh) (i t s v : ℕ) : Type 0 where
  pub rows : RowsCut m m' t s v
  pub few : vertices m < 4294967295
  pub vertices_kept : vertices m ≤ vertices m'
  pub record_old : (u : ℕ) → u < vertices m → record_of m' u ≡ record_of m u
  pub point_old : (u : ℕ) → u < vertices m → point_of m' u ≡ point_of m u
  pub points_kept : take i m'.points ≡ take i m.points
  pub records_kept : take i m'.records ≡ take i m.records
  pub middle : Records m' i v (edge_of (row_of m s))
  -- v is the only vertex that may be new, and then no other records the edge
  pub new : (u : ℕ) → vertices m ≤ u → u < vertices m' → u ≡ v
  pub only : (u : ℕ) → vertices m ≤ v → i ≤ u → u < vertices m → pair (record_of m u).first (record_of m u).second ≡ edge_of (row_of m s) → ⊥
  pub point_new : vertices m ≤ v → point_of m' v ≡ between (point_of m' (record_of m' v).first) (point_of m' (record_of m' v).second)

-- ---- the ends of a row's edge

-- the ends of an edge between two different vertices below n
pub record Spread (n : ℕ) (e : Ends) : Type 0 where
  pub rising : e.small < e.large
  pub below : e.large < n

spread_ends : (n a b : ℕ) → a < n → b < n → (a ≡ b → ⊥) → Spread n (ends a b)
spread_ends n a b h k d = elim (le_or_lt a b) [ inl l ↦ rw (ends_rising l) (record { rising = omega arith; below = omega arith }) | inr l ↦ rw (ends_falling {a = a} {b = b} (omega arith)) (record { rising = omega arith; below = omega arith }) ]

pub edge_spread : {m : Mesh} {i t : ℕ} → Grown m i t → (r : ℕ) → r < rows m → Spread (vertices m) (edge_of (row_of m r))
unfolding edge_of
edge_spread {m} g r h =
    let p = placed g r h in
    let tag = tag_of (row_of m r) in
    let tip = far_at (corners_of (row_of m r)) tag in
    let (low, high) = tag_range tag in
    spread_ends (vertices m) (row_of m r).v0 (far tag (corners_of (row_of m r))) (p.held 0 (omega arith)) (rw (← tip) (p.held (number tag) high))
    (λ e. let z = (row_distinct g r h).apart 0 (number tag) (omega arith) high (e ∙ sym tip) in omega arith)

-- ---- the clauses, one after the other

module _ {m m' : Mesh} {i t s v : ℕ} (g : Grown m i t) (c : Cuts m m' i t s v) where
  -- a row of m is the same row of m' but for its first child, and the same where it has one
  pub row_kept : (r : ℕ) → r < rows m → childless (row_of m' r) ≡ childless (row_of m r)
  row_kept r h = elim (ℕ_discrete r s) [ yes e ↦ rw e (ap childless c.rows.own) | no d ↦ ap childless (c.rows.old r h d) ]

  pub split_kept : (r : ℕ) → r < rows m → ((row_of m r).child ≡ 0 → ⊥) → row_of m' r ≡ row_of m r
  split_kept r h d = c.rows.old r h (λ e. d (rw e c.rows.leaf))

  pub parent_kept : (r : ℕ) → r < rows m → (row_of m' r).parent ≡ (row_of m r).parent
  parent_kept r h = ap (λ (x : Row). x.parent) (row_kept r h)

  -- the child on each side
  pub born : (x : Side) → row_of m' (place x (rows m)) ≡ child_of x (row_of m s) s v
  born left = c.rows.first
  born right = c.rows.second

  born_parent : (x : Side) → (row_of m' (place x (rows m))).parent ≡ s
  born_parent x = ap (λ (r : Row). r.parent) (born x) ∙ (row_step x (row_of m s) s v).parent

  -- a row of m' is a row of m or one of the two
  pub data Either (r : ℕ) : Type 0 where
    before : r < rows m → Either r
    next : (x : Side) → r ≡ place x (rows m) → Either r

  pub either : (r : ℕ) → r < rows m' → Either r
  either r h = elim (le_or_lt (rows m) r) [
    | inr l ↦ before l
    | inl l ↦ elim (ℕ_discrete r (rows m)) [ yes e ↦ next left e | no d ↦ next right (omega (arith, c.rows.more)) ]
  ]

  cut_parted : Parted m' i t
  cut_parted =
      let p = g.parted in
      let edge = edge_spread g s c.rows.there in
      record {
        vertices_in = omega (arith, p.vertices_in, c.vertices_kept);
        rows_in = omega (arith, p.rows_in, c.rows.more);
        initial = λ u h. ap (λ (x : Record). x.second) (c.record_old u (omega (arith, p.vertices_in))) ∙ p.initial u h;
        midpoints = λ u h l e. elim (le_or_lt (vertices m) u) [
          | inr k ↦ p.midpoints u h k (sym (ap (λ (x : Record). x.second) (c.record_old u k)) ∙ e)
          | inl k ↦ omega (arith, c.few, edge.below, e, ap (λ (x : ℕ). (record_of m' x).second) (c.new u k l), ap (λ (x : Ends). x.large) c.middle.ends)
        ];
        roots = λ r h. parent_kept r (omega (arith, p.rows_in)) ∙ p.roots r h;
        children = λ r h l e. elim (either r l) [
          | before k ↦ p.children r h k (sym (parent_kept r k) ∙ e)
          | next x q ↦ absurd (later x r q e)
        ];
      }
    where
      later : (x : Side) (r : ℕ) → r ≡ place x (rows m) → (row_of m' r).parent ≡ r → ⊥
      later left r q e = omega (arith, c.rows.there, rw (← q) at (born_parent left))
      later right r q e = omega (arith, c.rows.there, rw (← q) at (born_parent right))

  records_stay : {u : ℕ} {e : Ends} → Records m i u e → Records m' i u e
  records_stay {u} w = record { midpoint = w.midpoint; there = omega (arith, w.there, c.vertices_kept); ends = rw (c.record_old u w.there) w.ends }

  child_before : (r : ℕ) → t ≤ r → r < rows m → Child m' i r
  child_before r h l =
      let k = g.child r h l in
      let up = parent_kept r l in
      let held = split_kept (row_of m r).parent (omega (arith, k.older)) k.split in
      record {
        older = rw up k.older;
        split = rw (up, held) k.split;
        side = k.side;
        here = rw (up, held) k.here;
        vertex = k.vertex;
        middle = rw (up, held) (records_stay k.middle);
        is = row_kept r l ∙ rw (up, held) k.is;
        shallow = rw (ap (λ (x : Row). x.depth) (row_kept r l)) k.shallow;
      }

  place_at_least : (x : Side) (n : ℕ) → n ≤ place x n
  place_at_least left n = omega arith
  place_at_least right n = omega arith

  child_next : (x : Side) → Child m' i (place x (rows m))
  child_next x =
      let up = born_parent x in
      let step = row_step x (row_of m s) s v in
      record {
        older = rw up (omega (arith, c.rows.there, place_at_least x (rows m)));
        split = rw (up, c.rows.own) (λ e. omega (arith, c.rows.there));
        side = x;
        here = rw (up, c.rows.own);
        vertex = v;
        middle = rw up (rw (edge_childless (row_of m' s) (row_of m s) (row_kept s c.rows.there)) c.middle);
        is = ap childless (born x) ∙ child_leaf x (row_of m s) s v ∙ sym (child_childless x (row_of m' s) (row_of m s) s v (row_kept s c.rows.there)) ∙ ap (λ (p : ℕ). child_of x (row_of m' p) p v) (sym up);
        shallow = rw (born x) (omega (arith, step.depth, deeper_is (row_of m s).depth (omega (arith, c.rows.shallow)), c.rows.shallow));
      }

  cut_parent : (q : ℕ) → q < rows m' → ((row_of m' q).child ≡ 0 → ⊥) → Parent m' t q
  cut_parent q h d = go (either q h) (ℕ_discrete q s)
    where
      go : Either q → Dec (q ≡ s) → Parent m' t q
      go (next x e) w = absurd (d (rw (e, born x) (row_step x (row_of m s) s v).leaf))
      go (before l) (yes e) = rw e (record {
        later = rw c.rows.own c.rows.there;
        past = rw c.rows.own g.parted.rows_in;
        both = rw c.rows.own (omega (arith, c.rows.more));
        first = rw c.rows.own (born_parent left);
        second = rw c.rows.own (born_parent right);
      })
      go (before l) (no n) =
          let same = c.rows.old q l n in
          let p = g.parent q l (λ e. d (rw same e)) in
          record {
            later = rw same p.later;
            past = rw same p.past;
            both = rw same (omega (arith, p.both, c.rows.more));
            first = rw same (parent_kept (row_of m q).child (omega (arith, p.both)) ∙ p.first);
            second = rw same (parent_kept ((row_of m q).child + 1) p.both ∙ p.second);
          }

  midpoint_before : (u : ℕ) → i ≤ u → u < vertices m → Midpoint m' i u
  midpoint_before u h l =
      let w = g.midpoint u h l in
      let same = c.record_old u l in
      record {
        rising = rw same w.rising;
        older = rw same w.older;
        only = λ x k z e. elim (le_or_lt (vertices m) x) [
          | inr y ↦ w.only x k y (sym (c.record_old x y) ∙ e ∙ same)
          | inl y ↦ absurd (c.only u (rw (← c.new x y z) y) h l (ap (λ (q : Record). pair q.first q.second) (sym same ∙ sym e ∙ ap (record_of m') (c.new x y z)) ∙ c.middle.ends))
        ];
        row = w.row;
        there = omega (arith, w.there, c.rows.more);
        split = rw (split_kept w.row w.there w.split) w.split;
        edge = rw (same, split_kept w.row w.there w.split) w.edge;
        point = c.point_old u l ∙ w.point ∙ rw (same, c.point_old (record_of m u).first (omega (arith, w.rising, w.older)), c.point_old (record_of m u).second (omega (arith, w.older)));
      }

  midpoint_new : vertices m ≤ v → Midpoint m' i v
  midpoint_new h =
      let edge = edge_spread g s c.rows.there in
      let small = ap (λ (x : Ends). x.small) c.middle.ends in
      let large = ap (λ (x : Ends). x.large) c.middle.ends in
      record {
        rising = omega (arith, edge.rising, small, large);
        older = omega (arith, edge.below, large);
        only = λ x k z e. elim (le_or_lt (vertices m) x) [
          | inl y ↦ c.new x y z
          | inr y ↦ absurd (c.only x h k y (ap (λ (q : Record). pair q.first q.second) (sym (c.record_old x y) ∙ e) ∙ c.middle.ends))
        ];
        row = s;
        there = omega (arith, c.rows.there, c.rows.more);
        split = rw c.rows.own (λ e. omega (arith, c.rows.there));
        edge = c.middle.ends ∙ sym (edge_childless (row_of m' s) (row_of m s) (row_kept s c.rows.there));
        point = c.point_new h;
      }

  pub cut_grown : Grown m' i t
  cut_grown = record {
    parted = cut_parted;
    afresh = afresh_same c.points_kept c.records_kept c.rows.kept g.afresh;
    child = λ r h l. elim (either r l) [ before k ↦ child_before r h k | next x e ↦ rw e (child_next x) ];
    parent = cut_parent;
    midpoint = λ u h l. elim (le_or_lt (vertices m) u) [ inr k ↦ midpoint_before u h k | inl k ↦ let e = c.new u k l in rw e (midpoint_new (rw (← e) k)) ];
  }
