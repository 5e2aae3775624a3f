-- The thinned mesh is as sound tables hold it, clause by clause (01, "Sound tables", clauses 2 to 7).
use mathlib.Core.Path.{◌≡◌, refl, sym, ap, ◌∙◌, subst}
use mathlib.Core.Bool.{Bool, true, false}
use Prim.Native.Nat.{ℕ, ◌+◌, ◌≤◌, ◌<◌}
use native.Mathlib.Omega.{arith}
use lib.ListN.{length}
use Rattle.split.specs.declared.row.Row.{Row}
use Rattle.split.specs.declared.row.Ends.{Ends}
use Rattle.split.specs.Split.{Side, left, right, Holds}
use Rattle.split.specs.Row.{corners_of, edge_of, pair, child_of}
use Rattle.split.specs.Midpoint.{between}
use Rattle.tables.specs.declared.record.Record.{Record}
use Rattle.tables.specs.Mesh.{Mesh}
use Rattle.opening.proofs.laws.Counting.{count_below}
use Rattle.sound.specs.Sound.{vertices, rows, point_of, record_of, row_of, childless, place, Parted, Records, Child, Parent, Midpoint, Grown, Conforming}
use Rattle.sound.specs.Follows.{split_vertex}
use Rattle.sound.proofs.laws.Halves.{half, one_middle, parent_there}
use Rattle.coarsen_theory.specs.Free.{Free}
use Rattle.coarsen_theory.specs.Thinned.{stays, keeps, new_vertex, new_row, renamed, new_child, thin_row, moved, thinned}
use Rattle.coarsen_theory.proofs.laws.Sifted.{count_less, count_apart}
use Rattle.coarsen_theory.proofs.laws.Together.{stays_says, says_stays, kept_holds, still_split, split_kept, parent_stays, parent_kept, children_kept, midpoint_row, parents_stay}
use Rattle.coarsen_theory.proofs.laws.Unheld.{unheld}
use Rattle.coarsen_theory.proofs.laws.Renamed.{renamed_child}
use Rattle.coarsen_theory.proofs.laws.Moved.{point_at_lem, record_midpoint, row_at_lem, row_parent, row_child, row_depth, row_corner, row_edge, vertex_from, row_from_lem, vertex_below, row_below, leaf, parent, Fate, fate, midpoint_new, midpoint_old, child_new, child_old, open_later, open_place}
use Rattle.coarsen_theory.proofs.laws.Fresh.{vertices_in, rows_in, initial_record, root_row, thin_afresh}

-- a renamed row but for its first child, and a renamed row's children
thin_childless : (m : Mesh) (gone : ℕ → Bool) (r : ℕ) → childless (thin_row m gone r) ≡ renamed (new_vertex gone) (new_row m gone (row_of m r).parent) 0 (childless (row_of m r))
unfolding thin_row
thin_childless m gone r = refl

thin_child : (m : Mesh) (gone : ℕ → Bool) (q : ℕ) (s : Side) (v : ℕ) → child_of s (thin_row m gone q) (new_row m gone q) (new_vertex gone v) ≡ renamed (new_vertex gone) (new_row m gone q) 0 (child_of s (row_of m q) q v)
unfolding thin_row
thin_child m gone q s v = renamed_child (new_vertex gone) (new_row m gone (row_of m q).parent) (new_child m gone q) (row_of m q) s q (new_row m gone q) v

module _ {m : Mesh} {i t : ℕ} (g : Grown m i t) {gone : ℕ → Bool} (f : Free m i gone) where
  abbrev after : Mesh
  after = thinned m i gone

  -- ---- clause 2

  module _ (few : vertices m < 4294967295) where
    midpoint_second : (v : ℕ) → v < vertices m → stays gone v ≡ true → i ≤ new_vertex gone v → (record_of after (new_vertex gone v)).second ≡ 4294967295 → ⊥
    midpoint_second v l s h e =
        let k = midpoint_old g f v h in
        omega (arith, few, e, ap (λ (x : Record). x.second) (record_midpoint m i gone v k l s), count_below (stays gone) (record_of m v).second, (g.midpoint v k l).older)

    thin_parted : Parted after i t
    thin_parted = record {
      vertices_in = vertices_in g f;
      rows_in = rows_in g f;
      initial = λ v h. ap (λ (x : Record). x.second) (initial_record g f v h) ∙ g.parted.initial v h;
      midpoints = λ x h l e. let s = vertex_from m i gone x l in
          subst (λ (y : ℕ). i ≤ y → (record_of after y).second ≡ 4294967295 → ⊥) s.is (midpoint_second s.place s.there s.passes) h e;
      roots = λ r h. ap (λ (x : Row). x.parent) (root_row g f r h) ∙ g.parted.roots r h;
      children = λ x h l e. let s = row_from_lem m i gone x l in
          subst (λ (y : ℕ). t ≤ y → (row_of after y).parent ≡ y → ⊥) s.is (not_own s.place s.there s.passes) h e;
    }
      where
        not_own : (r : ℕ) → r < rows m → keeps m gone r ≡ true → t ≤ new_row m gone r → (row_of after (new_row m gone r)).parent ≡ new_row m gone r → ⊥
        not_own r l k h e =
            let o = child_old g f r h in
            omega (arith, e, row_parent m i gone r l k, count_less (keeps m gone) (row_of m r).parent r (g.child r o l).older (parent_kept g f r o l k))

  -- ---- clause 4

  -- a vertex that records a kept row's edge does so under the new numbers
  records_new : (v q : ℕ) → q < rows m → keeps m gone q ≡ true → gone v ≡ false → Records m i v (edge_of (row_of m q)) → Records after i (new_vertex gone v) (edge_of (row_of after (new_row m gone q)))
  records_new v q l k e w = record {
    midpoint = midpoint_new g f v w.midpoint;
    there = vertex_below m i gone v w.there (says_stays gone v e);
    ends = ap (λ (x : Record). pair x.first x.second) (record_midpoint m i gone v w.midpoint w.there (says_stays gone v e))
        ∙ ap (λ (x : Ends). pair (new_vertex gone x.small) (new_vertex gone x.large)) w.ends
        ∙ sym (row_edge m i gone q l k);
  }

  -- the first child of a row split at a vertex that stays
  pub row_open : (q : ℕ) → q < rows m → ((row_of m q).child ≡ 0 → ⊥) → gone (split_vertex m q) ≡ false → (row_of after (new_row m gone q)).child ≡ new_row m gone (row_of m q).child
  row_open q l split stay = row_child m i gone q l (split_kept g f q l split stay) ∙ go (fate m gone q)
    where
      go : Fate m gone q → new_child m gone q ≡ new_row m gone (row_of m q).child
      go (leaf w e) = absurd (still_split g f q split stay w)
      go (parent a b e) = e

  module _ (r : ℕ) (k : t ≤ r) (l : r < rows m) (h : keeps m gone r ≡ true) where
    abbrev q : ℕ
    q = (row_of m r).parent

    abbrev own : Child m i r
    own = g.child r k l

    up : (row_of after (new_row m gone r)).parent ≡ new_row m gone q
    up = row_parent m i gone r l h

    onward : (row_of after (new_row m gone q)).child ≡ new_row m gone (row_of m q).child
    onward = row_open q (parent_there g r k l) own.split (parent_stays g f r k l h)

    vertex_stays : gone own.vertex ≡ false
    vertex_stays = ap gone (one_middle g own.vertex (split_vertex m q) own.middle (half g q (parent_there g r k l) own.split left).records) ∙ parent_stays g f r k l h

    -- it stays on its side
    pub side_same : new_row m gone r ≡ place (g.child r k l).side (row_of after (row_of after (new_row m gone r)).parent).child
    side_same =
        ap (new_row m gone) own.here
        ∙ open_place g f q (parent_there g r k l) own.split (parent_stays g f r k l h) own.side
        ∙ sym (ap (place own.side) (ap (λ (x : ℕ). (row_of after x).child) up ∙ onward))

    thin_child_row : Child after i (new_row m gone r)
    thin_child_row = record {
      older = rw up (count_less (keeps m gone) q r own.older (parent_kept g f r k l h));
      split = rw (up, onward) (λ e. omega (arith, open_later g f q (parent_there g r k l) own.split (parent_stays g f r k l h)));
      side = own.side;
      here = side_same;
      vertex = new_vertex gone own.vertex;
      middle = rw up (records_new own.vertex q (parent_there g r k l) (parent_kept g f r k l h) vertex_stays own.middle);
      is = ap childless (row_at_lem m i gone r l h)
          ∙ thin_childless m gone r
          ∙ ap (renamed (new_vertex gone) (new_row m gone q) 0) own.is
          ∙ sym (thin_child m gone q own.side own.vertex)
          ∙ ap (λ (x : Row). child_of own.side x (new_row m gone q) (new_vertex gone own.vertex)) (sym (row_at_lem m i gone q (parent_there g r k l) (parent_kept g f r k l h)))
          ∙ ap (λ (x : ℕ). child_of own.side (row_of after x) x (new_vertex gone own.vertex)) (sym up);
      shallow = rw (row_depth m i gone r l h) own.shallow;
    }

  -- ---- clause 5

  thin_parent_row : (q : ℕ) → q < rows m → ((row_of m q).child ≡ 0 → ⊥) → gone (split_vertex m q) ≡ false → Parent after t (new_row m gone q)
  thin_parent_row q l split stay =
      let e = row_open q l split stay in
      let c = (row_of m q).child in
      let p = g.parent q l split in
      let next = open_place g f q l split stay right in
      record {
        later = rw e (open_later g f q l split stay);
        past = rw e (child_new g f c p.past);
        both = rw (e, ← next) (row_below m i gone (c + 1) p.both (children_kept g f q l split stay right));
        first = rw e (row_parent m i gone c (omega (arith, p.both)) (children_kept g f q l split stay left) ∙ ap (new_row m gone) p.first);
        second = rw (e, ← next) (row_parent m i gone (c + 1) p.both (children_kept g f q l split stay right) ∙ ap (new_row m gone) p.second);
      }

  thin_parent : (q : ℕ) → q < rows m → keeps m gone q ≡ true → ((row_of after (new_row m gone q)).child ≡ 0 → ⊥) → Parent after t (new_row m gone q)
  thin_parent q l k d = go (fate m gone q)
    where
      go : Fate m gone q → Parent after t (new_row m gone q)
      go (leaf w e) = absurd (d (row_child m i gone q l k ∙ e))
      go (parent s stay e) = thin_parent_row q l s stay

  -- ---- clause 6

  module _ (v : ℕ) (k : i ≤ v) (l : v < vertices m) (s : stays gone v ≡ true) where
    old : Midpoint m i v
    old = g.midpoint v k l

    same : record_of after (new_vertex gone v) ≡ moved gone (record_of m v)
    same = record_midpoint m i gone v k l s

    first_stays : stays gone (record_of m v).first ≡ true
    first_stays = says_stays gone _ (parents_stay g f v k l (stays_says gone v s)).0

    second_stays : stays gone (record_of m v).second ≡ true
    second_stays = says_stays gone _ (parents_stay g f v k l (stays_says gone v s)).1

  -- two midpoints that stay, with one record under the new numbers
  one_record : (u v : ℕ) → i ≤ u → u < vertices m → stays gone u ≡ true → i ≤ v → v < vertices m → stays gone v ≡ true → record_of after (new_vertex gone u) ≡ record_of after (new_vertex gone v) → u ≡ v
  one_record u v ku lu su kv lv sv e =
      let z : moved gone (record_of m u) ≡ moved gone (record_of m v) = sym (same u ku lu su) ∙ e ∙ same v kv lv sv in
      let a = count_apart (stays gone) (record_of m u).first (record_of m v).first (first_stays u ku lu su) (first_stays v kv lv sv) (ap (λ (x : Record). x.first) z) in
      let b = count_apart (stays gone) (record_of m u).second (record_of m v).second (second_stays u ku lu su) (second_stays v kv lv sv) (ap (λ (x : Record). x.second) z) in
      (g.midpoint v kv lv).only u ku lu (λ j. record { first = a j; second = b j })

  thin_midpoint : (v : ℕ) → i ≤ v → v < vertices m → stays gone v ≡ true → Midpoint after i (new_vertex gone v)
  thin_midpoint v k l s =
      let w = g.midpoint v k l in
      let e = same v k l s in
      let x = (record_of m v).first in
      let y = (record_of m v).second in
      let sx = first_stays v k l s in
      let sy = second_stays v k l s in
      let r = midpoint_row g f v k l (stays_says gone v s) in
      let stay : gone (split_vertex m r.row) ≡ false = ap gone r.is ∙ stays_says gone v s in
      record {
        rising = rw e (count_less (stays gone) x y w.rising sx);
        older = rw e (count_less (stays gone) y v w.older sy);
        only = λ u h z d. let o = vertex_from m i gone u z in
            subst (λ (a : ℕ). i ≤ a → record_of after a ≡ record_of after (new_vertex gone v) → a ≡ new_vertex gone v) o.is
            (λ h' d'. ap (new_vertex gone) (one_record o.place v (midpoint_old g f o.place h') o.there o.passes k l s d')) h d;
        row = new_row m gone r.row;
        there = row_below m i gone r.row r.there r.kept;
        split = rw (row_open r.row r.there r.split stay) (λ z. omega (arith, open_later g f r.row r.there r.split stay));
        edge = ap (λ (a : Record). pair a.first a.second) e ∙ ap (λ (a : Ends). pair (new_vertex gone a.small) (new_vertex gone a.large)) r.edge ∙ sym (row_edge m i gone r.row r.there r.kept);
        point = point_at_lem m i gone v l s
            ∙ w.point
            ∙ sym (ap (λ (a : Record). between (point_of after a.first) (point_of after a.second)) e
            ∙ rw (point_at_lem m i gone x (omega (arith, w.rising, w.older)) sx, point_at_lem m i gone y (omega (arith, w.older)) sy));
      }

  -- ---- clauses 2 to 6 together

  pub thin_grown : vertices m < 4294967295 → length m.points ≡ vertices m → Grown after i t
  thin_grown few long = record {
    parted = thin_parted few;
    afresh = thin_afresh g f long;
    child = λ x h l. let s = row_from_lem m i gone x l in
        subst (λ (y : ℕ). t ≤ y → Child after i y) s.is (λ h'. thin_child_row s.place (child_old g f s.place h') s.there s.passes) h;
    parent = λ x l d. let s = row_from_lem m i gone x l in
        subst (λ (y : ℕ). ((row_of after y).child ≡ 0 → ⊥) → Parent after t y) s.is (thin_parent s.place s.there s.passes) d;
    midpoint = λ x h l. let s = vertex_from m i gone x l in
        subst (λ (y : ℕ). i ≤ y → Midpoint after i y) s.is (λ h'. thin_midpoint s.place (midpoint_old g f s.place h') s.there s.passes) h;
  }

  -- ---- clause 7

  -- a kept row holds what it holds under the new numbers
  holds_old : (r v : ℕ) → r < rows m → keeps m gone r ≡ true → stays gone v ≡ true → Holds 3 (corners_of (row_of after (new_row m gone r))) (new_vertex gone v) → Holds 3 (corners_of (row_of m r)) v
  holds_old r v l k s h = record {
    place = h.place;
    inside = h.inside;
    is = count_apart (stays gone) _ v (says_stays gone _ (kept_holds m gone r k (record { place = h.place; inside = h.inside; is = refl }))) s (sym (row_corner m i gone r l k h.place) ∙ h.is);
  }

  module _ (o : Conforming m i) where
    leaf_free : (r v : ℕ) → r < rows m → keeps m gone r ≡ true → i ≤ v → v < vertices m → stays gone v ≡ true → (row_of after (new_row m gone r)).child ≡ 0
        → Holds 3 (corners_of (row_of after (new_row m gone r))) (record_of after (new_vertex gone v)).first → Holds 3 (corners_of (row_of after (new_row m gone r))) (record_of after (new_vertex gone v)).second → ⊥
    leaf_free r v l k h b s z hx hy = go (fate m gone r)
      where
        go : Fate m gone r → ⊥
        go (leaf w e) =
            unheld g o f v h b (stays_says gone v s) r l w
            (holds_old r (record_of m v).first l k (first_stays v h b s) (rw (ap (λ (x : Record). x.first) (same v h b s)) at hx))
            (holds_old r (record_of m v).second l k (second_stays v h b s) (rw (ap (λ (x : Record). x.second) (same v h b s)) at hy))
        go (parent d stay e) = omega (arith, z, row_child m i gone r l k, e, open_later g f r l d stay)

    pub thin_conforming : Conforming after i
    thin_conforming = record {
      leaf = λ q v a z h b hx hy. let r = row_from_lem m i gone q a in
          let s = vertex_from m i gone v b in
          subst (λ (y : ℕ). (row_of after y).child ≡ 0 → Holds 3 (corners_of (row_of after y)) (record_of after v).first → Holds 3 (corners_of (row_of after y)) (record_of after v).second → ⊥) r.is
          (subst (λ (u : ℕ). i ≤ u → (row_of after (new_row m gone r.place)).child ≡ 0 → Holds 3 (corners_of (row_of after (new_row m gone r.place))) (record_of after u).first → Holds 3 (corners_of (row_of after (new_row m gone r.place))) (record_of after u).second → ⊥) s.is
          (λ h'. leaf_free r.place s.place r.there r.passes (midpoint_old g f s.place h') s.there s.passes) h) z hx hy;
    }
