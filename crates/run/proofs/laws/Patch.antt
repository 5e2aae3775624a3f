-- The split of a patch that no leaf blocks: sound tables stay so, and exactly the leaves of the patch are split.
use Rattle.std.proofs.Common.{None}
use mathlib.Core.Path.{◌≡◌, refl, sym, ap, subst, ◌∙◌}
use mathlib.Core.List.Memᴰ
use mathlib.Core.List.{List, [], ◌∷◌, ◌++◌, Memᴰ}
use mathlib.Core.Logic.{◌⊎◌, inl, inr}
use Prim.Native.Nat.{ℕ, ◌+◌, ◌≤◌, ◌<◌}
use native.Mathlib.Omega.{arith}
use lib.ListN.{length, length-append}
use Rattle.split.specs.declared.row.Row.{Row}
use Rattle.split.specs.declared.row.Ends.{Ends}
use Rattle.split.specs.declared.point.Point.{Point}
use Rattle.split.specs.Split.{far, Holds}
use Rattle.split.specs.Row.{corners_of, tag_of, edge_of}
use Rattle.split.proofs.laws.Tags.{tag_range}
use Rattle.split.proofs.laws.Children.{not_both, from_parent}
use Rattle.split.proofs.laws.Rows.{vertices_step}
use Rattle.tables.specs.Mesh.{Mesh}
use Rattle.sound.specs.Sound.{vertices, rows, record_of, row_of, Records, Grown}
use Rattle.sound.proofs.laws.Leaves.{leaf_whole}
use Rattle.sound.proofs.laws.Placed.{placed, row_distinct}
use Rattle.run.specs.Skeleton.{Skeleton, row_in, meshed}
use Rattle.run.specs.Ready.{Ready}
use Rattle.run.specs.Run.{holders, blocking, cut, cut_all, record_for, split_patch}
use Rattle.run.proofs.laws.Cuts.{Cuts, cut_grown}
use Rattle.run.proofs.laws.Points.{points_next}
use Rattle.run.proofs.laws.Single.{Ripe, with, cuts_again, growing, wider as wide, cuts_new}
use Rattle.run.proofs.laws.Holders.{holders_only, holders_has, Once, one, holders_once, clear_edges}
use Rattle.run.proofs.laws.Edge.{Both, both_ends, own_both, edge_shallow}
use Rattle.run.proofs.laws.Patched.{Remains, Born, Patched, patched_none, patched_cut}

-- ---- leaves whose edge has its midpoint already

ripe_after : {m n : Mesh} {i t s v q : ℕ} {e : Ends} → Cuts m n i t s v → (q ≡ s → ⊥) → Ripe m e q → Ripe n e q
ripe_after {q = q} c d r =
    let same = c.rows.old q r.there d in
    record { there = omega (arith, r.there, c.rows.more); leaf = rw same r.leaf; shallow = rw same r.shallow; edge = rw same r.edge }

cut_rest : (ss : List ℕ) {m : Mesh} {i t v : ℕ} {e : Ends} → Once ss → Grown m i t → vertices m < 4294967295 → Records m i v e → ((s : ℕ) → Memᴰ s ss → Ripe m e s) → Patched m (with m (cut_all v m.rows ss)) i t v ss
unfolding cut_all
cut_rest [] {v = v} o g few w r = patched_none v g
cut_rest (s ∷ ss) {m} {i} {t} {v} {e} o g few w r = go o (cut_rest ss {m = with m (cut v m.rows s)} {i = i} {t = t} {v = v} {e = e})
  where
    c : Cuts m (with m (cut v m.rows s)) i t s v
    c = cuts_again g few w (r s (Memᴰ.head refl))

    go : Once (s ∷ ss)
        → (Once ss → Grown (with m (cut v m.rows s)) i t → vertices m < 4294967295 → Records (with m (cut v m.rows s)) i v e → ((q : ℕ) → Memᴰ q ss → Ripe (with m (cut v m.rows s)) e q)
        → Patched (with m (cut v m.rows s)) (with m (cut_all v (cut v m.rows s) ss)) i t v ss)
        → Patched m (with m (cut_all v (cut v m.rows s) ss)) i t v (s ∷ ss)
    go (one apart rest) deeper =
        patched_cut g c
        (deeper rest (cut_grown g c) few (record { midpoint = w.midpoint; there = w.there; ends = w.ends }) (λ q k. ripe_after c (λ x. apart (rw (← x) k)) (r q (Memᴰ.tail k))))
        apart (λ q k. (r q (Memᴰ.tail k)).there)

-- ---- the first leaf, with the new vertex

module _ {P : List Point} {i t : ℕ} {S : Skeleton} (y : Ready P i t S) (few : length S.records + 1 < 4294967295) where
  abbrev pub m : Mesh
  m = meshed P S

  -- one vertex more
  abbrev pub wider : Ends → List Row → Mesh
  wider e W = wide P S e W

  cuts_first : (e : Ends) (s : ℕ) → Ripe m e s → Cuts m (wider e (cut (length S.records) S.rows s)) i t s (length S.records)
  cuts_first e s r = cuts_new (growing y) few e s (λ u w. leaf_whole y.conforming s u r.there r.leaf (rw r.edge w)) r

  cut_all_lem : (e : Ends) (ss : List ℕ) → Once ss → (s : ℕ) → Memᴰ s ss → ((q : ℕ) → Memᴰ q ss → Ripe m e q) → Patched m (wider e (cut_all (length S.records) S.rows ss)) i t (length S.records) ss
  unfolding cut_all
  cut_all_lem e [] o s k r = absurd (Memᴰ.not-nil k)
  cut_all_lem e (q ∷ ss) (one apart rest) s k r =
      let c = cuts_first e q (r q (Memᴰ.head refl)) in
      let w = c.middle in
      let z = (r q (Memᴰ.head refl)).edge in
      patched_cut y.grown c
      (cut_rest ss rest (cut_grown y.grown c) (omega (arith, few, length-append S.records (record_for e ∷ []))) (record { midpoint = w.midpoint; there = w.there; ends = w.ends ∙ z }) (λ x j. ripe_after c (λ d. apart (rw (← d) j)) (r x (Memᴰ.tail j))))
      apart (λ x j. (r x (Memᴰ.tail j)).there)

  -- ---- the whole patch of a leaf that no leaf blocks

  module _ (r : ℕ) (there : r < length S.rows) (leaf : (row_in S.rows r).child ≡ 0) (shallow : (row_in S.rows r).depth < 60) (clear : blocking S.rows r ≡ None) where
    abbrev pub e : Ends
    e = edge_of (row_in S.rows r)

    abbrev pub hs : List ℕ
    hs = holders S.rows e

    ripe : (q : ℕ) → Memᴰ q hs → Ripe m e q
    ripe q k =
        let h = holders_only S.rows e q k in
        record {
          there = h.there;
          leaf = h.holding.leaf;
          shallow = edge_shallow y.grown q r h.there there (record { small = h.holding.small; large = h.holding.large }) shallow;
          edge = clear_edges S.rows e hs clear q k;
        }

    own : Memᴰ r hs
    own = let b = own_both (row_in S.rows r) in holders_has S.rows e r (record { there = there; holding = record { leaf = leaf; small = b.small; large = b.large } })

    pub patched_wide : Patched m (wider e (cut_all (length S.records) S.rows hs)) i t (length S.records) hs
    patched_wide = cut_all_lem e hs (holders_once S.rows e) r own ripe

    pub patch_is : meshed P (split_patch S r) ≡ wider e (cut_all (length S.records) S.rows hs)
    unfolding split_patch
    patch_is = λ j. record { points = points_next P S y.based (record_for e) j; records = S.records ++ (record_for e ∷ []); rows = cut_all (length S.records) S.rows hs }

    pub patch_patched : Patched m (meshed P (split_patch S r)) i t (length S.records) hs
    patch_patched = rw patch_is patched_wide

    pub patch_records : (split_patch S r).records ≡ S.records ++ (record_for e ∷ [])
    unfolding split_patch
    patch_records = refl

    -- ---- no leaf holds both parents of a midpoint

    abbrev pub n : Mesh
    n = wider e (cut_all (length S.records) S.rows hs)

    -- what a child holds of older vertices its parent holds
    older_held : (q u : ℕ) (b : Born m n (length S.records) hs q) → u < length S.records → Holds 3 (corners_of (row_of n q)) u → Holds 3 (corners_of (row_of m b.parent)) u
    older_held q u b l h =
        let row = row_of m b.parent in
        elim (from_parent 3 (corners_of row) (length S.records) b.side (tag_of row) (tag_range (tag_of row)).1 (omega arith) (rw (b.corners ∙ vertices_step b.side row b.parent (length S.records)) at h))
        [ inl x ↦ absurd (omega arith) | inr k ↦ k ]

    -- no child holds both ends of its parent's edge
    child_misses : (q : ℕ) → Born m n (length S.records) hs q → Holds 3 (corners_of (row_of n q)) e.small → Holds 3 (corners_of (row_of n q)) e.large → ⊥
    unfolding edge_of
    child_misses q b h k =
        let g = y.grown in
        let row = row_of m b.parent in
        let z = ripe b.parent b.listed in
        let same = b.corners ∙ vertices_step b.side row b.parent (length S.records) in
        let p = placed g b.parent z.there in
        let both : Both (row_of n q) e = record { small = h; large = k } in
        let (x, w) = both_ends (row_of n q) row.v0 (far (tag_of row) (corners_of row)) (subst (Both (row_of n q)) (sym z.edge) both) in
        not_both 3 (corners_of row) (length S.records) b.side (tag_of row) (tag_range (tag_of row)).1 (omega arith) (row_distinct g b.parent z.there)
        (λ o. omega (arith, p.held o.place o.inside, o.is)) (rw same at x) (rw same at w)

    kept_corners : (q : ℕ) → q < rows m → corners_of (row_of n q) ≡ corners_of (row_of m q)
    kept_corners q h = ap corners_of (patched_wide.grows.row q h)

    -- a leaf and an old midpoint, a leaf and the new one
    pub old_apart : (q v : ℕ) → i ≤ v → v < length S.records → Remains m hs q ⊎ Born m n (length S.records) hs q → Holds 3 (corners_of (row_of n q)) (record_of m v).first → Holds 3 (corners_of (row_of n q)) (record_of m v).second → ⊥
    old_apart q v h l (inl w) a b = y.conforming.leaf q v w.there w.leaf h l (rw (kept_corners q w.there) at a) (rw (kept_corners q w.there) at b)
    old_apart q v h l (inr w) a b =
        let p = y.grown.midpoint v h l in
        let z = ripe w.parent w.listed in
        y.conforming.leaf w.parent v z.there z.leaf h l (older_held q (record_of m v).first w (omega (arith, p.rising, p.older)) a) (older_held q (record_of m v).second w (omega (arith, p.older)) b)

    pub new_apart : (q : ℕ) → Remains m hs q ⊎ Born m n (length S.records) hs q → Holds 3 (corners_of (row_of n q)) e.small → Holds 3 (corners_of (row_of n q)) e.large → ⊥
    new_apart q (inl w) a b = w.other (holders_has S.rows e q (record { there = w.there; holding = record { leaf = w.leaf; small = rw (kept_corners q w.there) at a; large = rw (kept_corners q w.there) at b } }))
    new_apart q (inr w) a b = child_misses q w a b
