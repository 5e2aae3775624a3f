-- One leaf split in a grown mesh, which need not conform: at the vertex that records its edge, or at a new one (02, L10: the completion loop splits single leaves).
use mathlib.Core.Path.{◌≡◌, refl, sym, ◌∙◌}
use mathlib.Core.List.{List, [], ◌∷◌, ◌++◌}
use Prim.Native.Nat.{ℕ, ◌+◌, ◌<◌}
use native.Mathlib.Omega.{arith}
use lib.ListN.{length, length-append, get_or-append}
use lib.Seq.{take-append-le}
use Rattle.split.specs.declared.row.Row.{Row}
use Rattle.split.specs.declared.row.Ends.{Ends}
use Rattle.split.specs.declared.point.Point.{Point}
use Rattle.split.specs.Row.{edge_of}
use Rattle.tables.specs.declared.record.Record.{Record}
use Rattle.tables.specs.Layout.{no_point, no_record}
use Rattle.tables.specs.Mesh.{Mesh}
use Rattle.sound.specs.Sound.{vertices, rows, row_of, Records, Grown}
use Rattle.run.specs.Skeleton.{Skeleton, meshed}
use Rattle.run.specs.Ready.{Ready, Growing}
use Rattle.run.specs.Run.{cut, record_for}
use Rattle.run.proofs.laws.Cuts.{RowsCut, Cuts, edge_spread}
use Rattle.run.proofs.laws.Listed.{append_first, cut_length, cut_old, cut_own, cut_first, cut_second, cut_kept}
use Rattle.run.proofs.laws.Points.{halfway, points_length}

-- a leaf that may be split
pub record Ripe (m : Mesh) (e : Ends) (s : ℕ) : Type 0 where
  pub there : s < rows m
  pub leaf : (row_of m s).child ≡ 0
  pub shallow : (row_of m s).depth < 60
  pub edge : edge_of (row_of m s) ≡ e

-- its rows, whatever becomes of the vertices
rows_cut : {m : Mesh} {i t s : ℕ} {e : Ends} (v : ℕ) (P : List Point) (R : List Record) → Grown m i t → Ripe m e s → RowsCut m (record { points = P; records = R; rows = cut v m.rows s }) t s v
rows_cut {m} {t = t} {s = s} v P R g r = record {
  there = r.there;
  leaf = r.leaf;
  shallow = r.shallow;
  more = cut_length v m.rows s;
  old = cut_old v m.rows s;
  own = cut_own v m.rows s r.there;
  first = cut_first v m.rows s;
  second = cut_second v m.rows s;
  kept = cut_kept v m.rows s t g.parted.rows_in;
}

-- ---- where its edge has its midpoint already

-- the same vertices, and the rows W
abbrev pub with : Mesh → List Row → Mesh
with m W = record { points = m.points; records = m.records; rows = W }

pub cuts_again : {m : Mesh} {i t v s : ℕ} {e : Ends} → Grown m i t → vertices m < 4294967295 → Records m i v e → Ripe m e s → Cuts m (with m (cut v m.rows s)) i t s v
cuts_again {m} {i} {t} {v} {s} g few w r = record {
  rows = rows_cut v m.points m.records g r;
  few = few;
  vertices_kept = omega arith;
  record_old = λ u h. refl;
  point_old = λ u h. refl;
  points_kept = refl;
  records_kept = refl;
  middle = rw r.edge (record { midpoint = w.midpoint; there = w.there; ends = w.ends });
  new = λ u h l. absurd (omega arith);
  only = λ u h. absurd (omega (arith, w.there));
  point_new = λ h. absurd (omega (arith, w.there));
}

-- ---- with a new vertex

pub growing : {P : List Point} {i t : ℕ} {S : Skeleton} → Ready P i t S → Growing P i t S
growing y = record { based = y.based; grown = y.grown }

-- one vertex more, the midpoint of e, and the rows W
abbrev pub wider : List Point → Skeleton → Ends → List Row → Mesh
wider P S e W = record { points = (meshed P S).points ++ (halfway (meshed P S).points (record_for e) ∷ []); records = S.records ++ (record_for e ∷ []); rows = W }

module _ {P : List Point} {i t : ℕ} {S : Skeleton} (y : Growing P i t S) (few : length S.records + 1 < 4294967295) where
  abbrev m : Mesh
  m = meshed P S

  -- where no vertex records the edge
  pub cuts_new : (e : Ends) (s : ℕ) → ((u : ℕ) → Records (meshed P S) i u e → ⊥) → Ripe (meshed P S) e s → Cuts (meshed P S) (wider P S e (cut (length S.records) S.rows s)) i t s (length S.records)
  cuts_new e s free r =
      let g = y.grown in
      let size = points_length P S y.based in
      let total = length-append S.records (record_for e ∷ []) in
      let newest = append_first S.records (length S.records) (record_for e) no_record [] refl in
      let spread = rw r.edge at (edge_spread g s r.there) in
      record {
        rows = rows_cut (length S.records) _ _ g r;
        few = omega (arith, few);
        vertices_kept = omega (arith, total);
        record_old = λ u h. get_or-append S.records _ no_record u h;
        point_old = λ u h. get_or-append m.points _ no_point u (omega (arith, size));
        points_kept = take-append-le i m.points _ (omega (arith, size, g.parted.vertices_in));
        records_kept = take-append-le i S.records _ g.parted.vertices_in;
        middle = record { midpoint = g.parted.vertices_in; there = omega (arith, total); ends = rw newest (sym r.edge) };
        new = λ u h l. omega (arith, total);
        only = λ u h k l x. free u (record { midpoint = k; there = l; ends = x ∙ r.edge });
        point_new = λ h.
            append_first m.points (length S.records) (halfway m.points (record_for e)) no_point [] size
            ∙ rw (newest, get_or-append m.points (halfway m.points (record_for e) ∷ []) no_point e.small (omega (arith, size, spread.rising, spread.below)), get_or-append m.points (halfway m.points (record_for e) ∷ []) no_point e.large (omega (arith, size, spread.below)));
      }
