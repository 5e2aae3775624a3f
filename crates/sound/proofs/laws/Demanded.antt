-- An accepted opening gives the colours of Algorithm 2 and the order and tag of Definition 2 (demand 2).
use Rattle.std.proofs.Common.{Result, Ok, Err}
use mathlib.Core.Path.{◌≡◌, refl, sym, ap, subst, ◌∙◌}
use mathlib.Core.List.{List}
use Prim.Native.Nat.{ℕ, ◌/◌, ◌<◌}
use native.Mathlib.Omega.{arith}
use lib.ListN.{length}
use lib.Ieee.{Float}
use Rattle.tables.specs.declared.layout.Counts.{Counts}
use Rattle.tables.specs.declared.refusal.Refusal.{Refusal}
use Rattle.tables.specs.Layout.{point_at, record_at, row_at, started}
use Rattle.tables.specs.Mesh.{Lent, Mesh, laid}
use Rattle.tables.proofs.laws.View.{mesh_row, mesh_record, mesh_point}
use Rattle.intake.specs.Cells.{Cells, quads}
use Rattle.intake.specs.Verdict.{Verdict}
use Rattle.opening.specs.Colours.{colours, largest}
use Rattle.opening.specs.Order.{given, root_of}
use Rattle.opening.specs.Opening as opening
use Rattle.opening.specs.Opening.{initial, judged, opened_mesh, verdict_on, Opens}
use Rattle.opening.specs.Demanded.{AsRoot, OpenedAsDemanded}
use Rattle.opening.proofs.laws.Proper.{colours_most, colours_reached}
use Rattle.opening.proofs.laws.Greedy.{colours_greedy}
use Rattle.opening.proofs.laws.Sorted.{sorted_of, sorted_has, sorted_started}
use Rattle.sound.specs.Sound.{point_of, record_of, row_of}
use Rattle.sound.proofs.laws.Tested.{Allowed, allowed, tested_named}
use Rattle.sound.proofs.laws.Ordered.{Proper, proper_corners, sorted_climb}
use Rattle.sound.proofs.laws.Arranged.{rearranged}
use Rattle.sound.proofs.laws.Reopened.{shade, root_among, named_proper}
use Rattle.sound.proofs.laws.Opened.{opened_point, opened_record, opened_row, opened_mesh_lem, some_element, opened_sound}

-- ---- a root's row

module _ (n : ℕ) {E : Cells} (d : Proper (shade E n) E) where
  root_demanded : (k : ℕ) → k < E.count → AsRoot E (largest (colours E n)) (shade E n) k (root_among n E k)
  unfolding root_of
  root_demanded k h =
      let r = rearranged (sorted_climb d k h) (largest (colours E n)) in
      record {
        of = λ v x. sorted_of (shade E n) (given E k) v (r.of v x);
        has = λ v x. r.has v (sorted_has (shade E n) (given E k) v x);
        order = sorted_started (shade E n) (given E k) (proper_corners d k h) (largest (colours E n)) (λ p l. colours_most E n _);
        beside = refl;
      }

-- ---- the tables

-- the counts of what is opened
abbrev pub size : List Float → List ℕ → Counts
size F E = started (length F / 3) (length E / 4)

module _ (F : List Float) (E : List ℕ) (lp lv lr : ℕ) (passed : judged F E lp lv lr ≡ Ok tt) where
  abbrev table : Lent
  table = laid (opened_mesh F (quads E)) lp lv lr

  abbrev C : Cells
  C = quads E

  passes : Allowed F E lp lv lr
  passes = allowed F E lp lv lr passed

  -- at least one element, and so a vertex
  some_vertex : 0 < length F / 3
  some_vertex = omega (arith, (tested_named passes.tests).there 0 0 (omega (arith, some_element F E lp lv lr passes)) (omega arith))

  -- what the opened mesh has at a number is what the tables have there
  pub table_row : (k : ℕ) → k < length E / 4 → row_at table.rows k ≡ root_among (length F / 3) C k
  table_row k h = sym (mesh_row table (size F E) k h) ∙ ap (λ (m : Mesh). row_of m k) (opened_mesh_lem F E lp lv lr passes) ∙ opened_row F C k h

  table_record : (v : ℕ) → v < length F / 3 → record_at table.records v ≡ initial (shade C (length F / 3) v)
  table_record v h = sym (mesh_record table (size F E) v h) ∙ ap (λ (m : Mesh). record_of m v) (opened_mesh_lem F E lp lv lr passes) ∙ opened_record F C v h

  table_point_lem : (v : ℕ) → v < length F / 3 → point_at table.points v ≡ point_at F v
  table_point_lem v h = sym (mesh_point table (size F E) v h) ∙ ap (λ (m : Mesh). point_of m v) (opened_mesh_lem F E lp lv lr passes) ∙ opened_point F C v h

  laid_demanded : OpenedAsDemanded F E (size F E) table
  laid_demanded =
      let (v, there, reached) = colours_reached C (length F / 3) some_vertex in
      record {
        vertices = refl;
        rows = refl;
        point = table_point_lem;
        colour = shade C (length F / 3);
        greedy = colours_greedy C (length F / 3);
        record_is = table_record;
        largest = largest (colours C (length F / 3));
        largest_is = record { most = λ u l. colours_most C (length F / 3) u; vertex = v; there = there; reached = reached };
        row = λ k h. subst (AsRoot C (largest (colours C (length F / 3))) (shade C (length F / 3)) k) (sym (table_row k h)) (root_demanded (length F / 3) (named_proper (tested_named passes.tests)) k h);
        unused = (opened_sound F E lp lv lr passed).unused;
      }

-- ---- opening

refused_never : {X : Type 0} {c : Counts} {r : Refusal} → ◌≡◌ {A = Result Counts Refusal} (Ok c) (Err r) → X
refused_never e = let z : ◌≡◌ {A = ℕ} 0 1 = cc in absurd (omega arith)

same_counts : {a b : Counts} → ◌≡◌ {A = Result Counts Refusal} (Ok a) (Ok b) → a ≡ b
same_counts e = cc

-- what holds of the opened mesh laid into the lent tables holds after an accepted opening
pub opens_laid : (P : Lent → Counts → Type 0) {F : List Float} {E : List ℕ} {t : Lent} {c : Counts} {t' : Lent} → Opens F E t (Ok c) t'
    → ((lp lv lr : ℕ) → judged F E lp lv lr ≡ Ok tt → P (laid (opened_mesh F (quads E)) lp lv lr) (size F E)) → P t' c
opens_laid P {F} {E} {t} {c} {t'} o h = go (verdict_on F E t) refl o.answers o.leaves
  where
    go : (v : Verdict) → verdict_on F E t ≡ v → Ok c ≡ opening.answer v (length F / 3) (length E / 4) → t' ≡ opening.tables v F E t → P t' c
    go (Err r) e a l = refused_never a
    go (Ok x) e a l = subst (P t') (sym (same_counts a)) (subst (λ (x : Lent). P x (size F E)) (sym l) (h (length t.points) (length t.records) (length t.rows) e))

-- demand 2, of opening
pub opens_demanded : {F : List Float} {E : List ℕ} {t : Lent} {c : Counts} {t' : Lent} → Opens F E t (Ok c) t' → OpenedAsDemanded F E c t'
opens_demanded {F} {E} o = opens_laid (λ t c. OpenedAsDemanded F E c t) o (laid_demanded F E)
