-- The stored tables are the opened mesh, laid out: the colours in the table of colours are those of Algorithm 2.
use mathlib.Core.Path.{◌≡◌, ap, ◌∙◌, fun_ext}
use mathlib.Core.List.{List}
use Prim.Native.Nat.{ℕ, ◌/◌}
use lib.ListN.{length, get_or}
use lib.Ieee.{Float}
use Rattle.tables.specs.declared.layout.Counts.{Counts}
use Rattle.tables.specs.Layout.{no_float, point_at, point_cells, record_cells, row_cells, started}
use Rattle.tables.specs.Mesh.{Lent, padded, flat, up_to, laid}
use Rattle.intake.specs.Cells.{Cells, quads}
use Rattle.tables.specs.Report.{done}
use Rattle.opening.specs.Colours.{colours, largest}
use Rattle.opening.specs.Order.{root_of}
use Rattle.std.specs.Prelude.{Ok, Err}
use Rattle.tables.specs.declared.refusal.Refusal.{Refusal}
use Rattle.opening.specs.Opening.{initial, opened_mesh, verdict_on, lent, Opens}
use Rattle.opening.specs.Scratch.{Painted, colour_in}

pub colours_stored : {E : Cells} {paint : List ℕ} {n : ℕ} → Painted E n paint → colour_in paint ≡ (λ v. get_or (colours E n) v 0)
colours_stored p = fun_ext p.colour

-- what the three stores leave
pub record Stored (F : List Float) (E : Cells) (paint : List ℕ) (N lp lv lr : ℕ) (t : Lent) : Type 0 where
  pub points : t.points ≡ padded lp no_float (flat point_cells (up_to (point_at F) (length F / 3)))
  pub records : t.records ≡ padded lv 0 (flat record_cells (up_to (λ v. initial (colour_in paint v)) (length F / 3)))
  pub rows : t.rows ≡ padded lr 0 (flat row_cells (up_to (root_of N (colour_in paint) E) E.count))

pub opened_laid : {F : List Float} {E : Cells} {paint : List ℕ} {N lp lv lr : ℕ} {t : Lent} → Painted E (length F / 3) paint → N ≡ largest (colours E (length F / 3)) → Stored F E paint N lp lv lr t
    → t ≡ laid (opened_mesh F E) lp lv lr
unfolding opened_mesh laid
opened_laid {F} {E} {paint} {N} {lp} {lv} {lr} p n s = λ i. record { points = s.points i; records = (s.records ∙ records) i; rows = (s.rows ∙ rows) i }
  where
    records : padded lv 0 (flat record_cells (up_to (λ v. initial (colour_in paint v)) (length F / 3)))
        ≡ padded lv 0 (flat record_cells (up_to (λ v. initial (get_or (colours E (length F / 3)) v 0)) (length F / 3)))
    records = ap (λ (f : ℕ → ℕ). padded lv 0 (flat record_cells (up_to (λ v. initial (f v)) (length F / 3)))) (colours_stored p)

    rows : padded lr 0 (flat row_cells (up_to (root_of N (colour_in paint) E) E.count))
        ≡ padded lr 0 (flat row_cells (up_to (root_of (largest (colours E (length F / 3))) (λ v. get_or (colours E (length F / 3)) v 0) E) E.count))
    rows =
        ap (λ (f : ℕ → ℕ). padded lr 0 (flat row_cells (up_to (root_of N f E) E.count))) (colours_stored p)
        ∙ ap (λ (m : ℕ). padded lr 0 (flat row_cells (up_to (root_of m (λ v. get_or (colours E (length F / 3)) v 0) E) E.count))) n

-- ---- the promise of opening, from the verdict

pub opens_refused : {F points points' : List Float} {E records records' rows rows' : List ℕ} {x : Refusal} → verdict_on F E (lent points records rows) ≡ Err x
    → points' ≡ points → records' ≡ records → rows' ≡ rows → Opens F E (lent points records rows) (Err x) (lent points' records' rows')
opens_refused e a b c = record { answers = rw e; reports = rw e; leaves = rw e (λ i. lent (a i) (b i) (c i)) }

pub opens_passed : {F : List Float} {E : List ℕ} {t t' : Lent} {c : Counts} → verdict_on F E t ≡ Ok tt → c ≡ started (length F / 3) (length E / 4)
    → t' ≡ laid (opened_mesh F (quads E)) (length t.points) (length t.records) (length t.rows) → Opens F E t (Ok c) t'
opens_passed e k l = record { answers = rw e (ap Ok k); reports = rw e (ap (λ (d : Counts). done d 0) k); leaves = rw e l }
