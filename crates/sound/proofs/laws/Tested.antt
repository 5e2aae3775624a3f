-- What each test says of an input that passed them all, and that an input of which they say it passes.
use Rattle.std.proofs.Common.{None, Ok}
use mathlib.Core.Path.{◌≡◌, refl}
use mathlib.Core.Bool.{Bool, true, false, ◌||◌}
use mathlib.Core.List.{List}
use Prim.Native.Nat.{ℕ, ◌/◌, ◌%◌, ◌≤◌, ◌<◌, ◌*◌}
use native.Mathlib.Omega.{arith}
use borrow.Author.Tests.{ltb-false, eqb-true, eqb-false, not-false}
use lib.Dec.{eqb}
use lib.ListN.{length}
use lib.Ieee.{Float}
use Rattle.tables.specs.Layout.{room_of, point_width, record_width, row_width, most_rows, most_vertices}
use Rattle.intake.specs.Cells.{Cells, quads}
use Rattle.intake.specs.Search.{first}
use Rattle.intake.specs.Causes.{wrong_input, wrong_lent, has_no_room, unusable, vertex, missing, double, same, third}
use Rattle.opening.proofs.laws.Judging.{when_passed, at_passed}
use Rattle.opening.specs.Colours.{garish}
use Rattle.intake.specs.Verdict.{fitting, plain}
use Rattle.opening.specs.Opening.{late, judged}
use Rattle.opening.proofs.laws.Passed.{there_passed, apart_passed}

-- ---- tests 1 and 2

-- what test 1 says of the input's lengths
pub record Measured (coordinates elements : ℕ) : Type 0 where
  pub thirds : coordinates % 3 ≡ 0
  pub quarters : elements % 4 ≡ 0
  pub some : elements ≡ 0 → ⊥
  pub vertices : coordinates ≤ point_width * most_vertices
  pub most : elements ≤ 4 * most_rows

-- what tests 1 and 2 say of the lent tables
pub record Roomed (vertices elements points records rows : ℕ) : Type 0 where
  pub points_whole : points % point_width ≡ 0
  pub records_whole : records % record_width ≡ 0
  pub rows_whole : rows % row_width ≡ 0
  pub vertices_fit : vertices ≤ (room_of points records rows).vertices
  pub rows_fit : elements ≤ (room_of points records rows).rows

neither : (a b : Bool) → (a || b) ≡ false → (a ≡ false) × (b ≡ false)
neither true b h = let z : ◌≡◌ {A = ℕ} 0 1 = cc in absurd (omega arith)
neither false b h = (refl, h)

pub measured : (coordinates elements : ℕ) → wrong_input coordinates elements ≡ false → Measured coordinates elements
unfolding wrong_input
measured coordinates elements h =
    let (three, h1) = neither _ _ h in
    let (four, h2) = neither _ _ h1 in
    let (none, h3) = neither (eqb elements 0) _ h2 in
    let (vertices, most) = neither _ _ h3 in
    record {
      thirds = eqb-true _ _ (not-false _ three);
      quarters = eqb-true _ _ (not-false _ four);
      some = eqb-false _ _ none;
      vertices = ltb-false _ _ vertices;
      most = ltb-false _ _ most;
    }

pub roomed : (vertices elements points records rows : ℕ) → wrong_lent points records rows ≡ false → has_no_room vertices elements points records rows ≡ false
    → Roomed vertices elements points records rows
unfolding wrong_lent has_no_room
roomed vertices elements points records rows w n =
    let (p, w1) = neither _ _ w in
    let (r, q) = neither _ _ w1 in
    let (v, e) = neither _ _ n in
    record {
      points_whole = eqb-true _ _ (not-false _ p);
      records_whole = eqb-true _ _ (not-false _ r);
      rows_whole = eqb-true _ _ (not-false _ q);
      vertices_fit = ltb-false _ _ v;
      rows_fit = ltb-false _ _ e;
    }

-- ---- tests 3 to 8

pub record Tested (F : List Float) (E : Cells) : Type 0 where
  pub usable : first (unusable F) (length F / 3) ≡ None
  pub there : first (missing (length F / 3) E) E.count ≡ None
  pub single : first (double E) E.count ≡ None
  pub other : first (same E) E.count ≡ None
  pub faces : first (third E) E.count ≡ None
  pub colours : first (garish E) (length F / 3) ≡ None

-- what tests 4 and 5 say of each element, however many there are
pub record Named (vertices : ℕ) (E : Cells) : Type 0 where
  pub there : (k q : ℕ) → k < E.count → q < 4 → vertex E k q < vertices
  pub apart : (k p q : ℕ) → k < E.count → p < 4 → q < 4 → vertex E k p ≡ vertex E k q → p ≡ q

module _ (F : List Float) (E : Cells) where
  pub tested : plain F E (late E (length F / 3)) ≡ Ok tt → Tested F E
  unfolding plain late
  tested h2 =
      let (three, h3) = at_passed (first (unusable F) (length F / 3)) _ _ h2 in
      let (four, h4) = at_passed (first (missing (length F / 3) E) E.count) _ _ h3 in
      let (five, h5) = at_passed (first (double E) E.count) _ _ h4 in
      let (six, h6) = at_passed (first (same E) E.count) _ _ h5 in
      let (seven, h7) = at_passed (first (third E) E.count) _ _ h6 in
      let (eight, h8) = at_passed (first (garish E) (length F / 3)) _ _ h7 in
      record { usable = three; there = four; single = five; other = six; faces = seven; colours = eight }

  pub tested_passes : Tested F E → plain F E (late E (length F / 3)) ≡ Ok tt
  unfolding plain late
  tested_passes t = rw (t.usable, t.there, t.single, t.other, t.faces, t.colours)

pub tested_named : {F : List Float} {E : Cells} → Tested F E → Named (length F / 3) E
tested_named {F} {E} t = record { there = there_passed (length F / 3) E t.there; apart = apart_passed E t.single }

-- ---- all tests

pub record Allowed (F : List Float) (E : List ℕ) (points records rows : ℕ) : Type 0 where
  pub input : wrong_input (length F) (length E) ≡ false
  pub lent : wrong_lent points records rows ≡ false
  pub room : has_no_room (length F / 3) (length E / 4) points records rows ≡ false
  pub tests : Tested F (quads E)

pub allowed : (F : List Float) (E : List ℕ) (points records rows : ℕ) → judged F E points records rows ≡ Ok tt → Allowed F E points records rows
unfolding judged fitting
allowed F E points records rows h =
    let (one, h1) = when_passed (wrong_input (length F) (length E) || wrong_lent points records rows) _ _ h in
    let (two, h2) = when_passed (has_no_room (length F / 3) (length E / 4) points records rows) _ _ h1 in
    let (input, lent) = neither _ _ one in
    record { input = input; lent = lent; room = two; tests = tested F (quads E) h2 }

pub allowed_passes : (F : List Float) (E : List ℕ) (points records rows : ℕ) → Allowed F E points records rows → judged F E points records rows ≡ Ok tt
unfolding judged fitting
allowed_passes F E points records rows w = rw (w.input, w.lent, w.room) (tested_passes F (quads E) w.tests)
