-- What is known of an input that passed the tests: of its lengths from tests 1 and 2, of its coordinates from test 3, of its elements from tests 1, 4 and 5.
use mathlib.Core.Path.{◌≡◌, refl, sym}
use mathlib.Core.Bool.{Bool, true, false, ◌||◌, true≢false}
use Prim.Native.Nat.{ℕ, zero, suc, ◌*◌, ◌/◌, ◌%◌, ◌≤◌, ◌<◌}
use native.Mathlib.Omega.{arith}
use lib.Dec.{eqb}
use lib.Ieee.{Float, nan, inf, fin}
use borrow.Author.Tests.{ltb-false, leb-true, leb-false, le-leb, eqb-true, eqb-false, not-false}
use Rattle.split.specs.Magnitude.{Bounded}
use Rattle.tables.specs.Layout.{room_of, most_rows, most_vertices, point_width}
use Rattle.intake.specs.Cells.{Cells}
use Rattle.std.specs.Prelude.{None}
use Rattle.intake.specs.Search.{first}
use Rattle.intake.specs.Causes.{wrong_input, has_no_room, usable, vertex, missing, twice, double}
use Rattle.opening.specs.Scratch.{Plain, Roomy}
use Rattle.intake.proofs.laws.Search.{first_none}

-- no test of a chain holds
neither : (a b : Bool) → (a || b) ≡ false → (a ≡ false) × (b ≡ false)
neither true b h = absurd (true≢false h)
neither false b h = (refl, h)

-- ---- lengths

-- test 1 read as facts on numbers, which `omega` takes
record Measured (coordinates elements : ℕ) : Type 0 where
  thirds : coordinates % 3 ≡ 0
  quarters : elements % 4 ≡ 0
  vertices : coordinates ≤ point_width * most_vertices
  most : elements ≤ 4 * most_rows

measured : (coordinates elements : ℕ) → wrong_input coordinates elements ≡ false → Measured coordinates elements
unfolding wrong_input
measured coordinates elements h =
    let (three, h1) = neither _ _ h in
    let (four, h2) = neither _ _ h1 in
    let (some, h3) = neither (eqb elements 0) _ h2 in
    let (vertices, most) = neither _ _ h3 in
    record {
      thirds = eqb-true _ _ (not-false _ three);
      quarters = eqb-true _ _ (not-false _ four);
      vertices = ltb-false _ _ vertices;
      most = ltb-false _ _ most;
    }

pub few_passed : (coordinates elements : ℕ) → wrong_input coordinates elements ≡ false → (coordinates ≤ point_width * most_vertices) × (elements / 4 ≤ most_rows)
few_passed coordinates elements w = let lengths = measured coordinates elements w in (lengths.vertices, omega (arith, lengths.most))

pub roomy_passed :
    (coordinates elements points records rows : ℕ) →
    wrong_input coordinates elements ≡ false →
    has_no_room (coordinates / 3) (elements / 4) points records rows ≡ false →
    Roomy coordinates elements points records rows
unfolding has_no_room room_of
roomy_passed coordinates elements points records rows w n =
    let lengths = measured coordinates elements w in
    let (v, r) = neither _ _ n in
    let vertices : coordinates / 3 ≤ (room_of points records rows).vertices = ltb-false _ _ v in
    let held : elements / 4 ≤ (room_of points records rows).rows = ltb-false _ _ r in
    omega arith

-- ---- coordinates

-- the test is the limit that midpoints keep
pub usable_bounded : (x : Float) → usable x ≡ true → Bounded x
unfolding usable Bounded
usable_bounded nan h = absurd (true≢false (sym h))
usable_bounded (inf s) h = absurd (true≢false (sym h))
usable_bounded (fin s m e) h = leb-true _ _ h

pub bounded_usable : (x : Float) → Bounded x → usable x ≡ true
unfolding usable Bounded
bounded_usable nan h = absurd h
bounded_usable (inf s) h = absurd h
bounded_usable (fin s m e) h = le-leb _ _ h

-- ---- elements

-- four places, one by one
each_of_four : (P : ℕ → Type 0) → P 0 → P 1 → P 2 → P 3 → (q : ℕ) → q < 4 → P q
each_of_four P a b c d zero h = a
each_of_four P a b c d (suc zero) h = b
each_of_four P a b c d (suc (suc zero)) h = c
each_of_four P a b c d (suc (suc (suc zero))) h = d
each_of_four P a b c d (suc (suc (suc (suc q)))) h = absurd (omega arith)

-- what tests 4 and 5 say of each place of an element
none_missing : (vertices : ℕ) (E : Cells) (k : ℕ) → missing vertices E k ≡ false → (q : ℕ) → q < 4 → vertex E k q < vertices
unfolding missing
none_missing vertices E k h =
    let (a, h1) = neither _ _ h in
    let (b, h2) = neither _ _ h1 in
    let (c, d) = neither _ _ h2 in
    each_of_four (λ q. vertex E k q < vertices) (leb-false _ _ a) (leb-false _ _ b) (leb-false _ _ c) (leb-false _ _ d)

-- numbers that the test tells apart are not equal, either way round
apart : {a b p q : ℕ} → eqb a b ≡ false → a ≡ b → p ≡ q
apart t e = absurd (eqb-false _ _ t e)

apart_back : {a b p q : ℕ} → eqb a b ≡ false → b ≡ a → p ≡ q
apart_back t e = apart t (sym e)

none_twice : (f : ℕ → ℕ) → twice (f 0) (f 1) (f 2) (f 3) ≡ false → (p q : ℕ) → p < 4 → q < 4 → f p ≡ f q → p ≡ q
unfolding twice
none_twice f h p q P Q =
    let (ab, h1) = neither _ _ h in
    let (ac, h2) = neither _ _ h1 in
    let (ad, h3) = neither _ _ h2 in
    let (bc, h4) = neither _ _ h3 in
    let (bd, cd) = neither _ _ h4 in
    let Same : ℕ → ℕ → Type 0 = λ p q. f p ≡ f q → p ≡ q in
    let row : (p : ℕ) → Same p 0 → Same p 1 → Same p 2 → Same p 3 → Same p q = λ p a b c d. each_of_four (Same p) a b c d q Q in
    each_of_four (λ p. Same p q)
    (row 0 (λ e. refl) (apart ab) (apart ac) (apart ad))
    (row 1 (apart_back ab) (λ e. refl) (apart bc) (apart bd))
    (row 2 (apart_back ac) (apart_back bc) (λ e. refl) (apart cd))
    (row 3 (apart_back ad) (apart_back bd) (apart_back cd) (λ e. refl))
    p P

-- what tests 4 and 5 say of all elements, however many there are
pub there_passed : (vertices : ℕ) (E : Cells) → first (missing vertices E) E.count ≡ None → (k q : ℕ) → k < E.count → q < 4 → vertex E k q < vertices
there_passed vertices E m k q h = none_missing vertices E k (first_none (missing vertices E) E.count m k h) q

pub apart_passed : (E : Cells) → first (double E) E.count ≡ None → (k p q : ℕ) → k < E.count → p < 4 → q < 4 → vertex E k p ≡ vertex E k q → p ≡ q
apart_passed E d k p q h = none_twice (vertex E k) (first_none (double E) E.count d k h) p q

-- elements of which there are few enough, and few enough vertices
pub plain_cells :
    (vertices : ℕ) (E : Cells) →
    E.count ≤ most_rows →
    vertices ≤ most_vertices →
    first (missing vertices E) E.count ≡ None →
    first (double E) E.count ≡ None →
    Plain vertices E
plain_cells vertices E f v m d = record {
  few = f;
  most = v;
  there = there_passed vertices E m;
  apart = apart_passed E d;
}
