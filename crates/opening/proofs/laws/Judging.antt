-- From the verdicts of the parts to the verdict of all tests: a refusal stays whatever comes later, and what passed hands on to the rest.
use mathlib.Core.Path.{◌≡◌, refl, sym, ◌∙◌}
use mathlib.Core.Bool.{Bool, true, false, ◌||◌}
use mathlib.Core.List.{List}
use Prim.Native.Nat.{ℕ, ◌/◌}
use native.Mathlib.Omega.{arith}
use lib.ListN.{length}
use lib.Ieee.{Float}
use Rattle.intake.specs.Cells.{Cells, quads}
use Rattle.std.specs.Prelude.{Option, Some, None, Ok, Err}
use Rattle.tables.specs.declared.refusal.Cause.{Cause}
use Rattle.tables.specs.declared.refusal.Cause.TheVariants.{Lengths, Room, Coordinate, Missing, Double, Same, Third, Colour}
use Rattle.tables.specs.declared.refusal.Refusal.{Refusal}
use Rattle.intake.specs.Search.{first}
use Rattle.intake.specs.Causes.{wrong_input, wrong_lent, has_no_room, unusable, missing, double, same, third}
use Rattle.intake.specs.Verdict.{Verdict, when, at, fitting, plain}
use Rattle.opening.specs.Opening.{late, judged}
use Rattle.opening.specs.Scratch.{Moderate, Clear, Plain, Coloured, Sifted, Judged, Passing, Settled}
use Rattle.opening.proofs.laws.Passed.{plain_cells, few_passed, roomy_passed}
use Rattle.opening.proofs.laws.Verdicts.{garish_last}

clash : {X : Type 0} {x : Refusal} {r : Verdict} → r ≡ Err x → r ≡ Ok tt → X
clash a b = absurd (cc)

left_false : (a b : Bool) → (a || b) ≡ false → a ≡ false
left_false true b h = h
left_false false b h = refl

-- ---- one test

pub when_passed : (b : Bool) (n : Cause) (next : Verdict) → when b n next ≡ Ok tt → (b ≡ false) × (next ≡ Ok tt)
when_passed true n next e = clash refl e
when_passed false n next e = (refl, e)

when_refused : (b : Bool) (n : Cause) (next next' : Verdict) (x : Refusal) → (next ≡ Err x → next' ≡ Err x) → when b n next ≡ Err x → when b n next' ≡ Err x
when_refused true n next next' x h e = e
when_refused false n next next' x h e = h e

pub at_passed : (f : Option ℕ) (n : Cause) (next : Verdict) → at f n next ≡ Ok tt → (f ≡ None) × (next ≡ Ok tt)
at_passed (Some q) n next e = clash refl e
at_passed None n next e = (refl, e)

at_refused : (f : Option ℕ) (n : Cause) (next next' : Verdict) (x : Refusal) → (next ≡ Err x → next' ≡ Err x) → at f n next ≡ Err x → at f n next' ≡ Err x
at_refused (Some q) n next next' x h e = e
at_refused None n next next' x h e = h e

-- ---- tests 1 and 2, and tests 3 to 5

-- lengths that passed
record Sized (f e p r w : ℕ) : Type 0 where
  input : wrong_input f e || wrong_lent p r w ≡ false
  room : has_no_room (f / 3) (e / 4) p r w ≡ false

module _ (f e p r w : ℕ) where
  lengths_passed : fitting f e p r w (Ok tt) ≡ Ok tt → Sized f e p r w
  unfolding fitting
  lengths_passed h = let (a, b) = when_passed (wrong_input f e || wrong_lent p r w) Lengths (when (has_no_room (f / 3) (e / 4) p r w) Room (Ok tt)) h in record { input = a; room = (when_passed (has_no_room (f / 3) (e / 4) p r w) Room (Ok tt) b).0 }

  lengths_next : Sized f e p r w → (next : Verdict) → fitting f e p r w next ≡ next
  unfolding fitting
  lengths_next l next = rw (l.input, l.room)

  lengths_refused : (next : Verdict) (x : Refusal) → fitting f e p r w (Ok tt) ≡ Err x → fitting f e p r w next ≡ Err x
  unfolding fitting
  lengths_refused next x =
      when_refused (wrong_input f e || wrong_lent p r w) Lengths _ _ x (when_refused (has_no_room (f / 3) (e / 4) p r w) Room (Ok tt) next x (λ h. clash h refl))

-- coordinates and vertex numbers that passed
record Numbers (F : List Float) (E : Cells) : Type 0 where
  usable : first (unusable F) (length F / 3) ≡ None
  there : first (missing (length F / 3) E) E.count ≡ None
  single : first (double E) E.count ≡ None

module _ (F : List Float) (E : Cells) where
  numbers_passed : plain F E (Ok tt) ≡ Ok tt → Numbers F E
  unfolding plain
  numbers_passed h =
      let (a, b) = at_passed (first (unusable F) (length F / 3)) Coordinate (at (first (missing (length F / 3) E) E.count) Missing (at (first (double E) E.count) Double (Ok tt))) h in
      let (c, d) = at_passed (first (missing (length F / 3) E) E.count) Missing (at (first (double E) E.count) Double (Ok tt)) b in
      record { usable = a; there = c; single = (at_passed (first (double E) E.count) Double (Ok tt) d).0 }

  numbers_next : Numbers F E → (next : Verdict) → plain F E next ≡ next
  unfolding plain
  numbers_next n next = rw (n.usable, n.there, n.single)

  numbers_refused : (next : Verdict) (x : Refusal) → plain F E (Ok tt) ≡ Err x → plain F E next ≡ Err x
  unfolding plain
  numbers_refused next x =
      at_refused (first (unusable F) (length F / 3)) Coordinate _ _ x
      (at_refused (first (missing (length F / 3) E) E.count) Missing _ _ x (at_refused (first (double E) E.count) Double (Ok tt) next x (λ h. clash h refl)))

-- ---- tests 6 to 8

-- the verdict of tests 6 and 7 stands where it refuses
pub judged_refused : {vertices : ℕ} {x : Refusal} {E : Cells} {index paint : List ℕ} {r : Verdict} → Sifted E r index → r ≡ Err x → Clear paint → Judged vertices E (Err x) paint
unfolding late
judged_refused {vertices} {x} {E} s e c =
    record {
      answer = sym (at_refused (first (same E) E.count) Same _ _ x (at_refused (first (third E) E.count) Third (Ok tt) _ x (λ h. clash h refl)) (sym s.answer ∙ e));
      painted = λ h. clash refl h;
    }

pub judged_coloured : {vertices : ℕ} {E : Cells} {index paint : List ℕ} {f : Option ℕ} {q r : Verdict} → Sifted E q index → q ≡ Ok tt → Coloured vertices E f paint → r ≡ at f Colour (Ok tt) → Judged vertices E r paint
judged_coloured {vertices} {E} {f = f} s p c e =
    let (a, b) = at_passed (first (same E) E.count) Same (at (first (third E) E.count) Third (Ok tt)) (sym s.answer ∙ p) in
    record {
      answer = e ∙ rw c.answer (sym (garish_last E vertices a (at_passed (first (third E) E.count) Third (Ok tt) b).0));
      painted = λ h. c.painted (at_passed f Colour (Ok tt) (sym e ∙ h)).0;
    }

-- ---- tests 3 to 8

module _ (F : List Float) (E : Cells) where
  pub passing_refused : {x : Refusal} {paint : List ℕ} {r : Verdict} → r ≡ plain F E (Ok tt) → r ≡ Err x → Clear paint → Passing F E (Err x) paint
  passing_refused {x} e f s = record { answer = sym (numbers_refused F E _ x (sym e ∙ f)); plain = λ h. clash refl h; painted = λ h. clash refl h }

  module _ (m : Moderate (length F) E.count) {q : Verdict} (e : q ≡ plain F E (Ok tt)) (passed : q ≡ Ok tt) where
    numbers : Numbers F E
    numbers = numbers_passed F E (sym e ∙ passed)

    pub plain_given : Plain (length F / 3) E
    plain_given = plain_cells (length F / 3) E m.few_elements (omega (arith, m.few_coordinates)) numbers.there numbers.single

    pub passing_judged : {r : Verdict} {paint : List ℕ} → Judged (length F / 3) E r paint → Passing F E r paint
    passing_judged j = record { answer = j.answer ∙ sym (numbers_next F E numbers _); plain = λ h. plain_given; painted = j.painted }

-- ---- all tests

module _ (F : List Float) (E : List ℕ) (points records rows : ℕ) where
  pub settled_lengths : {x : Refusal} {paint : List ℕ} → fitting (length F) (length E) points records rows (Ok tt) ≡ Err x → Clear paint
      → Settled F E points records rows (Err x) paint
  unfolding judged
  settled_lengths {x} e s = record { answer = sym (lengths_refused (length F) (length E) points records rows _ x e); storable = λ h. clash refl h }

  module _ {q : Verdict} (e : q ≡ fitting (length F) (length E) points records rows (Ok tt)) (passed : q ≡ Ok tt) where
    lengths : Sized (length F) (length E) points records rows
    lengths = lengths_passed (length F) (length E) points records rows (sym e ∙ passed)

    right_input : wrong_input (length F) (length E) ≡ false
    right_input = left_false (wrong_input (length F) (length E)) (wrong_lent points records rows) lengths.input

    -- what the other tests rely on
    pub moderate : Moderate (length F) (quads E).count
    moderate = let (f, e) = few_passed (length F) (length E) right_input in record { few_coordinates = f; few_elements = e }

    pub settled_given : {r : Verdict} {paint : List ℕ} → Passing F (quads E) r paint → Settled F E points records rows r paint
    unfolding judged
    settled_given {r} {paint} j =
        record {
          answer = j.answer ∙ sym (lengths_next (length F) (length E) points records rows lengths _);
          storable = λ h. record {
            plain = j.plain h;
            painted = j.painted h;
            room = roomy_passed (length F) (length E) points records rows right_input lengths.room;
          };
        }
