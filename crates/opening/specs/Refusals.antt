-- The causes of refusal of opening in their order, and which of them refuses an input (demand 1; 01, "What comes back"), in words that do not speak of a search.
use Rattle.std.specs.Prelude.{Bool, ◌||◌, List, [], ◌∷◌, ℕ, ◌/◌, length, Float}
use Rattle.tables.specs.Layout.{point_width}
use Rattle.tables.specs.Mesh.{Lent}
use Rattle.tables.specs.declared.refusal.Cause.{Cause}
use Rattle.tables.specs.declared.refusal.Cause.TheVariants.{Lengths, Room, Coordinate, Missing, Double, Same, Third, Colour}
use Rattle.intake.specs.Cells.{quads}
use Rattle.intake.specs.Causes.{wrong_input, wrong_lent, has_no_room, unusable, missing, double, same, third}
use Rattle.opening.specs.Colours.{garish}
use Rattle.intake.specs.First.{FirstAt, Nowhere}

-- a test: the cause for which it refuses, how many places the cause can have, and whether it is present at a place
pub record Test : Type 0 where
  pub cause : Cause
  pub places : ℕ
  pub present : ℕ → Bool

-- numbers 1 to 8 in the order of the tests; 1 and 2 are of the input as a whole, with place 0, 3 and 8 of a vertex and the others of an element (01, "What comes back")
abbrev pub causes : List Float → List ℕ → ℕ → ℕ → ℕ → List Test
causes F E points records rows =
    let vertices = length F / point_width in
    let elements = length E / 4 in
    let C = quads E in
    record { cause = Lengths; places = 1; present = λ p. wrong_input (length F) (length E) || wrong_lent points records rows }
    ∷ record { cause = Room; places = 1; present = λ p. has_no_room vertices elements points records rows }
    ∷ record { cause = Coordinate; places = vertices; present = unusable F }
    ∷ record { cause = Missing; places = elements; present = missing vertices C }
    ∷ record { cause = Double; places = elements; present = double C }
    ∷ record { cause = Same; places = elements; present = same C }
    ∷ record { cause = Third; places = elements; present = third C }
    ∷ record { cause = Colour; places = vertices; present = garish C }
    ∷ []

-- the causes for lent tables t
abbrev pub causes_on : List Float → List ℕ → Lent → List Test
causes_on F E t = causes F E (length t.points) (length t.records) (length t.rows)

-- the input is refused for this cause at this place: the cause is present there and at no smaller place, and no cause before it is present anywhere
pub data RefusedBy : List Test → Cause → ℕ → Type 0 where
  here : {c : Test} {cs : List Test} {p : ℕ} → FirstAt c.present c.places p → RefusedBy (c ∷ cs) c.cause p
  later : {c : Test} {cs : List Test} {n : Cause} {p : ℕ} → Nowhere c.present c.places → RefusedBy cs n p → RefusedBy (c ∷ cs) n p

-- no cause is present anywhere
pub data RefusedByNone : List Test → Type 0 where
  end : RefusedByNone []
  next : {c : Test} {cs : List Test} → Nowhere c.present c.places → RefusedByNone cs → RefusedByNone (c ∷ cs)
