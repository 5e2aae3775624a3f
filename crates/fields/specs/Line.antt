-- One read line (01, "The program").
use Rattle.std.specs.Prelude.{cond, List, [], ◌∷◌, ℕ, Float, Option, None, Some, unwrap_or}
use Rattle.std.specs.Float.{binary64}
use Rattle.std.specs.Float.Ieee.{of_bits}
use Rattle.fields.specs.declared.line.Line.{Line}
use Rattle.fields.specs.declared.line.Line.TheVariants.{Vertex, Element, Mark, Refused}
use Rattle.fields.specs.Digits.{number_of, hex_of}
use Rattle.fields.specs.Field.{field_of, shaped_as}

-- V and three coordinates, each the bits of an f64
unfoldable pub vertex_of : Option ℕ → Option ℕ → Option ℕ → Option Line
vertex_of None y z = None
vertex_of (Some x) None z = None
vertex_of (Some x) (Some y) None = None
vertex_of (Some x) (Some y) (Some z) = Some (Vertex (of_bits binary64 x) (of_bits binary64 y) (of_bits binary64 z))

-- T and four vertex numbers
unfoldable pub element_of : Option ℕ → Option ℕ → Option ℕ → Option ℕ → Option Line
element_of None b c d = None
element_of (Some a) None c d = None
element_of (Some a) (Some b) None d = None
element_of (Some a) (Some b) (Some c) None = None
element_of (Some a) (Some b) (Some c) (Some d) = Some (Element a b c d)

-- M and a row
unfoldable pub mark_of : Option ℕ → Option Line
mark_of None = None
mark_of (Some r) = Some (Mark r)

-- the record of a line, if it is well formed
unfoldable pub record_of : List ℕ → Option Line
record_of l =
    cond (shaped_as l 86 3) (vertex_of (hex_of (field_of l 1)) (hex_of (field_of l 2)) (hex_of (field_of l 3)))
    (cond (shaped_as l 84 4) (element_of (number_of (field_of l 1)) (number_of (field_of l 2)) (number_of (field_of l 3)) (number_of (field_of l 4)))
    (cond (shaped_as l 77 1) (mark_of (number_of (field_of l 1))) None))

-- the record of a line, or the refusal of its place where it is not well formed
unfoldable pub line_of : List ℕ → ℕ → Line
line_of l p = unwrap_or (record_of l) (Refused p)

-- what a read line comes back with: number and place, and the record by its letter, its floats and its numbers (01, "What comes back" and "The program")
pub record ReadLine : Type 0 where
  pub number : ℕ
  pub place : ℕ
  pub letter : ℕ
  pub floats : List Float
  pub numbers : List ℕ

-- number 0, place 0 and the record (01, "What comes back", its row for done)
abbrev pub well_formed : ℕ → List Float → List ℕ → ReadLine
well_formed letter floats numbers = record { number = 0; place = 0; letter = letter; floats = floats; numbers = numbers }

-- the number and the values that each case of a read line stands for; not well formed is 12 (01, "What comes back")
abbrev pub reported : Line → ReadLine
reported (Vertex x y z) = well_formed 86 (x ∷ y ∷ z ∷ []) []
reported (Element a b c d) = well_formed 84 [] (a ∷ b ∷ c ∷ d ∷ [])
reported (Mark r) = well_formed 77 [] (r ∷ [])
reported (Refused p) = record { number = 12; place = p; letter = 0; floats = []; numbers = [] }
