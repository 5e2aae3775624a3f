-- All of the input (01, "The program"): lines in order, the first bad line ends it.
use Rattle.std.specs.Prelude.{Bool, cond, List, [], ◌∷◌, ◌++◌, ℕ, suc, ◌+◌, ltb, eqb, length, Float, Result, Ok, Err}
use Rattle.fields.specs.declared.line.Line.{Line}
use Rattle.fields.specs.declared.line.Line.TheVariants as line
use Rattle.fields.specs.Field.{parts}
use Rattle.fields.specs.Line.{line_of, reported}
use Rattle.tables.specs.declared.refusal.Cause.{Cause}
use Rattle.tables.specs.declared.refusal.Cause.TheVariants as cause
use Rattle.tables.specs.declared.refusal.Refusal.{Refusal}
use Rattle.tables.specs.Refusal.{refused, number_of}

-- what the V, T and M lines give: three floats a vertex, four numbers an element, a row a mark
pub record Input : Type 0 where
  pub coordinates : List Float
  pub elements : List ℕ
  pub marks : List ℕ

abbrev pub input : List Float → List ℕ → List ℕ → Input
input c e m = record { coordinates = c; elements = e; marks = m }

abbrev pub nothing : Input
nothing = input [] [] []

-- over 256 lines of a kind: the numbers of one more would be more than 256 lines have
abbrev pub over : ℕ → ℕ → ℕ → Bool
over width size most = ltb most (size + width)

-- the cause of a line that is refused by this number: 12, or else 13
abbrev pub cause_of : ℕ → Cause
cause_of n = cond (eqb n (number_of cause.Line)) cause.Line cause.Lines

-- what a line makes of the lines before it; all V, then T, then M: otherwise 12, which comes before 13 on one line
unfoldable pub takes : Input → Line → Result Input Cause
takes i (line.Vertex x y z) =
    cond (eqb (length i.elements + length i.marks) 0)
    (cond (over 3 (length i.coordinates) 768) (Err cause.Lines) (Ok (input (i.coordinates ++ (x ∷ y ∷ z ∷ [])) i.elements i.marks)))
    (Err cause.Line)
takes i (line.Element a b c d) =
    cond (eqb (length i.marks) 0)
    (cond (over 4 (length i.elements) 1024) (Err cause.Lines) (Ok (input i.coordinates (i.elements ++ (a ∷ b ∷ c ∷ d ∷ [])) i.marks)))
    (Err cause.Line)
takes i (line.Mark r) =
    cond (over 1 (length i.marks) 256) (Err cause.Lines) (Ok (input i.coordinates i.elements (i.marks ++ (r ∷ []))))
takes i (line.Refused p) = Err (cause_of (reported (line.Refused p)).number)

-- from line k on; what follows the last line feed is a line that is not well formed, unless it is nothing
unfoldable pub read_from : Input → ℕ → List (List ℕ) → Result Input Refusal
read_from i k [] = Ok i
read_from i k (p ∷ []) = cond (eqb (length p) 0) (Ok i) (refused (cause_of (reported (line.Refused k)).number) (reported (line.Refused k)).place)
read_from i k (p ∷ q ∷ ps) = elim (takes i (line_of p k)) [ Ok j ↦ read_from j (suc k) (q ∷ ps) | Err c ↦ refused c k ]

-- each line is ended by a line feed
abbrev pub read_all : List ℕ → Result Input Refusal
read_all l = read_from nothing 1 (parts 10 l)
