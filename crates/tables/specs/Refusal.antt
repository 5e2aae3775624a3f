-- Why a call refuses: a cause of document 01's table, which has a number there, and its place (01, "What comes back").
use Rattle.std.specs.Prelude.{ℕ, Result, Err}
use Rattle.tables.specs.declared.refusal.Cause.{Cause}
use Rattle.tables.specs.declared.refusal.Cause.TheVariants.{Lengths, Room, Coordinate, Missing, Double, Same, Third, Colour, Unsound, Mark, Depth, Line, Lines}
use Rattle.tables.specs.declared.refusal.Refusal.{Refusal}

-- the number of a cause (01, "What comes back", the first column)
abbrev pub number_of : Cause → ℕ
number_of Lengths = 1
number_of Room = 2
number_of Coordinate = 3
number_of Missing = 4
number_of Double = 5
number_of Same = 6
number_of Third = 7
number_of Colour = 8
number_of Unsound = 9
number_of Mark = 10
number_of Depth = 11
number_of Line = 12
number_of Lines = 13

-- a cause and its place (01, "What comes back", the first and the last column)
abbrev pub refusal_at : Cause → ℕ → Refusal
refusal_at cause place = record { cause = cause; place = place }

-- refused by this cause at this place, where A is what comes back else
abbrev pub refused : {A : Type 0} → Cause → ℕ → Result A Refusal
refused cause place = Err (refusal_at cause place)
