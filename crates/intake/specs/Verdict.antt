-- Tests 1 to 5 of opening in that order, each over the whole input before the next, the smallest place (01, "What comes back").
use Rattle.std.specs.Prelude.{Bool, true, false, ◌||◌, ⊤, List, ℕ, ◌/◌, length, Float, Option, Some, None, Result}
use Rattle.tables.specs.Layout.{point_width}
use Rattle.tables.specs.declared.refusal.Cause.{Cause}
use Rattle.tables.specs.declared.refusal.Cause.TheVariants.{Lengths, Room, Coordinate, Missing, Double}
use Rattle.tables.specs.declared.refusal.Refusal.{Refusal}
use Rattle.tables.specs.Refusal.{refused}
use Rattle.intake.specs.Search.{first}
use Rattle.intake.specs.Cells.{Cells}
use Rattle.intake.specs.Causes.{wrong_input, wrong_lent, has_no_room, unusable, missing, double}

-- what a row of tests says: nothing, or a refusal
abbrev pub Verdict : Type 0
Verdict = Result ⊤ Refusal

-- refused for this cause where the cause is present, else what comes next
abbrev pub when : Bool → Cause → Verdict → Verdict
when true n next = refused n 0
when false n next = next

-- refused for this cause at the smallest place, else what comes next
abbrev pub at : Option ℕ → Cause → Verdict → Verdict
at (Some p) n next = refused n p
at None n next = next

-- tests 3 to 5, on coordinates and vertex numbers, and then the rest
unfoldable pub plain : List Float → Cells → Verdict → Verdict
plain F E next = at (first (unusable F) (length F / point_width)) Coordinate (at (first (missing (length F / point_width) E) E.count) Missing (at (first (double E) E.count) Double next))

-- tests 1 and 2, on lengths alone, and then the rest
unfoldable pub fitting : ℕ → ℕ → ℕ → ℕ → ℕ → Verdict → Verdict
fitting coordinates elements points records rows next =
    when (wrong_input coordinates elements || wrong_lent points records rows) Lengths (when (has_no_room (coordinates / point_width) (elements / 4) points records rows) Room next)
