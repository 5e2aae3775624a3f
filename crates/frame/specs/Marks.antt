-- What refuses a mark before closure begins (01, "What comes back").
use Rattle.std.specs.Prelude.{Bool, ◌&&◌, List, ℕ, eqb, leb, length, get_or, Ok}
use Rattle.tables.specs.declared.refusal.Cause.TheVariants.{Mark, Depth}
use Rattle.intake.specs.Search.{first, any}
use Rattle.intake.specs.Verdict.{Verdict, at, when}
use Rattle.tables.specs.Layout.{row_at}

-- row r is a leaf of depth 60
unfoldable pub deep_at : List ℕ → ℕ → Bool
deep_at w r = eqb (row_at w r).child 0 && eqb (row_at w r).depth 60

-- number 10 at the first position, then number 11 (01, "What comes back")
unfoldable pub on_marks : List ℕ → ℕ → List ℕ → Verdict
on_marks w n marks = at (first (λ j. leb n (get_or marks j 0)) (length marks)) Mark (when (any (λ j. deep_at w (get_or marks j 0)) (length marks)) Depth (Ok tt))
