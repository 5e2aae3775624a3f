-- Test 8 stands once tests 6 and 7 have passed.
use mathlib.Core.Path.{◌≡◌}
use Prim.Native.Nat.{ℕ}
use Rattle.intake.specs.Cells.{Cells}
use Rattle.std.specs.Prelude.{None, Ok}
use Rattle.tables.specs.declared.refusal.Cause.TheVariants.{Colour}
use Rattle.intake.specs.Search.{first}
use Rattle.intake.specs.Causes.{same, third}
use Rattle.opening.specs.Colours.{garish}
use Rattle.intake.specs.Verdict.{at}
use Rattle.opening.specs.Opening.{late}

module _ (E : Cells) (vertices : ℕ) where
  pub garish_last : first (same E) E.count ≡ None → first (third E) E.count ≡ None → late E vertices ≡ at (first (garish E) vertices) Colour (Ok tt)
  unfolding late
  garish_last a b = rw (a, b)
