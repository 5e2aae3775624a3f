-- A chain of tests joined by `&&`.
use mathlib.Core.Path.{◌≡◌, refl, sym, ◌∙◌}
use mathlib.Core.Bool.{Bool, true, false, not, ◌&&◌, true≢false}
use borrow.Author.Tests.{not-true, not-false, eq-eqb, ne_eqb}

-- the first test fails
pub fails : (a b : Bool) → a ≡ false → false ≡ (a && b)
fails a b p = rw p

-- the first test holds: the others decide
pub holds : (a b r : Bool) → a ≡ true → r ≡ b → r ≡ (a && b)
holds a b r p q = rw (p, q)

-- r is the answer of a call that made the test
pub answered_no : {r a : Bool} → r ≡ a → not r ≡ true → a ≡ false
answered_no e n = sym e ∙ not-true _ n

pub answered_yes : {r a : Bool} → r ≡ a → not r ≡ false → a ≡ true
answered_yes e y = sym e ∙ not-false _ y

pub ruleset agreeing = (fails, holds, answered_no, answered_yes, eq-eqb, ne_eqb)

pub both : (a b : Bool) → (a && b) ≡ true → (a ≡ true) × (b ≡ true)
both true b e = (refl, e)
both false b e = absurd (true≢false (sym e))
