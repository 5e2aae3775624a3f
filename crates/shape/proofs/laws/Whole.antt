-- The shape as a whole: a leading run ends at one place, and what each answer says.
use mathlib.Core.Path.{◌≡◌, refl}
use mathlib.Core.List.{List}
use Prim.Native.Nat.{ℕ}
use native.Mathlib.Omega.{arith}
use lib.Ieee.{Float}
use Rattle.split.proofs.laws.Places.{less, equal, more, against}
use Rattle.tables.specs.declared.layout.Counts.{Counts}
use Rattle.std.proofs.Common.{Option, Some, None}
use Rattle.shape.specs.declared.answer.Runs.{Runs}
use Rattle.shape.specs.Shape.{runs, Leading, Shapes}

-- a leading run ends at one place
one_end : {P : ℕ → Type 0} {n i j : ℕ} → Leading P n i → Leading P n j → i ≡ j
one_end {P} {n} {i} {j} a b = elim (against i j) [
  | equal e ↦ e
  | less l ↦ absurd (a.ends (omega (arith, b.within, l)) (b.before i l))
  | more l ↦ absurd (b.ends (omega (arith, a.within, l)) (a.before j l))
]

-- two answers that meet the promise are equal
pub one_shape : {p : List Float} {r w : List ℕ} {c : Counts} (o o' : Option Runs) → Shapes p r w c o → Shapes p r w c o' → o ≡ o'
one_shape None None x y = refl
one_shape None (Some s) x y = absurd (x.not refl s.initials s.roots (y.runs s.initials s.roots refl))
one_shape (Some s) None x y = absurd (y.not refl s.initials s.roots (x.runs s.initials s.roots refl))
one_shape (Some s) (Some s') x y =
    let a = (x.runs s.initials s.roots refl).begun in
    let b = (y.runs s'.initials s'.roots refl).begun in
    λ k. Some (runs (one_end a.initials b.initials k) (one_end a.roots b.roots k))
