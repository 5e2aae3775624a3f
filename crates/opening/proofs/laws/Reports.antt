-- Two answers with the same report are equal: no refusal has number 0, and each cause has a number of its own, so a report tells which case it is of.
use mathlib.Core.Path.{◌≡◌, refl, sym, ap, ◌∙◌}
use mathlib.Core.List.{[], ◌∷◌}
use Prim.Native.Nat.{ℕ}
use native.Mathlib.Omega.{arith}
use lib.ListN.{get_or}
use Rattle.std.specs.Prelude.{Result, Ok, Err}
use Rattle.tables.specs.declared.layout.Counts.{Counts}
use Rattle.tables.specs.declared.refusal.Cause.{Cause}
use Rattle.tables.specs.declared.refusal.Cause.TheVariants.{Lengths, Room, Coordinate, Missing, Double, Same, Third, Colour, Unsound, Mark, Depth, Line, Lines}
use Rattle.tables.specs.declared.refusal.Refusal.{Refusal}
use Rattle.tables.specs.Refusal.{number_of}
use Rattle.tables.specs.Report.{Report}
use Rattle.opening.specs.Opening.{reported}

-- the cause of a number; 0 is of none
cause_of : ℕ → Cause
cause_of n = get_or (Lengths ∷ Lengths ∷ Room ∷ Coordinate ∷ Missing ∷ Double ∷ Same ∷ Third ∷ Colour ∷ Unsound ∷ Mark ∷ Depth ∷ Line ∷ Lines ∷ []) n Lengths

cause_back : (c : Cause) → cause_of (number_of c) ≡ c
unfolding cause_of
cause_back Lengths = refl
cause_back Room = refl
cause_back Coordinate = refl
cause_back Missing = refl
cause_back Double = refl
cause_back Same = refl
cause_back Third = refl
cause_back Colour = refl
cause_back Unsound = refl
cause_back Mark = refl
cause_back Depth = refl
cause_back Line = refl
cause_back Lines = refl

-- no two causes have one number, and none has number 0
pub number_tells : (c d : Cause) → number_of c ≡ number_of d → c ≡ d
number_tells c d e = sym (cause_back c) ∙ ap cause_of e ∙ cause_back d

pub refusal_tells : (x y : Refusal) → number_of x.cause ≡ number_of y.cause → x.place ≡ y.place → x ≡ y
refusal_tells x y e f = λ i. record { cause = number_tells x.cause y.cause e i; place = f i }

pub number_some : (c : Cause) → number_of c ≡ 0 → ⊥
number_some Lengths e = absurd (omega arith)
number_some Room e = absurd (omega arith)
number_some Coordinate e = absurd (omega arith)
number_some Missing e = absurd (omega arith)
number_some Double e = absurd (omega arith)
number_some Same e = absurd (omega arith)
number_some Third e = absurd (omega arith)
number_some Colour e = absurd (omega arith)
number_some Unsound e = absurd (omega arith)
number_some Mark e = absurd (omega arith)
number_some Depth e = absurd (omega arith)
number_some Line e = absurd (omega arith)
number_some Lines e = absurd (omega arith)

pub report_tells : (r r₂ : Result Counts Refusal) → reported r ≡ reported r₂ → r ≡ r₂
report_tells (Ok c) (Ok d) e = λ i. Ok (e i).counts
report_tells (Ok c) (Err y) e = absurd (number_some y.cause (sym (ap (λ (o : Report). o.number) e)))
report_tells (Err x) (Ok d) e = absurd (number_some x.cause (ap (λ (o : Report). o.number) e))
report_tells (Err x) (Err y) e = ap Err (refusal_tells x y (ap (λ (o : Report). o.number) e) (ap (λ (o : Report). o.place) e))
