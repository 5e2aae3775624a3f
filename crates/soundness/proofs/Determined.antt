-- Two outcomes that meet the promise of the check, or of the check in lent memory, are equal, the memory too. `Learnt` is the promise itself, as the check reads it off the function's contract.
use mathlib.Core.Path.{◌≡◌, refl, sym, ◌∙◌}
use mathlib.Core.Bool.{Bool, true, false}
use Rattle.sound.specs.Check.{Decides}
use Rattle.soundness.proofs.check.Reads as check
use Rattle.soundness.proofs.check_in.Reads as check-in

-- yes and no exclude each other
one_answer : {P : Type 0} (r r' : Bool) → Decides P r → Decides P r' → r ≡ r'
one_answer true true d e = refl
one_answer true false d e = absurd (e.no refl (d.yes refl))
one_answer false true d e = absurd (d.no refl (e.yes refl))
one_answer false false d e = refl

pub check_determined : (κs : _) (a : _) (r r' : _) (s s' : _) → check.Learnt κs a r s → check.Learnt κs a r' s' → r ≡ r'
check_determined κs a r r' s s' p q = one_answer r r' p q

-- the lent memory is the fifth parameter
pub check_in_determined : (κs : _) (a : _) (r r' : _) (s s' : _) → check-in.Learnt κs a r s → check-in.Learnt κs a r' s' → (r ≡ r') × (s.1.1.1.1.0.now ≡ s'.1.1.1.1.0.now)
check_in_determined κs a r r' s s' p q = (one_answer r r' p.0 q.0, p.1 ∙ sym q.1)
