-- Two outcomes that meet the promise are equal. `Learnt` is the promise itself, as the check reads it off the function's contract.
use mathlib.Core.Path.{◌≡◌}
use Rattle.shape.proofs.shaped.Reads as shaped
use Rattle.shape.proofs.laws.Whole.{one_shape}

pub shaped_determined : (κs : _) (a : _) (r r' : _) (s s' : _) → shaped.Learnt κs a r s → shaped.Learnt κs a r' s' → r ≡ r'
shaped_determined κs a r r' s s' p q = one_shape r r' p q
