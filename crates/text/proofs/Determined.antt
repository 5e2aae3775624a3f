-- Two outcomes that meet the promise of the program are equal: the answer, and the lent buffer. `Learnt` is the promise itself, as the check reads it off the function's contract.
use mathlib.Core.Path.{◌≡◌}
use Rattle.text.proofs.laws.Answer.{one_written}
use Rattle.text.proofs.program.Reads as writing

pub program_determined : (κs : _) (a : _) (r r' : _) (s s' : _) → writing.Learnt κs a r s → writing.Learnt κs a r' s' → r ≡ r'
program_determined κs a r r' s s' p q = (one_written p q).0

-- the lent buffer is the second parameter
pub program_out_determined : (κs : _) (a : _) (r r' : _) (s s' : _) → writing.Learnt κs a r s → writing.Learnt κs a r' s' → s.1.0.now ≡ s'.1.0.now
program_out_determined κs a r r' s s' p q = (one_written p q).1
