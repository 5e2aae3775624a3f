-- Two outcomes that meet a public function's promise are equal. `Learnt` is the promise itself, as the check reads it off the function's contract.
use mathlib.Core.Path.{◌≡◌, sym, ◌∙◌}
use Rattle.programs.proofs.sum.checksum.Reads as checksum

pub checksum_determined : (κs : _) (a : _) (r r' : _) (s s' : _) → checksum.Learnt κs a r s → checksum.Learnt κs a r' s' → r ≡ r'
checksum_determined κs a r r' s s' p q = p ∙ sym q
