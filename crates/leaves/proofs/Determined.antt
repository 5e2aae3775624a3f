-- Two outcomes that meet the promise of listing are equal: the answer, and each of the two lent lists. `Learnt` is the promise itself, as the check reads it off the function's contract.
use mathlib.Core.Path.{◌≡◌}
use Rattle.leaves.specs.Lists.{reported}
use Rattle.leaves.proofs.laws.Promise.{one_outcome, report_tells}
use Rattle.leaves.proofs.leaves.Reads as listing

pub leaves_determined : (κs : _) (a : _) (r r' : _) (s s' : _) → listing.Learnt κs a r s → listing.Learnt κs a r' s' → r ≡ r'
leaves_determined κs a r r' s s' p q = (one_outcome p q).0

-- nothing of an answer is lost in its report, whichever tables and lists the two calls had
pub leaves_reported : (κs κs' : _) (a a' : _) (r r' : _) (s s' : _) → listing.Learnt κs a r s → listing.Learnt κs' a' r' s' → reported r ≡ reported r' → r ≡ r'
leaves_reported κs κs' a a' r r' s s' p q e = report_tells r r' e

-- the lent lists are the fifth and the sixth parameter, and the only ones that may change
pub leaves_list_determined : (κs : _) (a : _) (r r' : _) (s s' : _) → listing.Learnt κs a r s → listing.Learnt κs a r' s' → s.1.1.1.1.0.now ≡ s'.1.1.1.1.0.now
leaves_list_determined κs a r r' s s' p q = (one_outcome p q).1

pub leaves_levels_determined : (κs : _) (a : _) (r r' : _) (s s' : _) → listing.Learnt κs a r s → listing.Learnt κs a r' s' → s.1.1.1.1.1.0.now ≡ s'.1.1.1.1.1.0.now
leaves_levels_determined κs a r r' s s' p q = (one_outcome p q).2
