-- Two outcomes that meet the promise of refining are equal: the answer, and each of the three lent tables. `Learnt` is the promise itself, as the check reads it off the function's contract.
use mathlib.Core.Path.{◌≡◌, ap}
use Rattle.tables.specs.Mesh.{Lent}
use Rattle.closure.specs.Refine.{reported}
use Rattle.closure.proofs.laws.Promise.{one_outcome, report_tells}
use Rattle.closure.proofs.refine.Reads as refining

pub refine_determined : (κs : _) (a : _) (r r' : _) (s s' : _) → refining.Learnt κs a r s → refining.Learnt κs a r' s' → r ≡ r'
refine_determined κs a r r' s s' p q = (one_outcome p q).0

-- nothing of an answer is lost in its report, whichever tables and marks the two calls had
pub refine_reported : (κs κs' : _) (a a' : _) (r r' : _) (s s' : _) → refining.Learnt κs a r s → refining.Learnt κs' a' r' s' → reported r ≡ reported r' → r ≡ r'
refine_reported κs κs' a a' r r' s s' p q e = report_tells r r' e

-- the lent tables are the first three parameters
pub refine_points_determined : (κs : _) (a : _) (r r' : _) (s s' : _) → refining.Learnt κs a r s → refining.Learnt κs a r' s' → s.0.now ≡ s'.0.now
refine_points_determined κs a r r' s s' p q = ap (λ (t : Lent). t.points) (one_outcome p q).1

pub refine_records_determined : (κs : _) (a : _) (r r' : _) (s s' : _) → refining.Learnt κs a r s → refining.Learnt κs a r' s' → s.1.0.now ≡ s'.1.0.now
refine_records_determined κs a r r' s s' p q = ap (λ (t : Lent). t.records) (one_outcome p q).1

pub refine_rows_determined : (κs : _) (a : _) (r r' : _) (s s' : _) → refining.Learnt κs a r s → refining.Learnt κs a r' s' → s.1.1.0.now ≡ s'.1.1.0.now
refine_rows_determined κs a r r' s s' p q = ap (λ (t : Lent). t.rows) (one_outcome p q).1
