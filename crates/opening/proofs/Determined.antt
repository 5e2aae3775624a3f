-- Two outcomes that meet the promise of opening are equal: the answer, and each of the three lent tables; and so are two answers whether tables agree with opening, and the memory lent for it. `Learnt` is the promise itself, as the check reads it off the function's contract.
use mathlib.Core.Path.{◌≡◌, sym, ap, ◌∙◌}
use Rattle.tables.specs.Mesh.{Lent}
use Rattle.opening.specs.Opening.{reported}
use Rattle.opening.proofs.laws.Reports.{report_tells}
use Rattle.opening.proofs.open.Reads as opening
use Rattle.opening.proofs.agree.agrees.Reads as agreeing

pub open_determined : (κs : _) (a : _) (r r' : _) (s s' : _) → opening.Learnt κs a r s → opening.Learnt κs a r' s' → r ≡ r'
open_determined κs a r r' s s' p q = p.answers ∙ sym q.answers

-- nothing of an answer is lost in its report, whichever inputs the two calls had
pub open_reported : (κs κs' : _) (a a' : _) (r r' : _) (s s' : _) → opening.Learnt κs a r s → opening.Learnt κs' a' r' s' → reported r ≡ reported r' → r ≡ r'
open_reported κs κs' a a' r r' s s' p q e = report_tells r r' e

-- the lent tables are the third to the fifth parameter
pub open_points_determined : (κs : _) (a : _) (r r' : _) (s s' : _) → opening.Learnt κs a r s → opening.Learnt κs a r' s' → s.1.1.0.now ≡ s'.1.1.0.now
open_points_determined κs a r r' s s' p q = ap (λ (t : Lent). t.points) (p.leaves ∙ sym q.leaves)

pub open_records_determined : (κs : _) (a : _) (r r' : _) (s s' : _) → opening.Learnt κs a r s → opening.Learnt κs a r' s' → s.1.1.1.0.now ≡ s'.1.1.1.0.now
open_records_determined κs a r r' s s' p q = ap (λ (t : Lent). t.records) (p.leaves ∙ sym q.leaves)

pub open_rows_determined : (κs : _) (a : _) (r r' : _) (s s' : _) → opening.Learnt κs a r s → opening.Learnt κs a r' s' → s.1.1.1.1.0.now ≡ s'.1.1.1.1.0.now
open_rows_determined κs a r r' s s' p q = ap (λ (t : Lent). t.rows) (p.leaves ∙ sym q.leaves)

pub agrees_determined : (κs : _) (a : _) (r r' : _) (s s' : _) → agreeing.Learnt κs a r s → agreeing.Learnt κs a r' s' → (r ≡ r') × (s.1.1.1.1.0.now ≡ s'.1.1.1.1.0.now)
agrees_determined κs a r r' s s' p q = (p.0 ∙ sym q.0, p.1 ∙ sym q.1)
