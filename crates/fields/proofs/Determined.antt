-- Two outcomes that meet a public function's promise are equal. `Learnt` is the promise itself, as the check reads it off the function's contract.
use mathlib.Core.Path.{◌≡◌, sym, ◌∙◌}
use Rattle.fields.proofs.digits.bits.Reads as bits
use Rattle.fields.proofs.field.stop.Reads as stop
use Rattle.fields.proofs.line.read_line.Reads as read-line
use Rattle.fields.specs.Line.{reported}
use Rattle.fields.proofs.laws.Reports.{report_tells}

pub bits_determined : (κs : _) (a : _) (r r' : _) (s s' : _) → bits.Learnt κs a r s → bits.Learnt κs a r' s' → r ≡ r'
bits_determined κs a r r' s s' p q = p ∙ sym q

pub stop_determined : (κs : _) (a : _) (r r' : _) (s s' : _) → stop.Learnt κs a r s → stop.Learnt κs a r' s' → r ≡ r'
stop_determined κs a r r' s s' p q = p ∙ sym q

pub read_line_determined : (κs : _) (a : _) (r r' : _) (s s' : _) → read-line.Learnt κs a r s → read-line.Learnt κs a r' s' → r ≡ r'
read_line_determined κs a r r' s s' p q = p ∙ sym q

-- nothing of a read line is lost in its report, whichever lines the two calls had
pub read_line_reported : (κs κs' : _) (a a' : _) (r r' : _) (s s' : _) → read-line.Learnt κs a r s → read-line.Learnt κs' a' r' s' → reported r ≡ reported r' → r ≡ r'
read_line_reported κs κs' a a' r r' s s' p q e = report_tells r r' e
