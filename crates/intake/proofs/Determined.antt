-- Two outcomes that meet a public function's promise are equal. `Learnt` is the promise itself, as the check reads it off the function's contract.
use mathlib.Core.Path.{◌≡◌, sym, ◌∙◌}
use Rattle.intake.proofs.grid.number_at.Reads as number_at
use Rattle.intake.proofs.grid.vertex_at.Reads as vertex-at
use Rattle.intake.proofs.grid.corners.Reads as corners
use Rattle.intake.proofs.reason.CauseReason.at.Reads as reason-cause
use Rattle.intake.proofs.reason.U32Reason.at.Reads as reason-number
use Rattle.intake.proofs.refused_at.Reads as refused-at
use Rattle.intake.proofs.verdict_at.Reads as verdict-at
use Rattle.intake.proofs.judge_lengths.Reads as judge-lengths
use Rattle.intake.proofs.judge_numbers.Reads as judge-numbers

pub reason_cause_determined : (κs : _) (a : _) (r r' : _) (s s' : _) → reason-cause.Learnt κs a r s → reason-cause.Learnt κs a r' s' → r ≡ r'
reason_cause_determined κs a r r' s s' p q = p ∙ sym q

pub reason_number_determined : (κs : _) (a : _) (r r' : _) (s s' : _) → reason-number.Learnt κs a r s → reason-number.Learnt κs a r' s' → r ≡ r'
reason_number_determined κs a r r' s s' p q = p ∙ sym q

-- for every kind of reason, with what it comes back with and its laws
pub verdict_at_determined : (A B C D : _) (copy copy' reason d clone d' clone' d'' : _) (κs : _) (a : _) (r r' : _) (s s' : _) → verdict-at.Learnt A B C D copy copy' reason d clone d' clone' d'' κs a r s → verdict-at.Learnt A B C D copy copy' reason d clone d' clone' d'' κs a r' s' → r ≡ r'
verdict_at_determined A B C D copy copy' reason d clone d' clone' d'' κs a r r' s s' p q = p ∙ sym q

pub refused_at_determined : (κs : _) (a : _) (r r' : _) (s s' : _) → refused-at.Learnt κs a r s → refused-at.Learnt κs a r' s' → r ≡ r'
refused_at_determined κs a r r' s s' p q = p ∙ sym q

pub judge_lengths_determined : (κs : _) (a : _) (r r' : _) (s s' : _) → judge-lengths.Learnt κs a r s → judge-lengths.Learnt κs a r' s' → r ≡ r'
judge_lengths_determined κs a r r' s s' p q = p ∙ sym q

pub judge_numbers_determined : (κs : _) (a : _) (r r' : _) (s s' : _) → judge-numbers.Learnt κs a r s → judge-numbers.Learnt κs a r' s' → r ≡ r'
judge_numbers_determined κs a r r' s s' p q = p ∙ sym q

pub number_at_determined : (κs : _) (a : _) (r r' : _) (s s' : _) → number_at.Learnt κs a r s → number_at.Learnt κs a r' s' → r ≡ r'
number_at_determined κs a r r' s s' p q = p ∙ sym q

pub vertex_at_determined : (κs : _) (a : _) (r r' : _) (s s' : _) → vertex-at.Learnt κs a r s → vertex-at.Learnt κs a r' s' → r ≡ r'
vertex_at_determined κs a r r' s s' p q = p ∙ sym q

pub corners_determined : (κs : _) (a : _) (r r' : _) (s s' : _) → corners.Learnt κs a r s → corners.Learnt κs a r' s' → r ≡ r'
corners_determined κs a r r' s s' p q = p ∙ sym q
