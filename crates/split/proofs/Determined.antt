-- Two outcomes that meet a public function's promise are equal. `Learnt` is the promise itself, as the check reads it off the function's contract.
use mathlib.Core.Path.{◌≡◌, sym, ◌∙◌}
use Rattle.split.proofs.point.midpoint.Reads as midpoint
use Rattle.split.proofs.row.across.Reads as across
use Rattle.split.proofs.row.edge.Reads as edge
use Rattle.split.proofs.row.first.Reads as first
use Rattle.split.proofs.row.second.Reads as second
use Rattle.split.proofs.row.root.Reads as root
use Rattle.split.proofs.row.with_child.Reads as with-child
use Rattle.split.proofs.row.same_row.Reads as same_row

pub midpoint_determined : (κs : _) (a : _) (r r' : _) (s s' : _) → midpoint.Learnt κs a r s → midpoint.Learnt κs a r' s' → r ≡ r'
midpoint_determined κs a r r' s s' p q = p ∙ sym q

pub across_determined : (κs : _) (a : _) (r r' : _) (s s' : _) → across.Learnt κs a r s → across.Learnt κs a r' s' → r ≡ r'
across_determined κs a r r' s s' p q = p ∙ sym q

pub edge_determined : (κs : _) (a : _) (r r' : _) (s s' : _) → edge.Learnt κs a r s → edge.Learnt κs a r' s' → r ≡ r'
edge_determined κs a r r' s s' p q = p ∙ sym q

pub first_determined : (κs : _) (a : _) (r r' : _) (s s' : _) → first.Learnt κs a r s → first.Learnt κs a r' s' → r ≡ r'
first_determined κs a r r' s s' p q = p ∙ sym q

pub second_determined : (κs : _) (a : _) (r r' : _) (s s' : _) → second.Learnt κs a r s → second.Learnt κs a r' s' → r ≡ r'
second_determined κs a r r' s s' p q = p ∙ sym q

pub root_determined : (κs : _) (a : _) (r r' : _) (s s' : _) → root.Learnt κs a r s → root.Learnt κs a r' s' → r ≡ r'
root_determined κs a r r' s s' p q = p ∙ sym q

pub with_child_determined : (κs : _) (a : _) (r r' : _) (s s' : _) → with-child.Learnt κs a r s → with-child.Learnt κs a r' s' → r ≡ r'
with_child_determined κs a r r' s s' p q = p ∙ sym q

pub same_row_determined : (κs : _) (a : _) (r r' : _) (s s' : _) → same_row.Learnt κs a r s → same_row.Learnt κs a r' s' → r ≡ r'
same_row_determined κs a r r' s s' p q = p ∙ sym q
