-- Two outcomes that meet a public function's promise are equal. `Learnt` is the promise itself, as the check reads it off the function's contract, and `s.0` is the first lent table at exit.
use mathlib.Core.Path.{◌≡◌, sym, ◌∙◌}
use Rattle.frame.proofs.marks.judge.Reads as judge
use Rattle.frame.proofs.points.fill.Reads as fill
use Rattle.frame.proofs.undo.undo.Reads as undo

pub judge_determined : (κs : _) (a : _) (r r' : _) (s s' : _) → judge.Learnt κs a r s → judge.Learnt κs a r' s' → r ≡ r'
judge_determined κs a r r' s s' p q = p ∙ sym q

pub fill_determined : (κs : _) (a : _) (r r' : _) (s s' : _) → fill.Learnt κs a r s → fill.Learnt κs a r' s' → s.0.now ≡ s'.0.now
fill_determined κs a r r' s s' p q = p ∙ sym q

pub undo_rows_determined : (κs : _) (a : _) (r r' : _) (s s' : _) → undo.Learnt κs a r s → undo.Learnt κs a r' s' → s.1.0.now ≡ s'.1.0.now
undo_rows_determined κs a r r' s s' p q = p.0 ∙ sym q.0

pub undo_records_determined : (κs : _) (a : _) (r r' : _) (s s' : _) → undo.Learnt κs a r s → undo.Learnt κs a r' s' → s.0.now ≡ s'.0.now
undo_records_determined κs a r r' s s' p q = p.1 ∙ sym q.1
