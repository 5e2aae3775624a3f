-- Two outcomes that meet a public function's promise are equal. `Learnt` is the promise itself, as the check reads it off the function's contract.
-- `write` returns nothing: its outcome is what the table holds at exit, the first part of `s`. Of `element` it is what the part shows.
use mathlib.Core.Path.{◌≡◌, sym, ◌∙◌}
use Rattle.tables.proofs.layout.started.Reads as started
use Rattle.tables.proofs.layout.resized.Reads as resized
use Rattle.tables.proofs.layout.least.Reads as least
use Rattle.tables.proofs.layout.room.Reads as room
use Rattle.tables.proofs.refusal.U32FromCause.from.Reads as number
use Rattle.tables.proofs.refusal.Cause.at.Reads as cause_at
use Rattle.tables.proofs.row.RowEntry.unused.Reads as row-unused
use Rattle.tables.proofs.row.RowEntry.read.Reads as row_read
use Rattle.tables.proofs.row.RowEntry.write.Reads as row_write
use Rattle.tables.proofs.record.RecordEntry.unused.Reads as record-unused
use Rattle.tables.proofs.record.RecordEntry.read.Reads as record-read
use Rattle.tables.proofs.record.RecordEntry.write.Reads as record-write
use Rattle.tables.proofs.point.PointEntry.unused.Reads as point-unused
use Rattle.tables.proofs.point.PointEntry.read.Reads as point_read
use Rattle.tables.proofs.point.PointEntry.write.Reads as point-write
use Rattle.tables.proofs.show.element.Reads as element

pub started_determined : (κs : _) (a : _) (r r' : _) (s s' : _) → started.Learnt κs a r s → started.Learnt κs a r' s' → r ≡ r'
started_determined κs a r r' s s' p q = p ∙ sym q

pub resized_determined : (κs : _) (a : _) (r r' : _) (s s' : _) → resized.Learnt κs a r s → resized.Learnt κs a r' s' → r ≡ r'
resized_determined κs a r r' s s' p q = p ∙ sym q

pub least_determined : (κs : _) (a : _) (r r' : _) (s s' : _) → least.Learnt κs a r s → least.Learnt κs a r' s' → r ≡ r'
least_determined κs a r r' s s' p q = p ∙ sym q

pub room_determined : (κs : _) (a : _) (r r' : _) (s s' : _) → room.Learnt κs a r s → room.Learnt κs a r' s' → r ≡ r'
room_determined κs a r r' s s' p q = p ∙ sym q

pub number_determined : (κs : _) (a : _) (r r' : _) (s s' : _) → number.Learnt κs a r s → number.Learnt κs a r' s' → r ≡ r'
number_determined κs a r r' s s' p q = p ∙ sym q

pub cause_at_determined : (κs : _) (a : _) (r r' : _) (s s' : _) → cause_at.Learnt κs a r s → cause_at.Learnt κs a r' s' → r ≡ r'
cause_at_determined κs a r r' s s' p q = p ∙ sym q

pub row_unused_determined : (κs : _) (a : _) (r r' : _) (s s' : _) → row-unused.Learnt κs a r s → row-unused.Learnt κs a r' s' → r ≡ r'
row_unused_determined κs a r r' s s' p q = p ∙ sym q

pub row_read_determined : (κs : _) (a : _) (r r' : _) (s s' : _) → row_read.Learnt κs a r s → row_read.Learnt κs a r' s' → r ≡ r'
row_read_determined κs a r r' s s' p q = p ∙ sym q

pub row_write_determined : (κs : _) (a : _) (r r' : _) (s s' : _) → row_write.Learnt κs a r s → row_write.Learnt κs a r' s' → s.1.0.now ≡ s'.1.0.now
row_write_determined κs a r r' s s' p q = p ∙ sym q

pub record_read_determined : (κs : _) (a : _) (r r' : _) (s s' : _) → record-read.Learnt κs a r s → record-read.Learnt κs a r' s' → r ≡ r'
record_read_determined κs a r r' s s' p q = p ∙ sym q

pub record_write_determined : (κs : _) (a : _) (r r' : _) (s s' : _) → record-write.Learnt κs a r s → record-write.Learnt κs a r' s' → s.1.0.now ≡ s'.1.0.now
record_write_determined κs a r r' s s' p q = p ∙ sym q

pub point_read_determined : (κs : _) (a : _) (r r' : _) (s s' : _) → point_read.Learnt κs a r s → point_read.Learnt κs a r' s' → r ≡ r'
point_read_determined κs a r r' s s' p q = p ∙ sym q

pub point_write_determined : (κs : _) (a : _) (r r' : _) (s s' : _) → point-write.Learnt κs a r s → point-write.Learnt κs a r' s' → s.1.0.now ≡ s'.1.0.now
point_write_determined κs a r r' s s' p q = p ∙ sym q

pub element_determined : (κs : _) (a : _) (r r' : _) (s s' : _) → element.Learnt κs a r s → element.Learnt κs a r' s' → r.now ≡ r'.now
element_determined κs a r r' s s' p q = p ∙ sym q

pub record_unused_determined : (κs : _) (a : _) (r r' : _) (s s' : _) → record-unused.Learnt κs a r s → record-unused.Learnt κs a r' s' → r ≡ r'
record_unused_determined κs a r r' s s' p q = p ∙ sym q

pub point_unused_determined : (κs : _) (a : _) (r r' : _) (s s' : _) → point-unused.Learnt κs a r s → point-unused.Learnt κs a r' s' → r ≡ r'
point_unused_determined κs a r r' s s' p q = p ∙ sym q
