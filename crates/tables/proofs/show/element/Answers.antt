use mathlib.Core.Path.{sym}
use native.Mathlib.Nat.{add-sub_cancel_left}
use native.Mathlib.Omega.{arith}
use Rattle.tables.proofs.laws.Show.{shown_empty, shown_whole}
use Rattle.tables.proofs.show.element.Goals as goal

pub returns-then-table-count : goal.returns-then-table-count
returns-then-table-count c = sym (shown_empty _ _ _ (λ h k. omega arith))

pub returns-then-count-row : goal.returns-then-count-row
returns-then-count-row c = sym (shown_empty _ _ _ (λ h k. omega arith))

pub returns : goal.returns
returns c = rw add-sub_cancel_left (sym (shown_whole _ _ _ (omega arith) (omega arith)))
