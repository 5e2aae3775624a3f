use Rattle.frame.proofs.laws.Undo.{restoring}
use Rattle.frame.proofs.undo.restored.Goals as goal

pub returns-then-wide-n : goal.returns-then-wide-n
returns-then-wide-n c = search restoring

pub returns : goal.returns
returns c = search restoring
