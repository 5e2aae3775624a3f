use Rattle.std.proofs.Common.{rules}
use Rattle.intake.specs.Causes.{has_no_room}
use Rattle.intake.proofs.laws.Tests.{tests}
use Rattle.intake.proofs.lengths.too_many.Goals as goal

pub returns-then-room-vertices : goal.returns-then-room-vertices
unfolding has_no_room
returns-then-room-vertices c = search (tests, rules)

pub returns-else-room-vertices : goal.returns-else-room-vertices
unfolding has_no_room
returns-else-room-vertices c = search (tests, rules)
