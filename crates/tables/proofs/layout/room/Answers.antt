use Rattle.tables.specs.Layout.{room_of}
use Rattle.tables.proofs.layout.room.Goals as goal

pub returns : goal.returns
unfolding room_of
returns c = cc
