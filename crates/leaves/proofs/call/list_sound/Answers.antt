use borrow.Author.Rules.{rules}
use Rattle.leaves.proofs.laws.Filling.{rooming, room_short}
use Rattle.leaves.proofs.call.list_sound.Goals as goal

pub returns-then-list-size : goal.returns-then-list-size
returns-then-list-size c = room_short c.requires c.count_leaves-size.ensures _ _ c.then-list-size.either c.at.ensures

pub fill-requires : goal.fill-requires
fill-requires c = search (rooming, rules)

pub returns : goal.returns
returns c = search (rooming, rules)
