use Rattle.closure.proofs.laws.Looking.{looks}
use Rattle.closure.proofs.looking.look.Goals as goal

pub gather-size-requires : goal.gather-size-requires
gather-size-requires c = search looks

pub first_other-other-requires : goal.first_other-other-requires
first_other-other-requires c = search looks

pub returns : goal.returns
returns c = search looks
