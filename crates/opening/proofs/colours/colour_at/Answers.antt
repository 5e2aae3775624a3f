-- `opening::colours::colour_at` meets its contract: the flags are the taken colours.
use Rattle.opening.proofs.laws.Painted.{position_colour}
use Rattle.opening.proofs.colours.colour_at.Goals as goal

pub returns-in_err-c : goal.returns-in_err-c
returns-in_err-c c = cc (position_colour c.mark_neighbours.ensures, c.in_err-c.was)

pub returns : goal.returns
returns c = cc (position_colour c.mark_neighbours.ensures, c.in_ok-c.was)
