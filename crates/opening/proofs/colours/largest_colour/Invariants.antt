use mathlib.Core.Path.{◌≡◌}
use Rattle.opening.specs.Scratch.{most_of}
use Rattle.opening.proofs.colours.largest_colour.Given as goal

abbrev pub invariant-loop-v : goal.invariant-loop-v
invariant-loop-v l = l.most ≡ most_of l.paint l.v
