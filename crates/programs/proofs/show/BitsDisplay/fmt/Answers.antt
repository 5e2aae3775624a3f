use Rattle.std.proofs.Common.{rules}
use Rattle.programs.specs.Shown.{bits_text}
use Rattle.programs.proofs.show.BitsDisplay.fmt.Goals as goal

pub returns-then-is_nan-clause-writes : goal.returns-then-is_nan-clause-writes
unfolding bits_text
returns-then-is_nan-clause-writes g c = search rules

pub returns-clause-writes : goal.returns-clause-writes
unfolding bits_text
returns-clause-writes g c = search rules
