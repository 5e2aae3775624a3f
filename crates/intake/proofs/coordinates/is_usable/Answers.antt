use lib.Ieee.{nan_bits, le}
use Rattle.intake.proofs.laws.Usable.{usable_by_order}
use Rattle.intake.proofs.coordinates.is_usable.Goals as goal

pub float_from_bits-most : goal.float_from_bits-most
unfolding nan_bits
float_from_bits-most c = tt

-- `le` is open, so that a test by `<` in its place leaves a false equation
pub returns-then-x-most : goal.returns-then-x-most
unfolding le
returns-then-x-most c = rw (usable_by_order, c.if-x-most.true)

pub returns-else-x-most : goal.returns-else-x-most
unfolding le
returns-else-x-most c = rw (usable_by_order, c.if-x-most.false)
