use Rattle.shape.proofs.laws.Fitted.{fitting_inside}
use Rattle.shape.proofs.shaped.Goals as goal

pub invariant_of-tables : goal.invariant_of-tables
invariant_of-tables c = record { inside = fitting_inside (c.fits.ensures.yes c.if-not-fits.false) }
