use Rattle.shape.proofs.laws.Zero.{decides_zero}
use Rattle.shape.proofs.unused.is_zero.Goals as goal

pub returns-then-not-is_nan : goal.returns-then-not-is_nan
returns-then-not-is_nan c = decides_zero _ c.well_formed.0.1
