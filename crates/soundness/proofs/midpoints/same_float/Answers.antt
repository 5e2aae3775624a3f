use mathlib.Core.Path.{sym, ◌∙◌}
use Rattle.soundness.proofs.laws.Midpoints.{same_nan, same_bits}
use Rattle.soundness.proofs.midpoints.same_float.Goals as goal

pub returns-then-is_nan : goal.returns-then-is_nan
returns-then-is_nan c = same_nan _ _ (sym c.is_nan.ensures.value ∙ c.if-is_nan.true) c.is_nan-then-is_nan.ensures.value

pub returns-then-not-is_nan : goal.returns-then-not-is_nan
returns-then-not-is_nan c = same_bits _ _ c.well_formed.0.1 c.well_formed.1.0.1
