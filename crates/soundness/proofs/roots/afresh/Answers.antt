-- `soundness::roots::afresh`: the parts are the initial points and the front of the scratch table. Assumes nothing.
use mathlib.Core.Path.{sym}
use lib.Seq.{length-take-le}
use Rattle.soundness.proofs.laws.Roots.{points_within, points_few, decides_afresh}
use borrow.Author.Rules.{rules}
use Rattle.soundness.proofs.roots.afresh.Goals as goal

pub overflow_mul-initial : goal.overflow_mul-initial
overflow_mul-initial c = search (points_few c.requires.fitting c.requires.runs_within, rules)

pub slice_bounds-initial-end : goal.slice_bounds-initial-end
slice_bounds-initial-end c = sym (length-take-le _ _ (points_within c.requires.fitting c.requires.runs_within))

pub returns : goal.returns
returns c = decides_afresh c.requires.fitting c.requires.runs_within c.args.scratch.now c.requires.roots_in_bounds c.agrees.ensures.value
