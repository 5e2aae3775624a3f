use mathlib.Core.Path.{refl}
use Rattle.soundness.specs.Check.{key_of}
use Rattle.soundness.proofs.heads.Heads.key.Goals as goal

pub returns-in-Few-clause-value : goal.returns-in-Few-clause-value
unfolding key_of
returns-in-Few-clause-value c = rw (c.in-Few.is, c.wide.ensures, c.wide-2.ensures) refl

pub returns-in-Many-clause-value : goal.returns-in-Many-clause-value
unfolding key_of
returns-in-Many-clause-value c = rw (c.in-Many.is, c.wide.ensures, c.wide-2.ensures) refl
