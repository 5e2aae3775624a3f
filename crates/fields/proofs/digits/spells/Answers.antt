use borrow.Author.Rules.{rules}
use Rattle.fields.proofs.laws.Reading.{spelling}
use Rattle.fields.proofs.digits.spells.Goals as goal

pub returns-then-base-d : goal.returns-then-base-d
returns-then-base-d c = let e = c.in_ok-d.was in search (spelling, rules)

pub overflow_mul-n : goal.overflow_mul-n
overflow_mul-n c = let e = c.in_ok-d.was in search (spelling, rules)

pub overflow_add-n : goal.overflow_add-n
overflow_add-n c = let e = c.in_ok-d.was in search (spelling, rules)

pub loop-x-preserved : goal.loop-x-preserved
loop-x-preserved c = let e = c.in_ok-d.was in search (spelling, rules)
