-- `chain::push` meets its contract: each early return is a guard that fails. Assumes nothing.
use mathlib.Core.Path.{sym}
use borrow.Author.Rules.{rules}
use lib.ListN.{length-set}
use Rattle.chain.proofs.laws.Pushed.{pushed_keyless, pushed_roomless, pushed_late, pushed_stored}
use Rattle.chain.proofs.push.Goals as goal

pub returns-then-base-key : goal.returns-then-base-key
returns-then-base-key c = sym (pushed_keyless _ _ _ _ (search rules))

pub returns-then-index-base : goal.returns-then-index-base
returns-then-index-base c = sym (pushed_roomless _ _ _ _ (search rules))

pub returns-then-index-base-2 : goal.returns-then-index-base-2
returns-then-index-base-2 c = sym (pushed_roomless _ _ _ _ (search rules))

pub returns-then-i-ge4294967295 : goal.returns-then-i-ge4294967295
returns-then-i-ge4294967295 c = sym (pushed_late _ _ _ _ (search rules))

pub bounds-index-key-2 : goal.bounds-index-key-2
bounds-index-key-2 c = rw length-set (search rules)

pub returns : goal.returns
returns c = sym (pushed_stored _ _ _ _ (search rules) (search rules) (search rules))
