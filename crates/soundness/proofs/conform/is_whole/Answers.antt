-- `soundness::conform::is_whole` meets its contract: the six pairs are asked. Assumes nothing.
use borrow.Author.Rules.{rules}
use borrow.Author.Tests.{tests}
use Rattle.std.proofs.lemmas.Iterator.{cases_from_all, YieldsList-from_slice}
use Rattle.soundness.proofs.laws.Conform.{Apart, six, whole_six}
use Rattle.soundness.proofs.conform.is_whole.Goals as goal

pub returns : goal.returns
returns c =
    let pairs = c.args.pairs.now in
    let apart = Apart pairs.records.now pairs.first pairs.end in
    whole_six pairs.rising c.read-held.ensures c.if-held-ne0.false _
    (cases_from_all _ _ _ apart (λ p. apart p → ⊥) c.all.ensures.ran (YieldsList-from_slice (six c.read-held.result) c.iter.ensures.rest) (λ x q k. search (rules, tests)) (λ x q k. search (rules, tests)))
