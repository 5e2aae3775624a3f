use Prim.Native.Nat.{zero-le}
use mathlib.Core.List.{[]}
use borrow.Author.Rules.{rules}
use borrow.Author.Tests.{tests}
use Rattle.sound.specs.Check.{bare}
use Rattle.sound.proofs.laws.Deciding.{decides_same}
use Rattle.shape.specs.Shape.{IsParent}
use Rattle.shape.proofs.laws.Family.{mesh_rows}
use Rattle.shape.proofs.laws.Ranges.{decides_range}
use Rattle.shape.proofs.family.Counted.parents_follow.Goals as goal

pub returns : goal.returns
returns c = decides_same
    (λ f q h. f q zero-le (rw mesh_rows at h))
    (λ f q h l. f q (rw mesh_rows l))
    (decides_range (IsParent (bare [] c.args.self.now.rows.now c.args.self.now.counts) c.args.roots) c.all.ensures.ran (λ x q k. search (rules, tests)) (λ x q k. search (rules, tests)))
