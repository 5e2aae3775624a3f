use borrow.Author.Rules.{rules}
use Rattle.opening.proofs.laws.Earlier.{tallying, tally_start}
use Rattle.opening.proofs.faces.tally.Goals as goal

pub loop-at-init : goal.loop-at-init
loop-at-init c = tally_start c.args.k c.args.t.a c.args.mesh.now.plain c.requires.filled c.requires.first_lt_vertices c.wide.ensures c.wide-at.ensures

pub note-s-requires : goal.note-s-requires
note-s-requires c = search (tallying, rules)

pub bounds-index-i : goal.bounds-index-i
bounds-index-i c = search (tallying, rules)

pub loop-at-smaller : goal.loop-at-smaller
loop-at-smaller c = search (tallying, rules)

pub loop-at-preserved : goal.loop-at-preserved
loop-at-preserved c = search (tallying, rules)

pub returns : goal.returns
returns c = search (tallying, rules)
