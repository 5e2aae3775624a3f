use Rattle.sound.proofs.laws.Deciding.{decides_same}
use Rattle.shape.proofs.laws.Used.{zeros_at, used_marked}
use borrow.Author.Rules.{rules}
use Rattle.shape.proofs.used.children_fit.Goals as goal

pub children_follow-requires : goal.children_follow-requires
children_follow-requires c = zeros_at 20000

pub returns-then-children_follow : goal.returns-then-children_follow
returns-then-children_follow c = let f = c.children_follow.ensures in let e = c.if-children_follow.true in decides_same (λ u. record { children = f.decides.yes e; used = u }) (λ b. b.used) (used_marked c.args.tables.now.counts (f.marked e) (search rules) c.all_set.ensures)
