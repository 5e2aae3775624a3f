use borrow.Author.Rules.{rules}
use Rattle.text.proofs.laws.Written.{written}
use Rattle.lampethor.proofs.main.Goals as goal

pub slice_bounds-out-end : goal.slice_bounds-out-end
slice_bounds-out-end c = search (written, rules)

pub slice_bounds-write_all-end : goal.slice_bounds-write_all-end
slice_bounds-write_all-end c = search (written, rules)
