use borrow.Author.Rules.{rules}
use Rattle.std.proofs.Common.{◌≡◌, Ok, arith}
use Rattle.text.proofs.laws.Loop.{one, one_fault}
use Rattle.text.proofs.input.read_one.Goals as goal

pub returns-then-end-text : goal.returns-then-end-text
returns-then-end-text c = search (one, rules)

pub slice_bounds-read_line-count : goal.slice_bounds-read_line-count
slice_bounds-read_line-count c = search (one, rules)

pub slice_bounds-read_line-start : goal.slice_bounds-read_line-start
slice_bounds-read_line-start c = search (one, rules)

pub slice_bounds-read_line-end : goal.slice_bounds-read_line-end
slice_bounds-read_line-end c = search (one, rules)

pub returns-in_err-map_err : goal.returns-in_err-map_err
returns-in_err-map_err c = let e = c.in_err-map_err.was in grind (arith, one_fault)

pub returns : goal.returns
returns c =
    let e = c.in_ok-map_err.was in
    let t : c.take.result ≡ Ok tt = grind arith in
    search (one, rules)
