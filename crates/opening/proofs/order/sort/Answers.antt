-- `order::sort`: its five calls are those of `sorted`; each vertex that is handed on is one of those compared. Assumes nothing.
use native.Mathlib.Omega.{arith}
use Rattle.opening.specs.Scratch.{colour_in}
use Rattle.opening.proofs.laws.Sorting.{in_order_known, first_known, second_known, sorted_is}
use Rattle.opening.proofs.order.sort.Goals as goal

pub pair-r-requires-clause-a_lt_most_vertices : goal.pair-r-requires-clause-a_lt_most_vertices
pair-r-requires-clause-a_lt_most_vertices c = omega (arith, first_known (colour_in c.args.paint.now) _ _ _ c.requires c.pair-p.ensures c.pair-q.ensures)

pub pair-r-requires-clause-b_lt_most_vertices : goal.pair-r-requires-clause-b_lt_most_vertices
pair-r-requires-clause-b_lt_most_vertices c = omega (arith, first_known (colour_in c.args.paint.now) _ _ _ c.requires c.pair-p.ensures c.pair-q.ensures)

pub pair-s-requires-clause-a_lt_most_vertices : goal.pair-s-requires-clause-a_lt_most_vertices
pair-s-requires-clause-a_lt_most_vertices c = omega (arith, first_known (colour_in c.args.paint.now) _ _ _ c.requires c.pair-p.ensures c.pair-q.ensures)

pub pair-s-requires-clause-b_lt_most_vertices : goal.pair-s-requires-clause-b_lt_most_vertices
pair-s-requires-clause-b_lt_most_vertices c = omega (arith, first_known (colour_in c.args.paint.now) _ _ _ c.requires c.pair-p.ensures c.pair-q.ensures)

pub pair-t-requires-clause-a_lt_most_vertices : goal.pair-t-requires-clause-a_lt_most_vertices
pair-t-requires-clause-a_lt_most_vertices c = let f = colour_in c.args.paint.now in
    let first = first_known f _ _ _ c.requires c.pair-p.ensures c.pair-q.ensures in
    omega (arith, second_known f _ _ _ _ first c.pair-r.ensures c.pair-s.ensures)

pub pair-t-requires-clause-b_lt_most_vertices : goal.pair-t-requires-clause-b_lt_most_vertices
pair-t-requires-clause-b_lt_most_vertices c = let f = colour_in c.args.paint.now in
    let first = first_known f _ _ _ c.requires c.pair-p.ensures c.pair-q.ensures in
    omega (arith, second_known f _ _ _ _ first c.pair-r.ensures c.pair-s.ensures)

pub returns : goal.returns
returns c = let f = colour_in c.args.paint.now in
    let first = first_known f _ _ _ c.requires c.pair-p.ensures c.pair-q.ensures in
    let second = second_known f _ _ _ _ first c.pair-r.ensures c.pair-s.ensures in (
      sorted_is f _ _ _ _ _ _ c.pair-p.ensures c.pair-q.ensures c.pair-r.ensures c.pair-s.ensures c.pair-t.ensures,
      omega (arith, second, in_order_known f _ _ _ c.pair-t.ensures second.second.low second.first.high),
    )
