-- `opening::index::fill` meets its contract. The loop's invariant: the first q slots of element k are in the index. Assumes nothing.
use Rattle.opening.proofs.laws.Indexing.{filling_start, filling_end}
use Rattle.opening.proofs.laws.Faces.{place_vertex}
use borrow.Author.Rules.{rules}
use Rattle.opening.proofs.index.fill.Goals as goal

pub loop-q-init : goal.loop-q-init
loop-q-init c = search (filling_start, rules)

pub put-requires-clause-v_value : goal.put-requires-clause-v_value
put-requires-clause-v_value c = search (place_vertex, rules)

pub returns : goal.returns
returns c = search (filling_end, rules)
