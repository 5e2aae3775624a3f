use native.Mathlib.Omega.{arith}
use Rattle.opening.proofs.laws.Sorting.{read_low}
use Rattle.opening.proofs.laws.Marks.{painted_low}
use Rattle.opening.proofs.colours.mark_element.Goals as goal

pub mark-requires-clause-u_lt_most_vertices : goal.mark-requires-clause-u_lt_most_vertices
mark-requires-clause-u_lt_most_vertices c = omega (arith, read_low _ _ c.corners-w.ensures c.args.mesh.now.plain c.requires.k_lt_count)

pub mark-requires-clause-small : goal.mark-requires-clause-small
mark-requires-clause-small c = painted_low _ c.requires.painted

pub mark-requires-2-clause-u_lt_most_vertices : goal.mark-requires-2-clause-u_lt_most_vertices
mark-requires-2-clause-u_lt_most_vertices c = omega (arith, read_low _ _ c.corners-w.ensures c.args.mesh.now.plain c.requires.k_lt_count)

pub mark-requires-2-clause-small : goal.mark-requires-2-clause-small
mark-requires-2-clause-small c = painted_low _ c.requires.painted

pub mark-requires-3-clause-u_lt_most_vertices : goal.mark-requires-3-clause-u_lt_most_vertices
mark-requires-3-clause-u_lt_most_vertices c = omega (arith, read_low _ _ c.corners-w.ensures c.args.mesh.now.plain c.requires.k_lt_count)

pub mark-requires-3-clause-small : goal.mark-requires-3-clause-small
mark-requires-3-clause-small c = painted_low _ c.requires.painted

pub mark-requires-4-clause-u_lt_most_vertices : goal.mark-requires-4-clause-u_lt_most_vertices
mark-requires-4-clause-u_lt_most_vertices c = omega (arith, read_low _ _ c.corners-w.ensures c.args.mesh.now.plain c.requires.k_lt_count)

pub mark-requires-4-clause-small : goal.mark-requires-4-clause-small
mark-requires-4-clause-small c = painted_low _ c.requires.painted
