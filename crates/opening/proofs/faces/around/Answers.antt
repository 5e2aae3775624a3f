use Rattle.opening.proofs.laws.Faces.{turned_there, around_turned}
use Rattle.opening.proofs.faces.around.Goals as goal

pub tally-s-requires-clause-first_lt_vertices : goal.tally-s-requires-clause-first_lt_vertices
tally-s-requires-clause-first_lt_vertices c = turned_there _ _ c.args.mesh.now.plain c.requires.k_lt_count c.requires.w_value c.requires.m_bound c.turned.ensures

pub returns : goal.returns
returns c = around_turned _ _ _ c.requires.w_value c.requires.m_bound c.turned.ensures c.tally-s.ensures c.crowded.ensures
