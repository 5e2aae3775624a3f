use borrow.Author.Rules.{rules}
use Rattle.text.proofs.laws.Mesh.{mesh_put}
use Rattle.text.proofs.mesh.print_lines.Goals as goal

pub returns : goal.returns
returns c = search (mesh_put, rules)
