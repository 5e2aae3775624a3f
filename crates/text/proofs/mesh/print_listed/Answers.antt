use borrow.Author.Rules.{rules}
use Rattle.text.proofs.laws.Mesh.{listing_laws}
use Rattle.text.proofs.mesh.print_listed.Goals as goal

pub returns-in-Ok : goal.returns-in-Ok
returns-in-Ok c = search (listing_laws, rules)

pub returns-in-Err : goal.returns-in-Err
returns-in-Err c = search (listing_laws, rules)
