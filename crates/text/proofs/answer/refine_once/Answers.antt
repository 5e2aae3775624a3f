use borrow.Author.Rules.{rules}
use Rattle.std.proofs.Common.{◌≡◌, Err, arith}
use Rattle.text.proofs.laws.Mesh.{once}
use Rattle.text.proofs.answer.refine_once.Goals as goal

pub print_mesh-requires : goal.print_mesh-requires
print_mesh-requires c = let e = c.in_ok-refined.was in search (once, rules)

pub returns-in_err-refined : goal.returns-in_err-refined
returns-in_err-refined c =
    let e = c.in_err-refined.was in
    let r : c.from_residual.result ≡ Err c.in_err-refined.field-0.0 = grind arith in
    search (once, rules)
