use borrow.Author.Rules.{rules}
use Rattle.std.proofs.Common.{◌≡◌, Err, arith}
use Rattle.text.proofs.laws.Answer.{answering}
use Rattle.text.proofs.answer.open_once.Goals as goal

pub returns-in_err-c : goal.returns-in_err-c
returns-in_err-c c =
    let e = c.in_err-c.was in
    let r : c.from_residual.result ≡ Err c.in_err-c.field-0.0 = grind arith in
    search (answering, rules)

pub refine_once-requires : goal.refine_once-requires
refine_once-requires c = let e = c.in_ok-c.was in search (answering, rules)

pub returns : goal.returns
returns c = let e = c.in_ok-c.was in search (answering, rules)
