-- `opening::agree::records_agree` meets its contract.
use mathlib.Core.Path.{refl}
use Rattle.std.proofs.Common.{rules, arith, tests}
use Rattle.std.proofs.lemmas.Iterator.{YieldsList-from_range}
use Rattle.std.proofs.lemmas.Iterator.Search.{all_from_yields_List}
use Rattle.opening.specs.Agree.{same_record, records_agree}
use Rattle.opening.proofs.laws.Agree.{every_in}
use Rattle.opening.proofs.agree.records_agree.Goals as goal

pub returns : goal.returns
unfolding same_record records_agree
returns c = every_in _ _ (all_from_yields_List _ _ _ c.all.result c.all.ensures.ran (YieldsList-from_range 0 c.args.mesh.now.vertices c.args.mesh.now.vertices refl (omega arith)) (λ x b q k. search (rules, tests)))
