use Rattle.std.proofs.Common.{ap, ◌∙◌, rules, tests, eqb}
use Rattle.std.proofs.lemmas.Iterator.Consumers.{nth_from_yields_List}
use Rattle.std.proofs.lemmas.Iterator.Splits.{YieldsList-from_slice_split}
use Rattle.fields.specs.Field.{parts, field_of}
use Rattle.fields.proofs.laws.Fields.{unwrap_or-nth}
use Rattle.fields.proofs.field.field.Goals as goal

pub returns : goal.returns
unfolding field_of parts
returns c =
    let e = nth_from_yields_List c.nth.result c.nth.new.self c.args.k c.nth.ensures.ran (YieldsList-from_slice_split _ (λ x. eqb x 9) c.args.line.now c.split.ensures.rest c.split.ensures.done c.split.ensures.closure (λ x b q k. search (rules, tests))) in
    ap (λ b. b.now) c.unwrap_or.ensures ∙ unwrap_or-nth (λ b. b.now) c.nth.result _ (parts 9 c.args.line.now) c.args.k e
