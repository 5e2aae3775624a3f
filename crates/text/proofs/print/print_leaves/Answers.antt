use Rattle.std.proofs.Common.{refl, ◌∙◌, arith}
use Rattle.std.proofs.lemmas.List.{length_push}
use Rattle.std.proofs.lemmas.Slice.Zip.{zip_turn, zip_end}
use Rattle.text.proofs.laws.Printing.{leaves_start, leaves_next, leaves_all}
use Rattle.text.proofs.print.print_leaves.Goals as goal

pub loop-k-init : goal.loop-k-init
loop-k-init c = record { same = refl; leaves = leaves_start c.requires }

pub loop-k-preserved : goal.loop-k-preserved
loop-k-preserved c =
    let t = zip_turn c.args.list.now c.args.levels.now c.loop-k.yielded c.into_iter-k-iterator.result c.loop-k.k-iterator c.next.new.self _ (cc) (cc) c.loop-k.yielded_by _ c.in-Some.is c.next.ensures.steps in
    rw (length_push c.loop-k.yielded (c.in-Some.field-0-0, c.in-Some.field-0-1)) (record {
      same = c.print_leaf.ensures.same ∙ c.loop-k.invariant.same;
      leaves = leaves_next c.loop-k.invariant.leaves t.0 (t.2 0) (t.3 0) c.print_leaf.ensures.puts;
    })

pub returns : goal.returns
returns c =
    let t = zip_end c.args.list.now c.args.levels.now c.loop-k.yielded c.into_iter-k-iterator.result c.loop-k.k-iterator c.next.new.self _ (cc) (cc) c.loop-k.yielded_by c.in-None.is c.next.ensures.steps in
    record { same = c.loop-k.invariant.same; puts = leaves_all c.loop-k.invariant.leaves (omega (arith, t, c.requires.levelled)) }
