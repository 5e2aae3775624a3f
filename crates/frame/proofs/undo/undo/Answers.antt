use Rattle.std.proofs.Common.{◌≡◌, sym, ap, ◌∙◌, ℕ, List, length, ◌/◌, min, rules}
use Rattle.tables.specs.Layout.{no_row, no_record}
use Rattle.tables.specs.Steps.{over}
use Rattle.frame.specs.Undo.{restored, without_row, released}
use Rattle.frame.proofs.laws.Steps.{over_short, restored_ending, row_ending, record_ending}
use Rattle.frame.proofs.undo.undo.Goals as goal

pub returns-clause-rows_after : goal.returns-clause-rows_after
returns-clause-rows_after c =
    let back : c.put_each.new.table ≡ released c.args.rows.now c.args.c.rows = c.put_each.ensures (λ k held. restored c.args.c.rows held) (search rules) ∙ over_short (restored_ending _) _ _ _ _ c.min.ensures in
    let all : c.min-2.result ≡ min c.args.d.rows (length c.put_each.new.table / 8) = c.min-2.ensures ∙ ap (λ (n : ℕ). min c.args.d.rows (n / 8)) (sym c.put_each.auto.table) in
    c.put_each-2.ensures (λ k e. no_row) (search rules) ∙ over_short row_ending _ _ _ _ all ∙ ap (λ (l : List ℕ). over without_row l c.args.c.rows c.args.d.rows) back

pub returns-clause-records_after : goal.returns-clause-records_after
returns-clause-records_after c = c.put_each-3.ensures (λ k e. no_record) (search rules) ∙ over_short record_ending _ _ _ _ c.min-3.ensures
