use Rattle.std.proofs.Common.{◌≡◌, ℕ, ◌≤◌, ◌<◌}
use Rattle.tables.specs.Steps.{over}
use Rattle.tables.proofs.entry.put_each.Given as goal

abbrev pub invariant-loop-k : goal.invariant-loop-k
invariant-loop-k g l =
    (l.from < l.k → l.k ≤ l.to)
    × ((f : ℕ → g.row.E.Denot → g.row.E.Denot) → ((k : ℕ) (e : g.row.E.Denot) (r : g.row.E.Denot) → k < l.to → goal.F-post g l.entry k e r → r ≡ f k e) → l.table ≡ over (λ t k. g.E.Entry.put t k (f k (g.E.Entry.at t k))) l.fn.table l.from l.k)
