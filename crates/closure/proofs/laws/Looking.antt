-- Looking at a patch: it is listed, and the first leaf that blocks is found.
use Rattle.std.proofs.Common.{Option}
use mathlib.Core.Path.{◌≡◌, ◌∙◌}
use mathlib.Core.List.{List}
use Prim.Native.Nat.{ℕ, ◌<◌}
use native.Mathlib.Omega.{arith}
use borrow.Author.Rules.{rules}
use Rattle.split.specs.declared.row.Row.{Row}
use Rattle.split.specs.declared.row.Ends.{Ends}
use Rattle.split.specs.Row.{edge_of}
use Rattle.tables.specs.Layout.{no_row, row_at}
use Rattle.tables.proofs.laws.View.{up_to_at}
use Rattle.run.specs.Run.{other_in}
use Rattle.run.proofs.laws.Edge.{own_both}
use Rattle.closure.specs.State.{rows_of, links_at, patch_in, EndOf, small, large, Gatherable, Gathers, Listed}
use Rattle.closure.specs.Refining.{Patched, Lookable, Looks}
use Rattle.closure.proofs.laws.Index.{Under, state_holds, state_under}
use Rattle.closure.proofs.laws.Cutting.{patched_listed}

-- both ends of a row's edge are vertices of it
end_under : (n : ℕ) (r : Row) (a : ℕ) → Under n r → EndOf (edge_of r) a → a < n
end_under n r a u (small e) = let h = (own_both r).small in rw (e, ← h.is) (u h.place h.inside)
end_under n r a u (large e) = let h = (own_both r).large in rw (e, ← h.is) (u h.place h.inside)

module _ {w s : List ℕ} {n q : ℕ} (x : Lookable w s n q) {e : Ends} (is : e ≡ edge_of (row_at w q)) where
  pub look_ready : {a : ℕ} → EndOf e a → Gatherable w s n e a
  look_ready {a} o = record { state = x.state; distinct = x.distinct; end = o; low = end_under links_at (row_at w q) a (state_under x.state q x.there) (rw is at o) }

  module _ {k : ℕ} {s' : List ℕ} (g : Gathers w n e k s') where
    patched : Patched w s' n q k
    patched = record { patch = rw is at g.patch; size = g.size }

    pub look_listed : Listed s' n k
    look_listed = record { size = omega (arith, g.size, state_holds g.state); few = omega (arith, g.size, g.state.few); listed = patched_listed patched }

    pub look_done : {f : Option ℕ} → f ≡ other_in (rows_of w n) e (patch_in s' k) → Looks w n q (record { other = f; size = k }) s'
    look_done h = record {
      state = g.state;
      listed = patched;
      other = h ∙ rw (g.patch, is, ← up_to_at (row_at w) n q no_row x.there);
    }

pub ruleset looks = (look_ready, look_listed, look_done, rules)
