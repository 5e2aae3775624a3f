-- Which leaves are ripe after a split (02, L10): the leaf itself no more; another row as before, or if the vertex is new and it holds both ends of the edge; a child, if it holds both parents of a midpoint. A flag for each row is kept by these.
use Rattle.std.proofs.Common.{None, Option, Some}
use mathlib.Core.Path.{◌≡◌, refl}
use mathlib.Core.Bool.{Bool, true, false, ◌&&◌, ◌||◌}
use mathlib.Core.List.{List, [], ◌∷◌, ◌++◌}
use Prim.Native.Nat.{ℕ, zero, suc, ◌<◌}
use native.Mathlib.Numerals.{add-one}
use native.Mathlib.Omega.{arith}
use borrow.Author.Tests.{ne_eqb, eq-eqb}
use lib.Dec.{eqb}
use lib.ListN.{length, length-append, get_or-append}
use Rattle.split.specs.declared.row.Row.{Row}
use Rattle.split.specs.declared.row.Ends.{Ends}
use Rattle.split.specs.declared.point.Point.{Point}
use Rattle.split.specs.Split.{Side, left, right}
use Rattle.split.specs.Row.{edge_of, child_of}
use Rattle.split.proofs.laws.Rows.{row_step}
use Rattle.tables.specs.declared.record.Record.{Record}
use Rattle.tables.specs.Layout.{no_record}
use Rattle.intake.specs.Search.{any}
use Rattle.sound.specs.Sound.{place}
use Rattle.run.specs.Skeleton.{Skeleton, row_in}
use Rattle.run.specs.Ready.{Growing}
use Rattle.run.specs.Run.{has, holding, cut, record_for}
use Rattle.run.proofs.laws.Cuts.{edge_spread}
use Rattle.run.proofs.laws.Listed.{append_first, cut_old, cut_own, cut_first, cut_second}
use Rattle.completion.specs.Completion.{parents_in, ripe, split_at}

-- the vertex at which leaf s is split
abbrev pub vertex_for : Skeleton → ℕ → Option ℕ → ℕ
vertex_for S s (Some v) = v
vertex_for S s None = length S.records

any_same : (f g : ℕ → Bool) (n : ℕ) → ((k : ℕ) → k < n → f k ≡ g k) → any f n ≡ any g n
unfolding any
any_same f g zero h = refl
any_same f g (suc n) h = rw (any, any_same f g n (λ k l. h k (omega arith)), h n (omega arith))

shared : (a b c d : Bool) → a && (b || (c && d)) ≡ (a && b) || (a && c && d)
shared true b c d = refl
shared false b c d = refl

module _ (S : Skeleton) (s : ℕ) (f : Option ℕ) where
  rows_after : (split_at S s f).rows ≡ cut (vertex_for S s f) S.rows s
  rows_after = go f
    where
      go : (x : Option ℕ) → (split_at S s x).rows ≡ cut (vertex_for S s x) S.rows s
      go (Some v) = refl
      go None = refl

  -- the leaf that was split
  pub own_ripe : s < length S.rows → ripe (split_at S s f) s ≡ false
  unfolding ripe
  own_ripe h = rw (rows_after, cut_own (vertex_for S s f) S.rows s h, ne_eqb (length S.rows) 0 (λ e. omega arith))

  -- a row of before keeps its corners and children
  pub row_after : (r : ℕ) → r < length S.rows → (r ≡ s → ⊥) → row_in (split_at S s f).rows r ≡ row_in S.rows r
  row_after r h d = rw rows_after (cut_old (vertex_for S s f) S.rows s r h d)

  -- its children
  child_after : (x : Side) → row_in (split_at S s f).rows (place x (length S.rows)) ≡ child_of x (row_in S.rows s) s (vertex_for S s f)
  child_after left = rw rows_after (cut_first (vertex_for S s f) S.rows s)
  child_after right = rw rows_after (cut_second (vertex_for S s f) S.rows s)

  pub child_ripe : (x : Side) → ripe (split_at S s f) (place x (length S.rows)) ≡ any (parents_in (split_at S s f).records (child_of x (row_in S.rows s) s (vertex_for S s f))) (length (split_at S s f).records)
  unfolding ripe
  child_ripe x = rw (child_after x, eq-eqb _ 0 (row_step x (row_in S.rows s) s (vertex_for S s f)).leaf)

-- at a vertex that was there already nothing else becomes ripe
pub again_ripe : (S : Skeleton) (s v r : ℕ) → r < length S.rows → (r ≡ s → ⊥) → ripe (split_at S s (Some v)) r ≡ ripe S r
unfolding ripe
again_ripe S s v r h d = rw (cut_old v S.rows s r h d)

-- at a new vertex the leaves that hold both ends of the edge do
module _ {P : List Point} {i t : ℕ} {S : Skeleton} (y : Growing P i t S) (few : length S.records < 4294967295) (s : ℕ) (there : s < length S.rows) where
  abbrev e : Ends
  e = edge_of (row_in S.rows s)

  abbrev more : List Record
  more = S.records ++ (record_for (edge_of (row_in S.rows s)) ∷ [])

  old_parents : (r : Row) (v : ℕ) → v < length S.records → parents_in more r v ≡ parents_in S.records r v
  unfolding parents_in
  old_parents r v h = rw (get_or-append S.records (record_for e ∷ []) no_record v h)

  new_parents : (r : Row) → parents_in more r (length S.records) ≡ (has r e.small && has r e.large)
  unfolding parents_in
  new_parents r = rw (append_first S.records (length S.records) (record_for e) no_record [] refl, ne_eqb e.large 4294967295 (λ z. omega (arith, (edge_spread y.grown s there).below, z)))

  any_more : (r : Row) → any (parents_in more r) (length more) ≡ any (parents_in S.records r) (length S.records) || (has r e.small && has r e.large)
  unfolding any
  any_more r = rw (length-append S.records (record_for e ∷ []), add-one, any, new_parents r, any_same (parents_in more r) (parents_in S.records r) (length S.records) (old_parents r))

  pub new_ripe : (r : ℕ) → r < length S.rows → (r ≡ s → ⊥) → ripe (split_at S s None) r ≡ ripe S r || holding e (row_in S.rows r)
  unfolding ripe holding
  new_ripe r h d =
      let w = row_in S.rows r in
      rw (cut_old (length S.records) S.rows s r h d, any_more w) (shared (eqb w.child 0) (any (parents_in S.records w) (length S.records)) (has w e.small) (has w e.large))
