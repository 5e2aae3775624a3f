-- The split of a patch that no leaf blocks, on the tables.
use mathlib.Core.Path.{◌≡◌, refl, sym, ap, subst, ◌∙◌}
use mathlib.Core.Bool.{Bool, true, false, not}
use mathlib.Core.List.{List, [], ◌∷◌, ◌++◌, Memᴰ}
use mathlib.Core.Logic.{inl, inr}
use Prim.Native.Nat.{ℕ, zero, suc, ◌+◌, ◌-◌, ◌*◌, ◌/◌, ◌≤◌, ◌<◌}
use native.Mathlib.Omega.{arith}
use lib.Dec.{leb, ltb}
use lib.ListN.{length, get_or, length-append}
use borrow.Author.Tests.{lt-ltb, le-ltb, leb-true, leb-false, ltb-true, not-true, not-false}
use borrow.Author.Rules.{rules}
use Rattle.std.specs.Prelude.{Ok, Err}
use Rattle.split.specs.declared.row.Row.{Row}
use Rattle.split.specs.declared.row.Ends.{Ends}
use Rattle.split.specs.Row.{edge_of}
use Rattle.split.proofs.laws.Places.{le_or_lt}
use Rattle.tables.specs.declared.layout.Counts.{Counts}
use Rattle.tables.specs.declared.layout.Size.{Size}
use Rattle.tables.specs.Layout.{record_width, no_row, record_at, row_at, put_record, resized, most_rows}
use Rattle.tables.proofs.laws.Rows.{length_put_record}
use Rattle.tables.proofs.laws.View.{length_up_to, up_to_at}
use Rattle.run.specs.Skeleton.{Skeleton, row_in}
use Rattle.run.specs.Ready.{Open}
use Rattle.run.specs.Run.{holders, cut_all, cut, record_for, split_patch, Run, clear, Over, full}
use Rattle.run.specs.Run as run
use Rattle.run.proofs.laws.Listed.{cut_length}
use Rattle.run.proofs.laws.Holders.{holders_only}
use Rattle.run.specs.Ready as ready
use Rattle.run.proofs.laws.Reach.{reach_run}
use Rattle.closure.specs.declared.step.Full.{Full}
use Rattle.closure.specs.State.{rows_of, records_of, seen, links_at, patch_in, Patchable, Parted}
use Rattle.closure.specs.Refining.{Tables, Ran, Jammed, Refines, fits_in, Patched, Cuttable}
use Rattle.sound.proofs.laws.Searches.{and_both}
use Rattle.closure.proofs.laws.Answers.{of_value, value_only, of_error, error_only}
use Rattle.closure.proofs.laws.Index.{state_holds}
use Rattle.closure.proofs.laws.Rows.{record_other, records_next}

-- ---- the answers

pub refines_done : {r w r' w' s' : List ℕ} {c : Counts} {room : Size} {d : Counts} {q : ℕ} → Ran (seen r w c) q room r' w' s' d → Refines r w c room q (Ok d) r' w' s'
refines_done {d = d} x = record { done = of_value _ d x; full = value_only _ d }

pub refines_full : {r w r' w' s' : List ℕ} {c : Counts} {room : Size} {e : Full} {q : ℕ} → Jammed (seen r w c) q room r' w' s' e.counts → Refines r w c room q (Err e) r' w' s'
refines_full {e = e} x = record { done = error_only _ e; full = of_error _ e x }

-- ---- the test of room

pub fits_vertices : (room : Size) (d : Counts) (k : ℕ) → room.vertices ≤ d.vertices → ltb d.vertices room.vertices ≡ fits_in room d k
unfolding fits_in
fits_vertices room d k h = rw (le-ltb d.vertices room.vertices h)

pub fits_rows : (room : Size) (d : Counts) (k : ℕ) → d.vertices < room.vertices → leb (d.rows + 2 * k) room.rows ≡ fits_in room d k
unfolding fits_in
fits_rows room d k h = rw (lt-ltb d.vertices room.vertices h)

pub ruleset fit_tests = (fits_vertices, fits_rows)

fits_is : (room : Size) (d : Counts) (k : ℕ) → fits_in room d k ≡ true → (d.vertices < room.vertices) × (d.rows + 2 * k ≤ room.rows)
unfolding fits_in
fits_is room d k h = let (a, b) = and_both _ _ h in (ltb-true _ _ a, leb-true _ _ b)

-- ---- the patch in the scratch table

pub member_at : (l : List ℕ) (j : ℕ) → j < length l → Memᴰ (get_or l j 0) l
member_at [] j h = absurd (omega arith)
member_at (x ∷ l) zero h = Memᴰ.head refl
member_at (x ∷ l) (suc j) h = Memᴰ.tail (member_at l j (omega arith))

cut_all_length : (v : ℕ) (ss : List ℕ) (W : List Row) → length (cut_all v W ss) ≡ length W + 2 * length ss
unfolding cut_all
cut_all_length v [] W = omega arith
cut_all_length v (s ∷ ss) W = cut_all_length v ss (cut v W s) ∙ omega (arith, cut_length v W s)

patch_length : (s : List ℕ) (k : ℕ) → length (patch_in s k) ≡ k
patch_length s k = length_up_to (λ (i : ℕ). get_or s (length s - (links_at + k) + i) 0) k

pub patched_listed : {w s : List ℕ} {n q k : ℕ} → Patched w s n q k → (j : ℕ) → j < k → get_or s (length s - (links_at + k) + j) 0 < n
patched_listed {w} {s} {n} {q} {k} p j h =
    let e = edge_of (row_at w q) in
    let is : get_or (patch_in s k) j 0 ≡ get_or s (length s - (links_at + k) + j) 0 = up_to_at (λ (i : ℕ). get_or s (length s - (links_at + k) + i) 0) k j 0 h in
    let k' = subst (Memᴰ (get_or (patch_in s k) j 0)) p.patch (member_at (patch_in s k) j (omega (arith, patch_length s k))) in
    omega (arith, is, (holders_only (rows_of w n) e (get_or (patch_in s k) j 0) k').there, length_up_to (row_at w) n)

-- ---- the split

module _ {r w s : List ℕ} {d : Counts} {room : Size} {q k : ℕ} (x : Cuttable r w s d room q k) where
  abbrev T : Tables r w s d room
  T = x.sure.tables

  abbrev S : Skeleton
  S = seen r w d

  abbrev e : Ends
  e = edge_of (row_at w q)

  there : q < d.rows
  there = omega (arith, x.sure.ripe.there, length_up_to (row_at w) d.rows)

  row_is : row_in (rows_of w d.rows) q ≡ row_at w q
  row_is = up_to_at (row_at w) d.rows q no_row there

  edge_is : edge_of (row_in (rows_of w d.rows) q) ≡ e
  edge_is = ap edge_of row_is

  vertices_are : length (records_of r d.vertices) ≡ d.vertices
  vertices_are = length_up_to (record_at r) d.vertices

  patch_is : holders (rows_of w d.rows) (edge_of (row_in (rows_of w d.rows) q)) ≡ patch_in s k
  patch_is = ap (holders (rows_of w d.rows)) edge_is ∙ sym x.listed.patch

  pub cut_few : (d.rows ≤ most_rows) × (k ≤ most_rows)
  cut_few = (T.state.few, omega (arith, x.listed.size, T.state.few))

  -- where there is no room
  over : fits_in room d k ≡ false → Over room (split_patch S q)
  unfolding split_patch
  over f = elim (le_or_lt room.vertices d.vertices) [
    | inl l ↦ run.vertices (omega (arith, l, length-append (records_of r d.vertices) (record_for (edge_of (row_in (rows_of w d.rows) q)) ∷ []), vertices_are))
    | inr l ↦ let more : room.rows < d.rows + 2 * k = leb-false (d.rows + 2 * k) room.rows (fits_rows room d k l ∙ f) in
        run.rows (rw patch_is (omega (arith, more, cut_all_length (length (records_of r d.vertices)) (patch_in s k) (rows_of w d.rows), length_up_to (row_at w) d.rows, patch_length s k)))
  ]

  pub cut_full : {b : Bool} → b ≡ fits_in room d k → not b ≡ true → Refines r w d room q (Err (record { counts = d })) r w s
  cut_full {b} f z = refines_full (record { stuck = full x.clear (over (sym f ∙ not-true b z)); reach = ready.here refl; tables = T })

  -- where there is room
  module _ {b : Bool} (f : b ≡ fits_in room d k) (z : not b ≡ false) where
    room_is : (d.vertices < room.vertices) × (d.rows + 2 * k ≤ room.rows)
    room_is = fits_is room d k (sym f ∙ not-false b z)

    pub cut_ready : Patchable w s d.rows k d.vertices
    cut_ready =
        let (v, n) = room_is in
        record {
          state = T.state;
          room = omega (arith, n, T.rows_fit);
          few = omega (arith, n, T.few_rows);
          low = omega (arith, v, T.few_vertices);
          size = omega (arith, x.listed.size, state_holds T.state);
          listed = patched_listed x.listed;
        }

    module _ {r' w' s' : List ℕ} {given : Ends} (eg : given ≡ e) (eq : r' ≡ put_record r d.vertices (record_for given)) (p : Parted w s d.rows k d.vertices w' s') where
      er : r' ≡ put_record r d.vertices (record_for e)
      er = eq ∙ rw eg

      abbrev d' : Counts
      d' = resized d (d.vertices + 1) (d.rows + 2 * k)

      fit : d.vertices < length r / record_width
      fit = omega (arith, room_is.0, T.records_fit)

      split_is : seen r' w' d' ≡ split_patch S q
      unfolding split_patch
      split_is = λ j. record { records = records j; rows = rows j }
        where
          records : records_of r' (d.vertices + 1) ≡ records_of r d.vertices ++ (record_for (edge_of (row_in (rows_of w d.rows) q)) ∷ [])
          records = rw (er, edge_is) (records_next r d.vertices (record_for e) fit)

          rows : rows_of w' (d.rows + 2 * k) ≡ cut_all (length (records_of r d.vertices)) (rows_of w d.rows) (holders (rows_of w d.rows) (edge_of (row_in (rows_of w d.rows) q)))
          rows = rw (vertices_are, patch_is) p.rows

      ran : Run S q (seen r' w' d')
      ran = clear x.clear split_is

      cut_ran : Refines r w d room q (Ok d') r' w' s'
      cut_ran =
          let (v, n) = room_is in
          let same : length r' ≡ length r = rw er (length_put_record r d.vertices (record_for e)) in
          refines_done (record {
            run = ran;
            reach = reach_run x.sure.ripe ran (omega (arith, length_up_to (record_at r') (d.vertices + 1), v, T.few_vertices));
            tables = record {
              state = p.state;
              vertices_in = omega (arith, v);
              rows_in = n;
              few_vertices = T.few_vertices;
              few_rows = T.few_rows;
              records_fit = rw same T.records_fit;
              rows_fit = rw p.size T.rows_fit;
              blank = λ u h. rw er (record_other r d.vertices (record_for e) fit u (λ y. omega arith)) ∙ T.blank u (omega arith);
            };
          })

      pub cut_done : {a : Counts} → a ≡ d' → Refines r w d room q (Ok a) r' w' s'
      cut_done e = subst (λ (a : Counts). Refines r w d room q (Ok a) r' w' s') (sym e) cut_ran

pub ruleset cutting = (cut_few, cut_full, cut_ready, cut_done, rules)
