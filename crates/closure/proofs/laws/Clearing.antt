-- Refining a leaf and clearing its patch, each by the other.
use Rattle.std.proofs.Common.{None, Some}
use mathlib.Core.Path.{◌≡◌, refl, sym, subst, ◌∙◌}
use mathlib.Core.List.{List}
use Prim.Native.Nat.{ℕ, ◌+◌, ◌-◌, ◌*◌, ◌<◌}
use native.Mathlib.Omega.{arith}
use lib.ListN.{length}
use borrow.Author.Rules.{rules}
use Rattle.std.specs.Prelude.{Result, Ok, Err}
use Rattle.split.specs.Split.{Distinct}
use Rattle.split.specs.Row.{corners_of}
use Rattle.tables.specs.declared.layout.Counts.{Counts}
use Rattle.tables.specs.declared.layout.Size.{Size}
use Rattle.tables.specs.Layout.{no_row, record_at, row_at}
use Rattle.tables.proofs.laws.View.{length_up_to, up_to_at}
use Rattle.sound.proofs.laws.Placed.{row_distinct}
use Rattle.run.specs.Ready.{rank_in}
use Rattle.run.specs.Ready as ready
use Rattle.run.specs.Run.{blocking, blocked, below, after}
use Rattle.run.proofs.laws.Runs.{run_records, block_open}
use Rattle.run.proofs.laws.Reach.{reach_ready, reach_on, block_less, rank_stays, waits}
use Rattle.closure.specs.declared.step.Look.{Look}
use Rattle.closure.specs.declared.step.Clear.{Clear}
use Rattle.closure.specs.declared.step.Full.{Full}
use Rattle.closure.specs.State.{rows_of, seen, State}
use Rattle.closure.specs.Refining.{Tables, Sure, Jammed, Refines, Cuttable, Lookable, Looks, Clearing, Cleared, Clears}
use Rattle.closure.proofs.laws.Answers.{of_value, value_only, of_error, error_only}
use Rattle.closure.proofs.laws.Cutting.{refines_full}

-- ---- the answers

clears_clear : {r w r' w' s' : List ℕ} {c : Counts} {room : Size} {q : ℕ} {p : Clear} → Cleared (seen r w c) q room r' w' s' p.counts p.size → Clears r w c room q (Ok p) r' w' s'
clears_clear {p = p} x = record { clear = of_value _ p x; full = value_only _ p }

clears_full : {r w r' w' s' : List ℕ} {c : Counts} {room : Size} {q : ℕ} {e : Full} → Jammed (seen r w c) q room r' w' s' e.counts → Clears r w c room q (Err e) r' w' s'
clears_full {e = e} x = record { clear = error_only _ e; full = of_error _ e x }

-- ---- clearing

-- only the scratch table was written
tables_scratch : {r w s s' : List ℕ} {c : Counts} {room : Size} → Tables r w s c room → State w s' c.rows → Tables r w s' c room
tables_scratch t x = record {
  state = x;
  vertices_in = t.vertices_in;
  rows_in = t.rows_in;
  few_vertices = t.few_vertices;
  few_rows = t.few_rows;
  records_fit = t.records_fit;
  rows_fit = t.rows_fit;
  blank = t.blank;
}

pub clearing_start : {r w s : List ℕ} {c : Counts} {room : Size} {q : ℕ} → Sure r w s c room q → Clearing r w s c room q r w s c
clearing_start x = record { sure = x; towards = record { runs = λ U p. p; stuck = λ p. p }; reach = ready.here refl; rank = refl; records_size = refl; rows_size = refl; scratch_size = refl }

module _ {r₀ w₀ s₀ r w s : List ℕ} {c : Counts} {room : Size} {d : Counts} {q : ℕ} (x : Clearing r₀ w₀ s₀ c room q r w s d) where
  size : length (rows_of w d.rows) ≡ d.rows
  size = length_up_to (row_at w) d.rows

  pub clearing_look : Lookable w s d.rows q
  clearing_look = record {
    state = x.sure.tables.state;
    distinct = λ k h. subst (λ (z : _). Distinct 3 (corners_of z)) (up_to_at (row_at w) d.rows k no_row h) (row_distinct x.sure.ready.grown k (rw size h));
    there = omega (arith, x.sure.ripe.there, size);
  }

  module _ {o : Look} {s' : List ℕ} (l : Looks w d.rows q o s') where
    sure_now : Sure r w s' d room q
    sure_now = record { tables = tables_scratch x.sure.tables l.state; points = x.sure.points; initials = x.sure.initials; roots = x.sure.roots; ready = x.sure.ready; ripe = x.sure.ripe }

    pub clearing_clear : o.other ≡ None → Clears r₀ w₀ c room q (Ok (record { counts = d; size = o.size })) r w s'
    clearing_clear e = clears_clear (record { towards = x.towards; reach = x.reach; cuttable = record { sure = sure_now; listed = l.listed; clear = sym l.other ∙ e } })

    module _ {b : ℕ} (e : o.other ≡ Some b) where
      blocks : blocking (rows_of w d.rows) q ≡ Some b
      blocks = sym l.other ∙ e

      pub clearing_block : Sure r w s' d room b
      clearing_block = record {
        tables = tables_scratch x.sure.tables l.state;
        points = x.sure.points;
        initials = x.sure.initials;
        roots = x.sure.roots;
        ready = x.sure.ready;
        ripe = block_open x.sure.ready q b x.sure.ripe blocks;
      }

      pub clearing_falls : rank_in (seen r w d) b < rank_in (seen r₀ w₀ c) q
      clearing_falls = rw (← x.rank) (block_less x.sure.ready q b x.sure.ripe blocks)

      module _ {p : Result Counts Full} {r' w' s'' : List ℕ} (f : Refines r w d room b p r' w' s'') where
        pub clearing_full : {y : Full} → p ≡ Err y → Clears r₀ w₀ c room q (Err y) r' w' s''
        clearing_full {y} z = let j = f.full y z in clears_full (record { stuck = x.towards.stuck (below blocks j.stuck); reach = reach_on x.reach j.reach; tables = j.tables })

        module _ {y : Counts} (z : p ≡ Ok y) where
          few : length (seen r' w' y).records < 4294967295
          few = let t = (f.done y z).tables in omega (arith, length_up_to (record_at r') y.vertices, t.vertices_in, t.few_vertices)

          pub clearing_next : length r' ≡ length r → length w' ≡ length w → length s'' ≡ length s' → length s' ≡ length s → Clearing r₀ w₀ s₀ c room q r' w' s'' y
          clearing_next er ew es el =
              let j = f.done y z in
              let t = j.tables in
              record {
                sure = record {
                  tables = t;
                  points = x.sure.points;
                  initials = x.sure.initials;
                  roots = x.sure.roots;
                  ready = reach_ready j.reach x.sure.ready;
                  ripe = waits x.sure.ready q b x.sure.ripe blocks j.run few;
                };
                towards = record {
                  runs = λ U g. x.towards.runs U (blocked blocks j.run g);
                  stuck = λ g. x.towards.stuck (after blocks j.run (record { vertices = rw (length_up_to (record_at r') y.vertices) t.vertices_in; rows = rw (length_up_to (row_at w') y.rows) t.rows_in }) g);
                };
                reach = reach_on x.reach j.reach;
                rank = rank_stays x.sure.ready j.reach q x.sure.ripe.there ∙ x.rank;
                records_size = er ∙ x.records_size;
                rows_size = ew ∙ x.rows_size;
                scratch_size = es ∙ el ∙ x.scratch_size;
              }

          pub clearing_less : room.vertices - y.vertices < room.vertices - d.vertices
          clearing_less = let j = f.done y z in omega (arith, run_records j.run, length_up_to (record_at r) d.vertices, length_up_to (record_at r') y.vertices, j.tables.vertices_in, x.sure.tables.vertices_in)

  -- the tables keep their lengths, whatever was written to them since
  pub records_sized : {n : ℕ} → n ≡ length r → n ≡ length r₀
  records_sized e = e ∙ x.records_size

  pub rows_sized : {n : ℕ} → n ≡ length w → n ≡ length w₀
  rows_sized e = e ∙ x.rows_size

  pub scratch_sized : {m n : ℕ} → n ≡ m → m ≡ length s → n ≡ length s₀
  scratch_sized e f = e ∙ f ∙ x.scratch_size

-- the measure: twice the rank, and one more for refining
pub half_falls : {t a b : ℕ} → 2 * a ≡ t → b < a → 2 * b + 1 < t
half_falls e h = omega (arith, e, h)

pub ruleset clearing = (clearing_start, clearing_look, clearing_clear, clearing_block, clearing_full, clearing_next, clearing_less, rules)

-- ---- refining

module _ {r w r' w' s' : List ℕ} {c : Counts} {room : Size} {q : ℕ} {o : Result Clear Full} (x : Clears r w c room q o r' w' s') where
  pub refine_full : {y : Full} → o ≡ Err y → Refines r w c room q (Err y) r' w' s'
  refine_full {y} e = refines_full (x.full y e)

  module _ {k : Clear} (e : o ≡ Ok k) where
    pub refine_ready : Cuttable r' w' s' k.counts room q k.size
    refine_ready = (x.clear k e).cuttable

    pub refine_done : {p : Result Counts Full} {r'' w'' s'' : List ℕ} → Refines r' w' k.counts room q p r'' w'' s'' → Refines r w c room q p r'' w'' s''
    refine_done f =
        let y = x.clear k e in
        record {
          done = λ a z. let j = f.done a z in record { run = y.towards.runs _ j.run; reach = reach_on y.reach j.reach; tables = j.tables };
          full = λ a z. let j = f.full a z in record { stuck = y.towards.stuck j.stuck; reach = reach_on y.reach j.reach; tables = j.tables };
        }

pub ruleset refining = (refine_full, refine_ready, refine_done, rules)
