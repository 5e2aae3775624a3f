-- The marks of a call, one after the other.
use mathlib.Core.Path.{◌≡◌, refl, sym, ap, ◌∙◌}
use mathlib.Core.List.{List, [], ◌∷◌}
use Prim.Native.Nat.{ℕ, ◌+◌, ◌≤◌, ◌<◌}
use native.Mathlib.Omega.{arith}
use native.Mathlib.Numerals.{add-one}
use lib.ListN.{length, get_or, drop}
use lib.Seq.{drop-cons, drop-length}
use borrow.Author.Rules.{rules}
use Rattle.std.specs.Prelude.{Result, Ok, Err}
use Rattle.split.specs.declared.row.Row.{Row}
use Rattle.tables.specs.declared.layout.Counts.{Counts}
use Rattle.tables.specs.declared.layout.Size.{Size}
use Rattle.tables.specs.Layout.{no_row, record_at, row_at}
use Rattle.tables.proofs.laws.View.{length_up_to, up_to_at}
use Rattle.run.specs.Skeleton.{row_in}
use Rattle.run.specs.Ready.{Reach}
use Rattle.run.specs.Ready as ready
use Rattle.run.specs.Run.{RunAll, StuckAll, Within}
use Rattle.run.specs.Run as run
use Rattle.run.proofs.laws.Needs.{Markable, markable_later}
use Rattle.run.proofs.laws.Reach.{reach_ready, reach_grows, reach_on}
use Rattle.closure.specs.declared.step.Full.{Full}
use Rattle.closure.specs.State.{rows_of, seen}
use Rattle.closure.specs.Refining.{Tables, Sure, Refines}
use Rattle.closure.proofs.laws.Answers.{of_value, value_only, of_error, error_only}
use Rattle.closure.specs.Marking.{Steady, Fine, Due, AllDue, Passes, Marks, Marking}

-- ---- one mark

-- the counts are those of the lists
pub within_room : {r w s : List ℕ} {c : Counts} {room : Size} → Tables r w s c room → Within room (seen r w c)
within_room {r} {w} {s} {c} t = record { vertices = rw (length_up_to (record_at r) c.vertices) t.vertices_in; rows = rw (length_up_to (row_at w) c.rows) t.rows_in }

module _ {r w s : List ℕ} {c : Counts} {room : Size} {q : ℕ} (x : Due r w s c room q) {held : Row} (is : held ≡ row_at w q) where
  row_is : row_in (rows_of w c.rows) q ≡ held
  row_is = up_to_at (row_at w) c.rows q no_row x.fine.there ∙ sym is

  pub mark_passed : (held.child ≡ 0 → ⊥) → Passes r w c room q (Ok c) r w s
  mark_passed d = record {
    done = of_value _ c (record { runs = λ rs U p. run.RunAll.passed split p; stuck = λ rs p. run.StuckAll.passed split p; reach = ready.here refl; tables = x.steady.tables });
    full = value_only _ c;
  }
    where
      split : (row_in (rows_of w c.rows) q).child ≡ 0 → ⊥
      split e = d (sym (ap (λ (k : Row). k.child) row_is) ∙ e)

  module _ (l : held.child ≡ 0) where
    leaf : (row_in (rows_of w c.rows) q).child ≡ 0
    leaf = ap (λ (k : Row). k.child) row_is ∙ l

    pub mark_sure : Sure r w s c room q
    mark_sure = record {
      tables = x.steady.tables;
      points = x.steady.points;
      initials = x.steady.initials;
      roots = x.steady.roots;
      ready = x.steady.ready;
      ripe = record {
        there = rw (length_up_to (row_at w) c.rows) x.fine.there;
        leaf = leaf;
        shallow = rw (row_is ∙ is) (x.fine.shallow (sym (ap (λ (k : Row). k.child) is) ∙ l));
      };
    }

    pub mark_refined : {o : Result Counts Full} {r' w' s' : List ℕ} → Refines r w c room q o r' w' s' → Passes r w c room q o r' w' s'
    mark_refined f = record {
      done = λ a e. let j = f.done a e in record { runs = λ rs U p. run.RunAll.refined leaf j.run p; stuck = λ rs p. run.StuckAll.refined leaf j.run (within_room j.tables) p; reach = j.reach; tables = j.tables };
      full = λ a e. let j = f.full a e in record { stuck = λ rs. run.StuckAll.here leaf j.stuck; reach = j.reach; tables = j.tables };
    }

pub ruleset passing = (mark_passed, mark_sure, mark_refined, rules)

-- ---- all marks

pub marking_start : {r w s : List ℕ} {c : Counts} {room : Size} {marks : List ℕ} → AllDue r w s c room marks → Marking r w s c room marks r w s c 0
marking_start x = record { within = omega arith; due = x; runs = λ U p. p; stuck = λ p. p; reach = ready.here refl; records_size = refl; rows_size = refl; scratch_size = refl }

-- a row that was fine stays so
fine_later : (r' w' : List ℕ) (d : Counts) {r w s : List ℕ} {c : Counts} {room : Size} {q : ℕ} → Steady r w s c room → Reach (seen r w c) (seen r' w' d) → Fine w c.rows q → Fine w' d.rows q
fine_later r' w' d {r} {w} {c = c} {q = q} y x f =
    let before : Markable (seen r w c) q = record { there = rw (length_up_to (row_at w) c.rows) f.there; shallow = rw (up_to_at (row_at w) c.rows q no_row f.there) f.shallow } in
    let later = markable_later (reach_grows x y.ready) before in
    let there : q < d.rows = omega (arith, later.there, length_up_to (row_at w') d.rows) in
    record { there = there; shallow = rw (← up_to_at (row_at w') d.rows q no_row there) later.shallow }

module _ {r₀ w₀ s₀ r w s marks : List ℕ} {c : Counts} {room : Size} {d : Counts} {j : ℕ} (x : Marking r₀ w₀ s₀ c room marks r w s d j) where
  module _ (h : j < length marks) {q : ℕ} (is : q ≡ get_or marks j 0) where
    pub marking_due : Due r w s d room q
    marking_due = record { steady = x.due.steady; fine = rw is (x.due.fine j h) }

    next : drop j marks ≡ q ∷ drop (j + 1) marks
    next = drop-cons marks j 0 h ∙ rw (← is, ← add-one j)

    module _ {o : Result Counts Full} {r' w' s' : List ℕ} (f : Passes r w d room q o r' w' s') where
      pub marking_full : {y : Full} → o ≡ Err y → length r' ≡ length r → length w' ≡ length w → Marks r₀ w₀ c room marks (Err y) r' w' s'
      marking_full {y} e er ew = let k = f.full y e in record {
        records_size = er ∙ x.records_size;
        rows_size = ew ∙ x.rows_size;
        done = error_only _ y;
        full = of_error _ y (record { stuck = x.stuck (rw next (k.stuck (drop (j + 1) marks))); reach = reach_on x.reach k.reach; tables = k.tables });
      }

      pub marking_next : {y : Counts} → o ≡ Ok y → length r' ≡ length r → length w' ≡ length w → length s' ≡ length s → Marking r₀ w₀ s₀ c room marks r' w' s' y (j + 1)
      marking_next {y} e er ew es =
          let k = f.done y e in
          let z = x.due.steady in
          record {
            within = omega arith;
            due = record {
              steady = record { tables = k.tables; points = z.points; initials = z.initials; roots = z.roots; ready = reach_ready k.reach z.ready };
              fine = λ i l. fine_later r' w' y z k.reach (x.due.fine i l);
            };
            runs = λ U p. x.runs U (rw next (k.runs (drop (j + 1) marks) U p));
            stuck = λ p. x.stuck (rw next (k.stuck (drop (j + 1) marks) p));
            reach = reach_on x.reach k.reach;
            records_size = er ∙ x.records_size;
            rows_size = ew ∙ x.rows_size;
            scratch_size = es ∙ x.scratch_size;
          }

  pub marking_done : length marks ≤ j → Marks r₀ w₀ c room marks (Ok d) r w s
  marking_done h = record {
    records_size = x.records_size;
    rows_size = x.rows_size;
    done = of_value _ d (record { run = x.runs (seen r w d) (rw last (run.RunAll.done refl)); reach = x.reach; tables = x.due.steady.tables });
    full = value_only _ d;
  }
    where
      last : drop j marks ≡ []
      last = let e : j ≡ length marks = omega (arith, x.within) in rw e (drop-length marks)

  -- the tables keep their lengths
  pub mark_records : {n : ℕ} → n ≡ length r → n ≡ length r₀
  mark_records e = e ∙ x.records_size

  pub mark_rows : {n : ℕ} → n ≡ length w → n ≡ length w₀
  mark_rows e = e ∙ x.rows_size

  pub mark_scratch : {n : ℕ} → n ≡ length s → n ≡ length s₀
  mark_scratch e = e ∙ x.scratch_size

pub ruleset marking = (marking_start, marking_due, marking_full, marking_next, marking_done, mark_records, mark_rows, mark_scratch, rules)
