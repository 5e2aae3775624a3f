-- A call on sound tables: undone it leaves them as they were, and done it leaves the run's mesh laid out.
use Rattle.std.proofs.Common.{None, Ok, Result}
use Rattle.tables.specs.declared.refusal.Cause.TheVariants.{Room, Unsound}
use Rattle.tables.specs.declared.refusal.Refusal.{Refusal}
use Rattle.tables.specs.Refusal.{refusal_at}
use mathlib.Core.Path.{◌≡◌, refl, sym, ap, subst, ◌∙◌}
use mathlib.Core.Bool.{Bool, true, false, not, ◌&&◌, cond}
use mathlib.Core.List.{List}
use mathlib.Core.Logic.{◌⊎◌, inl, inr}
use Prim.Native.Nat.{ℕ, ◌-◌, ◌/◌, ◌≤◌, ◌<◌}
use native.Mathlib.Omega.{arith}
use lib.Dec.{leb, ltb}
use lib.ListN.{length, get_or, drop, replicate, length-replicate}
use lib.Ieee.{Float}
use borrow.Author.Tests.{le-leb, lt-leb, lt-ltb, le-ltb, not-true, not-false}
use borrow.Author.Rules.{rules}
use Rattle.std.specs.Prelude.{Result, Ok, Err}
use Rattle.split.proofs.laws.Places.{le_or_lt}
use Rattle.tables.specs.declared.layout.Counts.{Counts}
use Rattle.tables.specs.declared.layout.Size.{Size}
use Rattle.tables.specs.Layout.{record_width, row_width, no_row, no_record, no_float, point_cells, record_cells, row_cells, point_at, record_at, row_at, room_of, resized}
use Rattle.tables.specs.Mesh.{Lent, mesh_of, laid, up_to, flat, padded}
use Rattle.tables.proofs.laws.View.{length_up_to, up_to_at}
use Rattle.intake.specs.Verdict.{Verdict}
use Rattle.intake.specs.Search.{first}
use Rattle.chain.proofs.laws.Clearing.{zeros_at}
use Rattle.sound.specs.Sound.{Sound}
use Rattle.sound.specs.Check.{Decides, lent}
use Rattle.soundness.specs.Check.{SoundIn}
use Rattle.run.specs.Skeleton.{meshed, extended}
use Rattle.run.specs.Run.{RunAll, Within}
use Rattle.run.proofs.laws.Grows.{Grows}
use Rattle.run.proofs.laws.Reach.{reach_ready, reach_grows}
use Rattle.run.proofs.laws.Room.{enough_room}
use Rattle.run.proofs.laws.Refused.{no_room}
use Rattle.frame.specs.Marks.{on_marks}
use Rattle.frame.specs.Undo.{restored, emptied_records, undone}
use Rattle.frame.proofs.laws.Marks.{told, Told, deeps}
use Rattle.frame.proofs.laws.Marks as judged
use Rattle.closure.specs.declared.answer.Refined.{Refined}
use Rattle.closure.specs.declared.step.Full.{Full}
use Rattle.closure.specs.State.{rows_of, records_of, seen, scratch_for, State}
use Rattle.closure.specs.Build.{Indexable}
use Rattle.closure.specs.Marking.{AllDue, Ended, Failed, Marks}
use Rattle.closure.specs.Refine.{refined_to, absent, reported, Accepts, outgrown, fits, deep, shallow, missing, present, Refines, unsound, sound}
use Rattle.closure.specs.Call.{Finishes, Closable, Closes, Spacious, Callable, Calls}
use Rattle.closure.proofs.laws.Answers.{same_error}
use Rattle.closure.proofs.laws.Tables.{rows_same, records_same}
use Rattle.closure.proofs.laws.Blank.{rows_blank, records_blank, points_blank, rows_padded, records_padded, points_padded}
use Rattle.closure.proofs.laws.Restored.{restored_row}
use Rattle.closure.proofs.laws.Entry.{Roomy, roomy, entry_mesh, entry_ready, entry_index, entry_steady}
use Rattle.closure.proofs.laws.Judged.{refused_never, mark_fine, marks_markable, marks_shallow, marks_deep}
use Rattle.closure.proofs.laws.Undo.{Emptied, Undoable, Undone, undone_right, records_emptied}
use Rattle.closure.proofs.laws.Points.{Fillable, Filled, filled_right}
use Rattle.closure.proofs.laws.Promise.{refuses}

-- ---- what a passed verdict tells

pub record Fair (w : List ℕ) (n : ℕ) (marks : List ℕ) : Type 0 where
  pub there : first (absent n marks) (length marks) ≡ None
  pub shallow : deeps w n marks ≡ false

fair : {w : List ℕ} {n : ℕ} {marks : List ℕ} → on_marks w n marks ≡ Ok tt → Fair w n marks
fair {w} {n} {marks} e = elim (told w n marks) [
  | judged.missing p a b ↦ refused_never (sym b ∙ e)
  | judged.deep a d b ↦ refused_never (sym b ∙ e)
  | judged.passed a d b ↦ record { there = a; shallow = d }
]

module _ {p : List Float} {r w s : List ℕ} {c : Counts} {marks : List ℕ} (x : Closable p r w s c marks) where
  abbrev room : Size
  room = room_of (length p) (length r) (length w)

  abbrev ok : Fair w c.rows marks
  ok = fair {w = w} {n = c.rows} {marks = marks} x.passed

  abbrev fit : Roomy (length p) (length r) (length w)
  fit = roomy (length p) (length r) (length w)

  pub close_index : Indexable w s c.rows
  close_index = entry_index x.sound x.fresh

  pub close_due : {o : Size} {s' : List ℕ} → o ≡ room → State w s' c.rows → AllDue r w s' c o marks
  close_due e z = rw e (record { steady = entry_steady x.sound z; fine = mark_fine x.sound marks ok.there ok.shallow })

  entry_within : Within room (seen r w c)
  entry_within = record { vertices = rw (length_up_to (record_at r) c.vertices) x.sound.fitting.vertices_fit; rows = rw (length_up_to (row_at w) c.rows) x.sound.fitting.rows_fit }

  -- ---- no room

  module _ {o : Size} (eo : o ≡ room) {r' w' s' : List ℕ} {a : Result Counts Full} (k : Marks r w c o marks a r' w' s') {e : Full} (ea : a ≡ Err e) where
    abbrev d : Counts
    d = e.counts

    abbrev f : Failed (seen r w c) marks o r' w' s' d
    f = k.full e ea

    abbrev er : length r' ≡ length r
    er = k.records_size

    abbrev ew : length w' ≡ length w
    ew = k.rows_size

    rows_undoable : Undoable w' c.rows d.rows
    rows_undoable =
        let t = f.tables in
        record { old = rw ew (omega (arith, x.sound.fitting.rows_fit, fit.rows_fit)); all = omega (arith, t.rows_in, t.rows_fit) }

    records_fit : d.vertices ≤ length r' / record_width
    records_fit = omega (arith, f.tables.vertices_in, f.tables.records_fit)

    module _ {r'' w'' : List ℕ} (undo : (w'' ≡ undone w' c.rows d.rows) × (r'' ≡ emptied_records r' c.vertices d.vertices)) where
      rows_undone : Undone w' c.rows d.rows w''
      rows_undone = undone_right rows_undoable undo.0

      records_undone : Emptied record_at no_record r' c.vertices d.vertices r''
      records_undone = records_emptied records_fit undo.1

      grows : Grows (meshed (mesh_of (lent p r w) c).points (seen r w c)) (meshed (mesh_of (lent p r w) c).points (seen r' w' d)) x.sound.initials x.sound.roots
      grows = reach_grows f.reach (entry_ready x.sound)

      record_back : (k : ℕ) → record_at r'' k ≡ record_at r k
      record_back k = records_undone.things k ∙ go (le_or_lt c.vertices k) (le_or_lt d.vertices k)
        where
          blank : c.vertices ≤ k → record_at r k ≡ no_record
          blank h = records_blank r c.vertices x.sound.unused.records k h

          more : c.vertices ≤ d.vertices
          more = omega (arith, grows.more_vertices, length_up_to (record_at r) c.vertices, length_up_to (record_at r') d.vertices)

          go : (c.vertices ≤ k) ⊎ (k < c.vertices) → (d.vertices ≤ k) ⊎ (k < d.vertices) → cond (leb c.vertices k && ltb k d.vertices) no_record (record_at r' k) ≡ record_at r k
          go (inl a) (inl b) = rw (le-leb c.vertices k a, le-ltb k d.vertices b) (f.tables.blank k b ∙ sym (blank a))
          go (inl a) (inr b) = rw (le-leb c.vertices k a, lt-ltb k d.vertices b) (sym (blank a))
          go (inr a) b =
              rw (lt-leb c.vertices k a)
              (sym (up_to_at (record_at r') d.vertices k no_record (omega (arith, more))) ∙ grows.record_old k (rw (length_up_to (record_at r) c.vertices) a) ∙ up_to_at (record_at r) c.vertices k no_record a)

      row_back : (k : ℕ) → row_at w'' k ≡ row_at w k
      row_back k = go (le_or_lt c.rows k)
        where
          size : length (rows_of w c.rows) ≡ c.rows
          size = length_up_to (row_at w) c.rows

          more : c.rows ≤ d.rows
          more = omega (arith, grows.more_rows, size, length_up_to (row_at w') d.rows)

          go : (c.rows ≤ k) ⊎ (k < c.rows) → row_at w'' k ≡ row_at w k
          go (inl a) = rows_undone.blank f.tables.state.blank k a ∙ sym (rows_blank w c.rows x.sound.unused.rows k a)
          go (inr a) =
              rows_undone.rows k a ∙ ap (restored c.rows) (sym (up_to_at (row_at w') d.rows k no_row (omega (arith, more))))
              ∙ subst (λ (n : ℕ). restored n (get_or (rows_of w' d.rows) k no_row) ≡ get_or (rows_of w c.rows) k no_row) size (restored_row (entry_ready x.sound).grown (reach_ready f.reach (entry_ready x.sound)).grown grows k (rw size a))
              ∙ up_to_at (row_at w) c.rows k no_row a

      tables_back : lent p r'' w'' ≡ lent p r w
      tables_back = λ j. record {
        points = p;
        records = records_same r r'' x.sound.fitting.records (records_undone.size ∙ er) record_back j;
        rows = rows_same w w'' x.sound.fitting.rows (rows_undone.size ∙ ew) row_back j;
      }

      pub close_full : {y : Refusal} → y ≡ refusal_at Room 0 → Closes (lent p r w) c marks (Err y) (lent p r'' w'')
      close_full e = record {
        room = λ y. outgrown
            (rw (entry_mesh y) at (no_room (mesh_of (lent p r w) c).points y.initials y.roots (rw eo at f.stuck) (entry_ready y) entry_within fit.few_vertices (marks_markable y marks ok.there ok.shallow)))
            (refuses (ap Err e) tables_back);
      }

  -- ---- all marks done

  module _ {o : Size} (eo : o ≡ room) {r' w' s' : List ℕ} {b : Result Counts Full} (k : Marks r w c o marks b r' w' s') {d : Counts} (eb : b ≡ Ok d) where
    abbrev ended : Ended (seen r w c) marks o r' w' s' d
    ended = k.done d eb

    abbrev lr : length r' ≡ length r
    lr = k.records_size

    abbrev lw : length w' ≡ length w
    lw = k.rows_size

    grown_to : Grows (meshed (mesh_of (lent p r w) c).points (seen r w c)) (meshed (mesh_of (lent p r w) c).points (seen r' w' d)) x.sound.initials x.sound.roots
    grown_to = reach_grows ended.reach (entry_ready x.sound)

    inside : (d.vertices ≤ room.vertices) × (d.rows ≤ room.rows)
    inside = (rw eo at ended.tables.vertices_in, rw eo at ended.tables.rows_in)

    pub close_finish : c.rows ≤ d.rows
    close_finish = omega (arith, grown_to.more_rows, length_up_to (row_at w) c.rows, length_up_to (row_at w') d.rows)

    fillable : Fillable p c.vertices d.vertices
    fillable = record {
      ordered = omega (arith, grown_to.more_vertices, length_up_to (record_at r) c.vertices, length_up_to (record_at r') d.vertices);
      fits = omega (arith, inside.0, fit.points_fit);
      blank = points_blank p c.vertices x.sound.unused.points;
    }

    module _ {a : Refined} {p' : List Float} (g : Finishes p r' c d a p') where
      points_filled : Filled p r' c.vertices d.vertices p'
      points_filled = filled_right fillable g.points

      points_are : up_to (point_at p') d.vertices ≡ (meshed (mesh_of (lent p r w) c).points (seen r' w' d)).points
      unfolding mesh_of
      points_are = points_filled.points ∙ ap (λ (n : ℕ). extended (up_to (point_at p) c.vertices) (drop n (records_of r' d.vertices))) (sym (length_up_to (point_at p) c.vertices))

      points_laid : p' ≡ padded (length p) no_float (flat point_cells (meshed (mesh_of (lent p r w) c).points (seen r' w' d)).points)
      points_laid = rw (points_filled.size, points_are) at (points_padded p' d.vertices (rw points_filled.size x.sound.fitting.points) (rw points_filled.size (omega (arith, inside.0, fit.points_fit))) points_filled.blank)

      records_laid : r' ≡ padded (length r) 0 (flat record_cells (records_of r' d.vertices))
      records_laid = rw lr at (records_padded r' d.vertices (rw lr x.sound.fitting.records) (rw lr (omega (arith, inside.0, fit.records_fit))) ended.tables.blank)

      rows_laid : w' ≡ padded (length w) 0 (flat row_cells (rows_of w' d.rows))
      rows_laid = rw lw at (rows_padded w' d.rows (rw lw x.sound.fitting.rows) (rw lw (omega (arith, inside.1, fit.rows_fit))) ended.tables.state.blank)

      answered : Ok a ≡ refined_to (resized c (length (records_of r' d.vertices)) (length (rows_of w' d.rows))) ((length (rows_of w' d.rows) - c.rows) / 2)
      answered =
          let counts = g.counts ∙ (λ j. resized c (sym (length_up_to (record_at r') d.vertices) j) (sym (length_up_to (row_at w') d.rows) j)) in
          let splits = g.splits ∙ (λ j. (sym (length_up_to (row_at w') d.rows) j - c.rows) / 2) in
          λ j. refined_to (counts j) (splits j)

      accepted : Accepts RunAll (lent p r w) c marks (Ok a) (lent p' r' w')
      unfolding mesh_of laid
      accepted = record {
        after = seen r' w' d;
        run = ended.run;
        answers = answered;
        reports = ap reported answered;
        leaves = λ j. record { points = points_laid j; records = records_laid j; rows = rows_laid j };
      }

      pub close_done : Closes (lent p r w) c marks (Ok a) (lent p' r' w')
      close_done = record {
        room = λ y. fits
            (λ z. enough_room (mesh_of (lent p r w) c).points y.initials y.roots ended.run (entry_ready y) (omega (arith, length_up_to (record_at r') d.vertices, inside.0, fit.few_vertices)) (marks_markable y marks ok.there ok.shallow) room
            (record { vertices = rw (length_up_to (record_at r') d.vertices) inside.0; rows = rw (length_up_to (row_at w') d.rows) inside.1 }) (rw (entry_mesh y) z))
            accepted;
      }

pub ruleset closing = (close_index, close_due, close_full, close_finish, close_done, rules)

-- ---- the call

module _ {p : List Float} {r w s : List ℕ} {c : Counts} (x : Callable p r w s c) {marks : List ℕ} {v : Verdict} (e : v ≡ on_marks w c.rows marks) where
  refused_told : {y : Refusal} → v ≡ Err y → Told w c.rows marks v → Calls (lent p r w) c marks (Err y) (lent p r w)
  refused_told {y} f (judged.missing k a b) = record { judged = λ z. missing k a (refuses (ap Err (same_error _ _ (sym f ∙ b))) refl) }
  refused_told {y} f (judged.deep a d b) = record { judged = λ z. present a (deep (marks_deep z marks a d) (refuses (ap Err (same_error _ _ (sym f ∙ b))) refl)) }
  refused_told f (judged.passed a d b) = refused_never (sym f ∙ b)

  pub call_refused : {y : Refusal} → v ≡ Err y → Calls (lent p r w) c marks (Err y) (lent p r w)
  call_refused f = refused_told f (rw e (told w c.rows marks))

  module _ (f : v ≡ Ok tt) where
    pub call_closable : Closable p r w s c marks
    call_closable = record { sound = x.sound; fresh = x.fresh; passed = sym e ∙ f }

    pub call_closed : {a : Result Refined Refusal} {t : Lent} → Closes (lent p r w) c marks a t → Calls (lent p r w) c marks a t
    call_closed g = let ok = fair {w = w} {n = c.rows} {marks = marks} (sym e ∙ f) in record { judged = λ y. present ok.there (shallow (marks_shallow y marks ok.there ok.shallow) (g.room y)) }

pub ruleset calling = (call_refused, call_closable, call_closed, rules)

-- ---- the whole

module _ {p : List Float} {r w s : List ℕ} {c : Counts} {memory : ℕ} (x : Spacious (length w) memory) {b : Bool} (d : Decides (SoundIn memory (lent p r w) c) b × (s ≡ replicate memory 0)) where
  -- sound tables have no more rows than there is room for, and then the memory is enough for the check
  enough : Sound (lent p r w) c → SoundIn memory (lent p r w) c
  unfolding room_of scratch_for
  enough y = record { enough = omega (arith, x.closure, x.check, y.fitting.rows_fit); sound = y }

  pub refine_unsound : {marks : List ℕ} → not b ≡ true → {a : Refusal} → a ≡ refusal_at Unsound 0 → Refines (lent p r w) c marks (Err a) (lent p r w)
  refine_unsound e f = unsound (λ y. d.0.no (not-true b e) (enough y)) (refuses (ap Err f) refl)

  pub refine_sound : {marks : List ℕ} → not b ≡ false → {a : Result Refined Refusal} {t' : Lent} → Calls (lent p r w) c marks a t' → Refines (lent p r w) c marks a t'
  refine_sound e g = let y = (d.0.yes (not-false b e)).sound in sound y (g.judged y)

  pub refine_callable : not b ≡ false → Callable p r w s c
  refine_callable e = record { sound = (d.0.yes (not-false b e)).sound; fresh = record { size = rw (d.1, length-replicate {A = ℕ} memory 0) x.closure; heads = λ v h. rw d.1 (zeros_at memory v) } }

pub ruleset wholly = (refine_unsound, refine_sound, refine_callable, rules)

-- ---- the memories of a call

pub spacious_small : (w n : ℕ) → n ≡ 60000 → w / row_width ≤ 4000 → Spacious w n
unfolding scratch_for
spacious_small w n e h = record { closure = omega arith; check = omega arith }

pub spacious_middle : (w n : ℕ) → n ≡ 100000 → w / row_width ≤ 12000 → Spacious w n
unfolding scratch_for
spacious_middle w n e h = record { closure = omega arith; check = omega arith }

pub spacious_large : (w n : ℕ) → n ≡ 540000 → Spacious w n
unfolding scratch_for
spacious_large w n e = record { closure = omega arith; check = omega arith }
