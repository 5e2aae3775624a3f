-- Nothing in a call on sound tables depends on coordinates (01, "Closure"): tables that differ in their points alone get the same answer, records and rows.
use Rattle.std.proofs.Common.{None, Result, Ok, Err}
use mathlib.Core.Path.{◌≡◌, refl, sym, ap, subst, ◌∙◌}
use mathlib.Core.Bool.{Bool, true, false}
use mathlib.Core.List.{List}
use Prim.Native.Nat.{ℕ, ◌-◌, ◌/◌}
use native.Mathlib.Omega.{arith}
use lib.ListN.{length}
use Rattle.tables.specs.declared.refusal.Cause.{Cause}
use Rattle.tables.specs.declared.refusal.Refusal.{Refusal}
use Rattle.tables.specs.Refusal.{refused}
use Rattle.tables.specs.declared.layout.Counts.{Counts}
use Rattle.tables.specs.declared.layout.Size.{Size}
use Rattle.tables.specs.Layout.{record_cells, row_cells, record_at, row_at, room_of, resized}
use Rattle.tables.specs.Mesh.{Lent, mesh_of, laid, up_to, flat, padded}
use Rattle.intake.specs.Search.{first}
use Rattle.intake.proofs.laws.First.{found_never, found_one}
use Rattle.sound.specs.Sound.{Sound}
use Rattle.run.specs.Skeleton.{Skeleton, skeleton}
use Rattle.run.specs.Run.{RunAll, Within}
use Rattle.run.specs.Demand.{Deep, Outgrows}
use Rattle.run.proofs.laws.Room.{enough_room}
use Rattle.run.proofs.laws.Unique.{run_all_unique}
use Rattle.closure.specs.declared.answer.Refined.{Refined}
use Rattle.closure.specs.Refine.{refined_to, absent, room_in, Refuses, Accepts, OnRoom, outgrown, fits, OnDepth, deep, shallow, OnMarks, missing, present, Refines, unsound, sound}
use Rattle.closure.proofs.laws.Entry.{roomy}
use Rattle.frame.proofs.laws.Marks.{deeps}
use Rattle.closure.proofs.laws.Judged.{marks_deep, marks_shallow}
use Rattle.closure.proofs.laws.Promise.{done_counts, done_splits, judged_by, refused_same}
use Rattle.closure.proofs.laws.Within.{run_within}
use Rattle.closure.proofs.laws.Taken.{was_sound, sound_mesh, sound_ready, sound_within, sound_markable}
use Rattle.closure.proofs.laws.Accepted.{accepted_points}

-- the same but for coordinates
pub record Alike (t u : Lent) : Type 0 where
  pub points : length t.points ≡ length u.points
  pub records : t.records ≡ u.records
  pub rows : t.rows ≡ u.rows

pub alike_back : {t u : Lent} → Alike t u → Alike u t
alike_back a = record { points = sym a.points; records = sym a.records; rows = sym a.rows }

-- the records and rows of tables, and the answer
abbrev Same : Result Refined Refusal → Lent → Result Refined Refusal → Lent → Type 0
Same r t r₂ u = (r ≡ r₂) × (t.records ≡ u.records) × (t.rows ≡ u.rows)

points_kept : {t : Lent} {c : Counts} {marks : List ℕ} (r : Result Refined Refusal) {t' : Lent} → Refines t c marks r t' → length t'.points ≡ length t.points
points_kept (Ok y) x = accepted_points (was_sound x) x
points_kept (Err e) x = ap (λ (l : Lent). length l.points) (refused_same x)

module _ {t u : Lent} (a : Alike t u) where
  same_room : room_in t ≡ room_in u
  same_room = λ j. room_of (a.points j) (length (a.records j)) (length (a.rows j))

  same_skeleton : (c : Counts) → skeleton (mesh_of t c) ≡ skeleton (mesh_of u c)
  unfolding mesh_of
  same_skeleton c = λ j. record { records = up_to (record_at (a.records j)) c.vertices; rows = up_to (row_at (a.rows j)) c.rows }

  module _ {c : Counts} (s : Sound t c) (s' : Sound u c) (marks : List ℕ) (e : first (absent c.rows marks) (length marks) ≡ None) where
    same_depth : Deep (mesh_of t c) s.roots marks → Deep (mesh_of u c) s'.roots marks
    same_depth d = go (deeps t.rows c.rows marks) refl
      where
        go : (b : Bool) → deeps t.rows c.rows marks ≡ b → Deep (mesh_of u c) s'.roots marks
        go true f = marks_deep s' marks e (subst (λ (w : List ℕ). deeps w c.rows marks ≡ true) a.rows f)
        go false f = absurd (marks_shallow s marks e f d)

    -- what fits the one fits the other
    same_fit : (Deep (mesh_of t c) s.roots marks → ⊥) → (Deep (mesh_of u c) s'.roots marks → ⊥) → {S : Skeleton} → RunAll (skeleton (mesh_of u c)) marks S → (Outgrows (room_in u) (mesh_of u c) s'.initials s'.roots marks → ⊥) → Outgrows (room_in t) (mesh_of t c) s.initials s.roots marks → ⊥
    same_fit n n' {S} p f o =
        let fit = roomy (length t.points) (length t.records) (length t.rows) in
        let fit' = roomy (length u.points) (length u.records) (length u.rows) in
        let w' : Within (room_in u) S = run_within (mesh_of u c).points s'.initials s'.roots p (sound_ready s') (sound_within s') fit'.few_vertices (sound_markable s' e n') (rw (sound_mesh s') f) in
        let w : Within (room_in t) S = subst (λ (k : Size). Within k S) (sym same_room) w' in
        enough_room (mesh_of t c).points s.initials s.roots (subst (λ (X : Skeleton). RunAll X marks S) (sym (same_skeleton c)) p) (sound_ready s) (omega (arith, w.vertices, fit.few_vertices)) (sound_markable s e n) (room_in t) w (rw (sound_mesh s) o)

-- ---- the outcomes

module _ {t u : Lent} (a : Alike t u) {r r₂ : Result Refined Refusal} {t' u' : Lent} where
  same_refusal : {n : Cause} {p q : ℕ} → p ≡ q → Refuses t n p r t' → Refuses u n q r₂ u' → Same r t' r₂ u'
  same_refusal {n} e x y = (
    x.answers ∙ ap (λ (k : ℕ). refused n k) e ∙ sym y.answers,
    ap (λ (l : Lent). l.records) x.leaves ∙ a.records ∙ sym (ap (λ (l : Lent). l.records) y.leaves),
    ap (λ (l : Lent). l.rows) x.leaves ∙ a.rows ∙ sym (ap (λ (l : Lent). l.rows) y.leaves),
  )

  same_acceptance : {c : Counts} {marks : List ℕ} → Accepts RunAll t c marks r t' → Accepts RunAll u c marks r₂ u' → Same r t' r₂ u'
  unfolding laid
  same_acceptance {c} {marks} x y =
      let e : x.after ≡ y.after = run_all_unique x.run (subst (λ (X : Skeleton). RunAll X marks y.after) (sym (same_skeleton a c)) y.run) in (
        x.answers ∙ ap (λ (A : Skeleton). refined_to (resized c (length A.records) (length A.rows)) ((length A.rows - c.rows) / 2)) e ∙ sym y.answers,
        ap (λ (l : Lent). l.records) x.leaves ∙ (λ j. padded (length (a.records j)) 0 (flat record_cells (e j).records)) ∙ sym (ap (λ (l : Lent). l.records) y.leaves),
        ap (λ (l : Lent). l.rows) x.leaves ∙ (λ j. padded (length (a.rows j)) 0 (flat row_cells (e j).rows)) ∙ sym (ap (λ (l : Lent). l.rows) y.leaves),
      )

  module _ {c : Counts} (s : Sound t c) (s' : Sound u c) {marks : List ℕ} where
    on_room : first (absent c.rows marks) (length marks) ≡ None → (Deep (mesh_of t c) s.roots marks → ⊥) → (Deep (mesh_of u c) s'.roots marks → ⊥)
        → OnRoom RunAll t c s.initials s.roots marks r t' → OnRoom RunAll u c s'.initials s'.roots marks r₂ u' → Same r t' r₂ u'
    on_room e n n' (outgrown o x) (outgrown o' y) = same_refusal refl x y
    on_room e n n' (outgrown o x) (fits f y) = absurd (same_fit a s s' marks e n n' y.run f o)
    on_room e n n' (fits f x) (outgrown o y) = absurd (same_fit (alike_back a) s' s marks e n' n x.run f o)
    on_room e n n' (fits f x) (fits f' y) = same_acceptance x y

    on_depth : first (absent c.rows marks) (length marks) ≡ None → OnDepth RunAll t c s.initials s.roots marks r t' → OnDepth RunAll u c s'.initials s'.roots marks r₂ u' → Same r t' r₂ u'
    on_depth e (deep d x) (deep d' y) = same_refusal refl x y
    on_depth e (deep d x) (shallow n y) = absurd (n (same_depth a s s' marks e d))
    on_depth e (shallow n x) (deep d y) = absurd (n (same_depth (alike_back a) s' s marks e d))
    on_depth e (shallow n x) (shallow n' y) = on_room e n n' x y

    on_marks_lem : OnMarks RunAll t c s.initials s.roots marks r t' → OnMarks RunAll u c s'.initials s'.roots marks r₂ u' → Same r t' r₂ u'
    on_marks_lem (missing p e x) (missing q f y) = same_refusal (found_one e f) x y
    on_marks_lem (missing p e x) (present f y) = found_never e f
    on_marks_lem (present e x) (missing q f y) = found_never f e
    on_marks_lem (present e x) (present f y) = on_depth e x y

    judged_same : Refines t c marks r t' → Refines u c marks r₂ u' → Same r t' r₂ u'
    judged_same (unsound f x) y = absurd (f s)
    judged_same (sound k x) (unsound f y) = absurd (f s')
    judged_same (sound k x) (sound k' y) = on_marks_lem (judged_by s k x) (judged_by s' k' y)

    -- refused or accepted, both calls answer the same and leave the same but for coordinates
    pub coordinate_free : Refines t c marks r t' → Refines u c marks r₂ u' → (r ≡ r₂) × Alike t' u'
    coordinate_free x y = let (same, records, rows) = judged_same x y in (same, record { points = points_kept r x ∙ a.points ∙ sym (points_kept r₂ y); records = records; rows = rows })

-- two accepted calls were on sound tables
pub accepted_alike : {t u : Lent} {c : Counts} {marks : List ℕ} {d d₂ : Counts} {n n₂ : ℕ} {t' u' : Lent} → Alike t u → Refines t c marks (refined_to d n) t' → Refines u c marks (refined_to d₂ n₂) u' → (d ≡ d₂) × (n ≡ n₂) × Alike t' u'
accepted_alike a x y = let (e, w) = coordinate_free a (was_sound x) (was_sound y) x y in (done_counts e, done_splits e, w)
