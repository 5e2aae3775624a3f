-- The promise of refining leaves one answer and one set of tables.
use mathlib.Core.Path.{◌≡◌, refl, sym, ap, ◌∙◌}
use mathlib.Core.List.{List}
use Prim.Native.Nat.{ℕ, ◌-◌, ◌/◌}
use native.Mathlib.Omega.{arith}
use lib.ListN.{length}
use Rattle.split.proofs.laws.Places.{less, equal, more, against}
use Rattle.std.proofs.Common.{Result, Ok, Err}
use Rattle.tables.specs.declared.refusal.Cause.{Cause}
use Rattle.tables.specs.declared.refusal.Refusal.{Refusal}
use Rattle.tables.specs.Refusal.{refused}
use Rattle.tables.specs.declared.layout.Counts.{Counts}
use Rattle.tables.specs.Layout.{resized}
use Rattle.tables.specs.Mesh.{Lent, Mesh, mesh_of, laid}
use Rattle.tables.specs.Report.{Report}
use Rattle.intake.proofs.laws.First.{found_never, found_one}
use Rattle.opening.proofs.laws.Reports.{refusal_tells, number_some}
use Rattle.sound.specs.Sound.{Parted, Sound}
use Rattle.run.specs.Skeleton.{Skeleton, meshed}
use Rattle.run.proofs.laws.Unique.{run_all_unique}
use Rattle.closure.specs.declared.answer.Refined.{Refined}
use Rattle.closure.specs.Refine.{refined_to, reported, Refuses, Engine, Accepts, OnRoom, outgrown, fits, OnDepth, deep, shallow, OnMarks, missing, present, RefinesBy, unsound, sound, Refines}

-- ---- how many vertices are initial and how many rows are roots can be told from the mesh

module _ {m : Mesh} {i t i' t' : ℕ} (p : Parted m i t) (q : Parted m i' t') where
  pub one_initials : i ≡ i'
  one_initials = elim (against i i') [
    | less h ↦ absurd (p.midpoints i (omega arith) (omega (arith, q.vertices_in)) (q.initial i h))
    | equal e ↦ e
    | more h ↦ absurd (q.midpoints i' (omega arith) (omega (arith, p.vertices_in)) (p.initial i' h))
  ]

  pub one_roots : t ≡ t'
  one_roots = elim (against t t') [
    | less h ↦ absurd (p.children t (omega arith) (omega (arith, q.rows_in)) (q.roots t h))
    | equal e ↦ e
    | more h ↦ absurd (q.children t' (omega arith) (omega (arith, p.rows_in)) (p.roots t' h))
  ]

-- ---- answers

pub done_never : {X : Type 0} {d : Counts} {n : ℕ} {e : Refusal} → refined_to d n ≡ Err e → X
done_never q = absurd (cc)

pub done_counts : {d d₂ : Counts} {n n₂ : ℕ} → refined_to d n ≡ refined_to d₂ n₂ → d ≡ d₂
done_counts {d} q = ap (λ (r : Result Refined Refusal). elim r [ Ok x ↦ x.counts | Err e ↦ d ]) q

pub done_splits : {d d₂ : Counts} {n n₂ : ℕ} → refined_to d n ≡ refined_to d₂ n₂ → n ≡ n₂
done_splits {n = n} q = ap (λ (r : Result Refined Refusal). elim r [ Ok x ↦ x.splits | Err e ↦ n ]) q

pub same_cause : {n m : Cause} {p q : ℕ} → ◌≡◌ {A = Result Refined Refusal} (refused n p) (refused m q) → n ≡ m
same_cause {n} e = ap (λ (r : Result Refined Refusal). elim r [ Ok x ↦ n | Err y ↦ y.cause ]) e

pub same_place : {n m : Cause} {p q : ℕ} → ◌≡◌ {A = Result Refined Refusal} (refused n p) (refused m q) → p ≡ q
same_place {p = p} e = ap (λ (r : Result Refined Refusal). elim r [ Ok x ↦ p | Err y ↦ y.place ]) e

-- the report of a refusal follows from its answer
pub refuses : {t : Lent} {n : Cause} {p : ℕ} {r : Result Refined Refusal} {t' : Lent} → r ≡ refused n p → t' ≡ t → Refuses t n p r t'
refuses e l = record { answers = e; reports = ap reported e; leaves = l }

-- ---- two outcomes of one call

-- the engine leads to one result
pub record Unique (E : Engine) : Type 0 where
  pub only : {S A B : Skeleton} {marks : List ℕ} → E S marks A → E S marks B → A ≡ B

abbrev Same : Result Refined Refusal → Lent → Result Refined Refusal → Lent → Type 0
Same r t' r₂ t₂ = (r ≡ r₂) × (t' ≡ t₂)

module _ {t : Lent} {r r₂ : Result Refined Refusal} {t' t₂ : Lent} where
  one_refusal : {n : Cause} {p q : ℕ} → p ≡ q → Refuses t n p r t' → Refuses t n q r₂ t₂ → Same r t' r₂ t₂
  one_refusal {n} e x y = (x.answers ∙ ap (λ (k : ℕ). refused n k) e ∙ sym y.answers, x.leaves ∙ sym y.leaves)

  module _ {E : Engine} (unique : Unique E) {c : Counts} {marks : List ℕ} where
    one_acceptance : Accepts E t c marks r t' → Accepts E t c marks r₂ t₂ → Same r t' r₂ t₂
    one_acceptance x y =
        let e = unique.only x.run y.run in (
          x.answers ∙ ap (λ (A : Skeleton). refined_to (resized c (length A.records) (length A.rows)) ((length A.rows - c.rows) / 2)) e ∙ sym y.answers,
          x.leaves ∙ ap (λ (A : Skeleton). laid (meshed (mesh_of t c).points A) (length t.points) (length t.records) (length t.rows)) e ∙ sym y.leaves,
        )

    on_room : {i roots : ℕ} → OnRoom E t c i roots marks r t' → OnRoom E t c i roots marks r₂ t₂ → Same r t' r₂ t₂
    on_room (outgrown o x) (outgrown o' y) = one_refusal refl x y
    on_room (outgrown o x) (fits n y) = absurd (n o)
    on_room (fits n x) (outgrown o y) = absurd (n o)
    on_room (fits n x) (fits n' y) = one_acceptance x y

    on_depth : {i roots : ℕ} → OnDepth E t c i roots marks r t' → OnDepth E t c i roots marks r₂ t₂ → Same r t' r₂ t₂
    on_depth (deep d x) (deep d' y) = one_refusal refl x y
    on_depth (deep d x) (shallow n y) = absurd (n d)
    on_depth (shallow n x) (deep d y) = absurd (n d)
    on_depth (shallow n x) (shallow n' y) = on_room x y

    on_marks_lem : {i roots : ℕ} → OnMarks E t c i roots marks r t' → OnMarks E t c i roots marks r₂ t₂ → Same r t' r₂ t₂
    on_marks_lem (missing p e x) (missing q f y) = one_refusal (found_one e f) x y
    on_marks_lem (missing p e x) (present f y) = found_never e f
    on_marks_lem (present e x) (missing q f y) = found_never f e
    on_marks_lem (present e x) (present f y) = on_depth x y

-- whichever way the tables are shown to be sound, the marks are judged the same
pub judged_by : {E : Engine} {t : Lent} {c : Counts} {marks : List ℕ} {r : Result Refined Refusal} {t' : Lent} (s s' : Sound t c) → OnMarks E t c s'.initials s'.roots marks r t' → OnMarks E t c s.initials s.roots marks r t'
judged_by s s' x = rw (one_initials s.grown.parted s'.grown.parted, one_roots s.grown.parted s'.grown.parted) x

pub one_outcome_by : {E : Engine} → Unique E → {t : Lent} {c : Counts} {marks : List ℕ} {r r₂ : Result Refined Refusal} {t' t₂ : Lent} → RefinesBy E t c marks r t' → RefinesBy E t c marks r₂ t₂ → (r ≡ r₂) × (t' ≡ t₂)
one_outcome_by u (unsound n x) (unsound n' y) = one_refusal refl x y
one_outcome_by u (unsound n x) (sound s y) = absurd (n s)
one_outcome_by u (sound s x) (unsound n y) = absurd (n s)
one_outcome_by u (sound s x) (sound s' y) = on_marks_lem u x (judged_by s s' y)

pub one_outcome : {t : Lent} {c : Counts} {marks : List ℕ} {r r₂ : Result Refined Refusal} {t' t₂ : Lent} → Refines t c marks r t' → Refines t c marks r₂ t₂ → (r ≡ r₂) × (t' ≡ t₂)
one_outcome x y = one_outcome_by (record { only = run_all_unique }) x y

-- a refused call leaves every lent number as at entry
refused_marks : {E : Engine} {t : Lent} {c : Counts} {i roots : ℕ} {marks : List ℕ} {e : Refusal} {t' : Lent} → OnMarks E t c i roots marks (Err e) t' → t' ≡ t
refused_marks (missing p e x) = x.leaves
refused_marks (present e (deep d x)) = x.leaves
refused_marks (present e (shallow n (outgrown o x))) = x.leaves
refused_marks (present e (shallow n (fits o x))) = done_never (sym x.answers)

pub refused_same : {E : Engine} {t : Lent} {c : Counts} {marks : List ℕ} {e : Refusal} {t' : Lent} → RefinesBy E t c marks (Err e) t' → t' ≡ t
refused_same (unsound n x) = x.leaves
refused_same (sound s x) = refused_marks x

-- ---- two answers with the same report are equal: no refusal has number 0, and each cause has a number of its own, so a report tells which case it is of

pub report_tells : (r r₂ : Result Refined Refusal) → reported r ≡ reported r₂ → r ≡ r₂
report_tells (Ok x) (Ok y) e = λ i. refined_to (e i).counts (e i).splits
report_tells (Ok x) (Err y) e = absurd (number_some y.cause (sym (ap (λ (o : Report). o.number) e)))
report_tells (Err x) (Ok y) e = absurd (number_some x.cause (ap (λ (o : Report). o.number) e))
report_tells (Err x) (Err y) e = ap Err (refusal_tells x y (ap (λ (o : Report). o.number) e) (ap (λ (o : Report). o.place) e))
