-- The promise of listing leaves one answer and one content of each list; and that sound tables can be listed.
use Rattle.std.proofs.Common.{Result, Ok, Err}
use mathlib.Core.Path.{◌≡◌, refl, sym, ap, ◌∙◌}
use mathlib.Core.Bool.{Bool, true, false, not}
use mathlib.Core.List.{List}
use Prim.Native.Nat.{ℕ}
use borrow.Author.Tests.{not-true, not-false}
use lib.Ieee.{Float}
use Rattle.split.specs.declared.row.Row.{Row}
use Rattle.tables.specs.declared.layout.Counts.{Counts}
use Rattle.tables.specs.Mesh.{Lent, mesh_of}
use Rattle.tables.specs.Report.{Tally}
use Rattle.tables.specs.declared.refusal.Cause.{Cause}
use Rattle.tables.specs.declared.refusal.Cause.TheVariants.{Unsound}
use Rattle.tables.specs.declared.refusal.Refusal.{Refusal}
use Rattle.tables.specs.Refusal.{refusal_at}
use Rattle.opening.proofs.laws.Reports.{refusal_tells, number_some}
use Rattle.sound.specs.Sound.{Sound}
use Rattle.sound.specs.Check.{Decides, lent}
use Rattle.leaves.specs.Lists.{reported, Refuses, OnRoom, short, fits, Lists, unsound, sound}
use Rattle.leaves.specs.Walk.{rows_of, Listable}
use Rattle.leaves.proofs.laws.Sound.{sound_listable}

-- ---- one outcome

abbrev Same : Result ℕ Refusal → List ℕ → List ℕ → Result ℕ Refusal → List ℕ → List ℕ → Type 0
Same r l v r₂ l₂ v₂ = (r ≡ r₂) × (l ≡ l₂) × (v ≡ v₂)

module _ {l v : List ℕ} {r r₂ : Result ℕ Refusal} {l' v' l₂ v₂ : List ℕ} where
  one_refusal : {n : Cause} → Refuses l v n r l' v' → Refuses l v n r₂ l₂ v₂ → Same r l' v' r₂ l₂ v₂
  one_refusal x y = (x.answers ∙ sym y.answers, x.list_same ∙ sym y.list_same, x.levels_same ∙ sym y.levels_same)

  on_room : {W : List Row} → OnRoom W l v r l' v' → OnRoom W l v r₂ l₂ v₂ → Same r l' v' r₂ l₂ v₂
  on_room (short s x) (short s' y) = one_refusal x y
  on_room (short s x) (fits n y) = absurd (n s)
  on_room (fits n x) (short s y) = absurd (n s)
  on_room (fits n x) (fits n' y) = (x.answers ∙ sym y.answers, x.list_is ∙ sym y.list_is, x.levels_is ∙ sym y.levels_is)

  pub one_outcome : {t : Lent} {c : Counts} → Lists t c l v r l' v' → Lists t c l v r₂ l₂ v₂ → Same r l' v' r₂ l₂ v₂
  one_outcome (unsound n x) (unsound n' y) = one_refusal x y
  one_outcome (unsound n x) (sound s y) = absurd (n s)
  one_outcome (sound s x) (unsound n y) = absurd (n s)
  one_outcome (sound s x) (sound s' y) = on_room x y

-- ---- answers

pub done_same : {n m : ℕ} → ◌≡◌ {A = Result ℕ Refusal} (Ok n) (Ok m) → n ≡ m
done_same e = cc

pub done_never : {X : Type 0} {k : ℕ} {a : Refusal} → ◌≡◌ {A = Result ℕ Refusal} (Err a) (Ok k) → X
done_never e = absurd (cc)

-- ---- two answers with the same report are equal: no refusal has number 0, and each cause has a number of its own, so a report tells which case it is of

pub report_tells : (r r₂ : Result ℕ Refusal) → reported r ≡ reported r₂ → r ≡ r₂
report_tells (Ok n) (Ok m) e = λ i. Ok (e i).leaves
report_tells (Ok n) (Err y) e = absurd (number_some y.cause (sym (ap (λ (o : Tally). o.number) e)))
report_tells (Err x) (Ok m) e = absurd (number_some x.cause (ap (λ (o : Tally). o.number) e))
report_tells (Err x) (Err y) e = ap Err (refusal_tells x y (ap (λ (o : Tally). o.number) e) (ap (λ (o : Tally). o.place) e))

-- ---- the whole

module _ {p : List Float} {r w : List ℕ} {c : Counts} {b : Bool} (d : Decides (Sound (lent p r w) c) b) where
  pub list_unsound : not b ≡ true → {a : Refusal} → a ≡ refusal_at Unsound 0 → {l v : List ℕ} → Lists (lent p r w) c l v (Err a) l v
  list_unsound e f = unsound (d.no (not-true b e)) (record { answers = ap Err f; reports = ap (λ (x : Refusal). reported (Err x)) f; list_same = refl; levels_same = refl })

  module _ (e : not b ≡ false) where
    pub list_ready : Listable w c.rows
    list_ready = sound_listable (d.yes (not-false b e))

    pub list_sound : {l v l' v' : List ℕ} {a : Result ℕ Refusal} → OnRoom (rows_of w c.rows) l v a l' v' → Lists (lent p r w) c l v a l' v'
    unfolding mesh_of
    list_sound o = sound (d.yes (not-false b e)) o

pub ruleset wholly = (list_unsound, list_ready, list_sound)
