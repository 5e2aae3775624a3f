-- Opening refuses by the first cause that is present, at its smallest place (demand 1; 01, "What comes back"), and by nothing else.
use mathlib.Core.Path.{◌≡◌, refl, sym, ap, ◌∙◌}
use mathlib.Core.Bool.{Bool, true, false, ◌||◌}
use mathlib.Core.List.{List, [], ◌∷◌}
use mathlib.Core.Logic.Iff
use mathlib.Core.Logic.{◌↔◌}
use Prim.Native.Nat.{ℕ, ◌/◌, ◌≤◌}
use native.Mathlib.Omega.{arith}
use lib.ListN.{length}
use lib.Ieee.{Float}
use Rattle.tables.specs.declared.layout.Counts.{Counts}
use Rattle.tables.specs.Mesh.{Lent}
use Rattle.std.specs.Prelude.{Option, Some, None, Result, Ok, Err}
use Rattle.tables.specs.declared.refusal.Cause.{Cause}
use Rattle.tables.specs.declared.refusal.Cause.TheVariants.{Lengths, Room}
use Rattle.tables.specs.declared.refusal.Refusal.{Refusal}
use Rattle.tables.specs.Refusal.{number_of, refused}
use Rattle.intake.specs.Search.{first}
use Rattle.intake.specs.Causes.{wrong_input, wrong_lent}
use Rattle.intake.specs.Verdict.{Verdict, when, at, plain, fitting}
use Rattle.intake.proofs.laws.First.{first_found, found_first, none_first, first_nowhere}
use Rattle.opening.specs.Opening.{late, judged, answer, tables, verdict_on, Opens}
use Rattle.opening.specs.Refusals.{Test, causes, causes_on, RefusedBy, here, later, RefusedByNone, end, next}

-- ---- the tests of a list, one after the other

unfoldable tested : List Test → Verdict
tested [] = Ok tt
tested (c ∷ cs) = at (first c.present c.places) c.cause (tested cs)

once : (b : Bool) (n : Cause) (v : Verdict) → when b n v ≡ at (first (λ p. b) 1) n v
unfolding first
once true n v = refl
once false n v = refl

judged_tested : (F : List Float) (E : List ℕ) (points records rows : ℕ) → judged F E points records rows ≡ tested (causes F E points records rows)
unfolding judged fitting plain late tested
judged_tested F E points records rows = once _ Lengths _ ∙ ap (λ (v : Verdict). at (first (λ p. wrong_input (length F) (length E) || wrong_lent points records rows) 1) Lengths v) (once _ Room _)

passed_never : {X : Type 0} {x : Refusal} → ◌≡◌ {A = Verdict} (Ok tt) (Err x) → X
passed_never e = absurd (cc)

same_cause : {n m : Cause} {p q : ℕ} → ◌≡◌ {A = Verdict} (refused n p) (refused m q) → n ≡ m
same_cause {n} e = ap (λ (v : Verdict). elim v [ Ok x ↦ n | Err y ↦ y.cause ]) e

same_place : {n m : Cause} {p q : ℕ} → ◌≡◌ {A = Verdict} (refused n p) (refused m q) → p ≡ q
same_place {p = p} e = ap (λ (v : Verdict). elim v [ Ok x ↦ p | Err y ↦ y.place ]) e

tested_refused : (cs : List Test) (n : Cause) (p : ℕ) → tested cs ≡ refused n p → RefusedBy cs n p
unfolding tested
tested_refused [] n p e = passed_never e
tested_refused (c ∷ cs) n p e = go (first c.present c.places) refl e (tested_refused cs n p)
  where
    go : (f : Option ℕ) → first c.present c.places ≡ f → at f c.cause (tested cs) ≡ refused n p → (tested cs ≡ refused n p → RefusedBy cs n p) → RefusedBy (c ∷ cs) n p
    go (Some q) f x ih = rw (← same_cause x, ← same_place x) (here (first_found c.present c.places q f))
    go None f x ih = later (first_nowhere c.present c.places f) (ih x)

refused_tested : (cs : List Test) (n : Cause) (p : ℕ) → RefusedBy cs n p → tested cs ≡ refused n p
unfolding tested
refused_tested [] n p x = elim x [ ]
refused_tested (c ∷ cs) n p (here s) = rw (tested, found_first c.present c.places p s)
refused_tested (c ∷ cs) n p (later s r) = rw (tested, none_first c.present c.places s) (refused_tested cs n p r)

tested_passed : (cs : List Test) → tested cs ≡ Ok tt → RefusedByNone cs
unfolding tested
tested_passed [] e = end
tested_passed (c ∷ cs) e = go (first c.present c.places) refl e (tested_passed cs)
  where
    go : (f : Option ℕ) → first c.present c.places ≡ f → at f c.cause (tested cs) ≡ Ok tt → (tested cs ≡ Ok tt → RefusedByNone cs) → RefusedByNone (c ∷ cs)
    go (Some q) f x ih = passed_never (sym x)
    go None f x ih = next (first_nowhere c.present c.places f) (ih x)

passed_tested : (cs : List Test) → RefusedByNone cs → tested cs ≡ Ok tt
unfolding tested
passed_tested [] end = refl
passed_tested (c ∷ cs) (next s r) = rw (tested, none_first c.present c.places s) (passed_tested cs r)

-- the causes are numbered 1 to 8
cause_number : (F : List Float) (E : List ℕ) (points records rows : ℕ) (n : Cause) (p : ℕ) → RefusedBy (causes F E points records rows) n p → (1 ≤ number_of n) × (number_of n ≤ 8)
cause_number F E a b c n p (here s) = (omega arith, omega arith)
cause_number F E a b c n p (later _ (here s)) = (omega arith, omega arith)
cause_number F E a b c n p (later _ (later _ (here s))) = (omega arith, omega arith)
cause_number F E a b c n p (later _ (later _ (later _ (here s)))) = (omega arith, omega arith)
cause_number F E a b c n p (later _ (later _ (later _ (later _ (here s))))) = (omega arith, omega arith)
cause_number F E a b c n p (later _ (later _ (later _ (later _ (later _ (here s)))))) = (omega arith, omega arith)
cause_number F E a b c n p (later _ (later _ (later _ (later _ (later _ (later _ (here s))))))) = (omega arith, omega arith)
cause_number F E a b c n p (later _ (later _ (later _ (later _ (later _ (later _ (later _ (here s)))))))) = (omega arith, omega arith)
cause_number F E a b c n p (later _ (later _ (later _ (later _ (later _ (later _ (later _ (later _ x)))))))) = elim x [ ]

-- ---- the verdict

module _ (F : List Float) (E : List ℕ) (points records rows : ℕ) where
  -- refused by n at p exactly if cause n is present at p and at no smaller place, and none of the causes before n anywhere
  pub judged_refused : (n : Cause) (p : ℕ) → judged F E points records rows ≡ refused n p ↔ RefusedBy (causes F E points records rows) n p
  judged_refused n p =
      let e = judged_tested F E points records rows in (λ x. tested_refused (causes F E points records rows) n p (sym e ∙ x), λ r. e ∙ refused_tested (causes F E points records rows) n p r)

  pub judged_number : (n : Cause) (p : ℕ) → judged F E points records rows ≡ refused n p → (1 ≤ number_of n) × (number_of n ≤ 8)
  judged_number n p e = cause_number F E points records rows n p ((judged_refused n p).0 e)

  -- passed exactly if no cause is present
  pub judged_passed : judged F E points records rows ≡ Ok tt ↔ RefusedByNone (causes F E points records rows)
  judged_passed = let e = judged_tested F E points records rows in (λ x. tested_passed (causes F E points records rows) (sym e ∙ x), λ r. e ∙ passed_tested (causes F E points records rows) r)

-- ---- the answer

module _ (v : Verdict) (a b : ℕ) where
  answer_refused : {x : Refusal} → answer v a b ≡ Err x → v ≡ Err x
  answer_refused {x} = go v
    where
      go : (v : Verdict) → answer v a b ≡ Err x → v ≡ Err x
      go (Err y) e = cc
      go (Ok y) e = absurd (cc)

  answer_done : {c : Counts} → answer v a b ≡ Ok c → v ≡ Ok tt
  answer_done {c} = go v
    where
      go : (v : Verdict) → answer v a b ≡ Ok c → v ≡ Ok tt
      go (Err y) e = absurd (cc)
      go (Ok y) e = refl

module _ {F : List Float} {E : List ℕ} {t : Lent} {r : Result Counts Refusal} {t' : Lent} (o : Opens F E t r t') where
  -- refused for cause n at p exactly if it is present at p, at no smaller place, and no cause before it is present anywhere (demand 1)
  pub opens_refuses : (n : Cause) (p : ℕ) → r ≡ refused n p ↔ RefusedBy (causes_on F E t) n p
  opens_refuses n p = Iff.trans (λ e. answer_refused (verdict_on F E t) _ _ (sym o.answers ∙ e), λ e. o.answers ∙ ap (λ (v : Verdict). answer v (length F / 3) (length E / 4)) e) (judged_refused F E _ _ _ n p)

  -- accepted exactly if no cause is present (demand 1)
  pub opens_accepts : ((c : Counts) × (r ≡ Ok c)) ↔ RefusedByNone (causes_on F E t)
  opens_accepts = Iff.trans (λ x. answer_done (verdict_on F E t) _ _ (sym o.answers ∙ x.1), λ e. (_, o.answers ∙ ap (λ (v : Verdict). answer v (length F / 3) (length E / 4)) e)) (judged_passed F E _ _ _)

  -- a refused opening leaves every lent number as at entry (demand 1)
  pub opens_same : {x : Refusal} → r ≡ Err x → t' ≡ t
  opens_same e = o.leaves ∙ ap (λ (v : Verdict). tables v F E t) (answer_refused (verdict_on F E t) _ _ (sym o.answers ∙ e))

  -- the tests are numbered from 1
  pub opens_number : {n : Cause} {p : ℕ} → r ≡ refused n p → 1 ≤ number_of n
  opens_number {n} {p} e = (cause_number F E _ _ _ n p ((opens_refuses n p).0 e)).0
