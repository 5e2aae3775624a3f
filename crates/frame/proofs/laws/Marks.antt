-- Tests on marks: one mark, and whether one of them passes.
use mathlib.Core.Path.{◌≡◌, refl, sym, ◌∙◌}
use mathlib.Core.Bool.{Bool, true, false, not}
use mathlib.Core.List.{List}
use mathlib.Core.Logic.{◌↔◌}
use Prim.Native.Nat.{ℕ, ◌<◌}
use native.Mathlib.Omega.{arith}
use borrow.Author.Tests.{eq-eqb, ne_eqb, eqb-true, ltb-false, not-true}
use borrow.Author.Rules.{rules}
use lib.Dec.{eqb, leb, ltb}
use lib.ListN.{length, get_or}
use Rattle.std.proofs.Common.{Option, Some, None, Ok, Err}
use Rattle.std.proofs.lemmas.List.Quantifiers.{position-Some}
use Rattle.std.proofs.lemmas.List.Folds.{list_any_at, list_any_none}
use Rattle.std.proofs.lemmas.List.Elements.{All-from_get_or}
use Rattle.std.proofs.lemmas.List.Sums.{prefix_len_passes}
use Rattle.std.specs.Bool.{⊤}
use Rattle.std.specs.List.{position, position_or_len, list_any}
use Rattle.split.specs.declared.row.Row.{Row}
use Rattle.split.proofs.laws.Tests.{both}
use Rattle.tables.specs.Layout.{row_at}
use Rattle.tables.specs.declared.refusal.Cause.TheVariants.{Mark, Depth}
use Rattle.tables.specs.declared.refusal.Refusal.{Refusal}
use Rattle.tables.specs.Refusal.{refusal_at, refused}
use Rattle.intake.specs.Search.{first, any}
use Rattle.intake.specs.Verdict.{Verdict, at, when}
use Rattle.intake.proofs.laws.First.{found_first, none_first}
use Rattle.intake.proofs.laws.Search.{any_has, any_some}
use Rattle.intake.proofs.laws.Verdicts.{stands, goes_on}
use Rattle.frame.specs.Marks.{deep_at, on_marks}

-- ---- one mark

module _ (w : List ℕ) (r : ℕ) {held : Row} (is : held ≡ row_at w r) where
  pub deep_split : (held.child ≡ 0 → ⊥) → eqb held.child 0 ≡ deep_at w r
  unfolding deep_at
  deep_split d = rw (← is, ne_eqb held.child 0 d)

  pub deep_leaf : held.child ≡ 0 → eqb held.depth 60 ≡ deep_at w r
  unfolding deep_at
  deep_leaf e = rw (← is, eq-eqb held.child 0 e)

pub ruleset deep_tests = (deep_split, deep_leaf)

-- the test holds exactly of a leaf of depth 60 (02, L9)
pub deep_at_lem : (w : List ℕ) (r : ℕ) → deep_at w r ≡ true ↔ (((row_at w r).child ≡ 0) × ((row_at w r).depth ≡ 60))
unfolding deep_at
deep_at_lem w r = (λ e. let (leaf, deep) = both _ _ e in (eqb-true _ _ leaf, eqb-true _ _ deep), λ d. rw (d.0, d.1))

-- ---- a list of marks, by place

module _ (p : ℕ → Bool) (l : List ℕ) where
  abbrev at_place : ℕ → Bool
  at_place j = p (get_or l j 0)

  -- the place that `position` gives is the smallest
  pub position_first : position p l ≡ first (λ j. p (get_or l j 0)) (length l)
  position_first = go (ltb (position_or_len p l) (length l)) refl (position p l) refl
    where
      go : (b : Bool) → ltb (position_or_len p l) (length l) ≡ b → (f : Option ℕ) → position p l ≡ f → position p l ≡ first at_place (length l)
      go true t f e = let found : position p l ≡ Some (position_or_len p l) = rw t in
          let (low, holds, before) = position-Some p l (position_or_len p l) 0 found in
          found ∙ sym (found_first at_place (length l) (position_or_len p l) (record { below = low; holds = holds; not_before = before }))
      go false t f e = let found : position p l ≡ None = rw t in
          let past = ltb-false (position_or_len p l) (length l) t in
          found ∙ sym (none_first at_place (length l) (record { fails = λ k h. not-true (p (get_or l k 0)) (prefix_len_passes (λ (x : ℕ). not (p x)) l k 0 (omega (arith, past, h))) }))

  -- whether some mark passes
  pub list_any_places : list_any p l ≡ any (λ j. p (get_or l j 0)) (length l)
  list_any_places = go (any at_place (length l)) refl
    where
      never : any at_place (length l) ≡ false → (k : ℕ) → k < length l → (b : Bool) → p (get_or l k 0) ≡ b → b ≡ false
      never e k h true f = sym (any_has at_place (length l) k h f) ∙ e
      never e k h false f = refl

      go : (b : Bool) → any at_place (length l) ≡ b → list_any p l ≡ any at_place (length l)
      go true e = let (k, h, t) = any_some at_place (length l) e in list_any_at p l k 0 h t ∙ sym e
      go false e = list_any_none p l (All-from_get_or (λ (x : ℕ). p x ≡ false) l 0 (λ k h. never e k h (p (get_or l k 0)) refl)) ∙ sym e

-- ---- the verdict

module _ (w : List ℕ) (n : ℕ) (marks : List ℕ) where
  -- the first mark that names no row, and whether one names a leaf of depth 60
  abbrev pub missings : Option ℕ
  missings = first (λ j. leb n (get_or marks j 0)) (length marks)

  abbrev pub deeps : Bool
  deeps = any (λ j. deep_at w (get_or marks j 0)) (length marks)

  -- what the code finds, and what it says of the first mark alone
  module _ {f : Option ℕ} {r : Verdict} (e : f ≡ position (λ m. leb n m) marks) (v : r ≡ at f Mark (Ok tt)) where
    found : f ≡ missings
    found = e ∙ position_first (λ m. leb n m) marks

    pub judged_missing : {y : Refusal} → r ≡ Err y → Err y ≡ on_marks w n marks
    unfolding on_marks
    judged_missing h = stands Mark (when deeps Depth (Ok tt)) found v h

    module _ {x : ⊤} (h : r ≡ Ok x) {b : Bool} (a : b ≡ list_any (λ m. deep_at w m) marks) where
      deeps_are : b ≡ deeps
      deeps_are = a ∙ list_any_places (λ m. deep_at w m) marks

      pub judged_deep : b ≡ true → {y : Refusal} → y ≡ refusal_at Depth 0 → Err y ≡ on_marks w n marks
      unfolding on_marks
      judged_deep g z = goes_on Mark (when deeps Depth (Ok tt)) found v h (rw (← deeps_are, g, z))

      pub judged_passed : b ≡ false → Ok tt ≡ on_marks w n marks
      unfolding on_marks
      judged_passed g = goes_on Mark (when deeps Depth (Ok tt)) found v h (rw (← deeps_are, g))

  -- what a verdict tells
  pub data Told (v : Verdict) : Type 0 where
    missing : (p : ℕ) → missings ≡ Some p → v ≡ refused Mark p → Told v
    deep : missings ≡ None → deeps ≡ true → v ≡ refused Depth 0 → Told v
    passed : missings ≡ None → deeps ≡ false → v ≡ Ok tt → Told v

  pub told : Told (on_marks w n marks)
  unfolding on_marks
  told = go (missings) refl deeps refl
    where
      go : (f : Option ℕ) → missings ≡ f → (b : Bool) → deeps ≡ b → Told (at f Mark (when b Depth (Ok tt)))
      go (Some p) e b g = missing p e refl
      go None e true g = deep e g refl
      go None e false g = passed e g refl

pub ruleset judging = (judged_missing, judged_deep, judged_passed, rules)
