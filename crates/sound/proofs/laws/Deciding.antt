-- What a function that decides returns: from a test, and from a loop over places that stops at the first place that fails.
use mathlib.Core.Path.{◌≡◌, sym, ap, ◌∙◌}
use mathlib.Core.Bool.{Bool, true, false, not, true≢false}
use mathlib.Core.List.{List}
use Prim.Native.Nat.{ℕ, ◌+◌, ◌-◌, ◌≤◌, ◌<◌, zero-le}
use native.Mathlib.Nat.{add-sub_of_le, lt_of_lt_of_le, not-le_of_lt}
use native.Mathlib.Omega.{arith}
use lib.Dec.{eqb, ltb}
use lib.ListN.{length, get_or, drop, replicate, length-drop, length-replicate, get_or-replicate}
use lib.Seq.{ext_get_or, get_or-drop}
use borrow.Author.Count.{below_more}
use borrow.Author.Tests.{eqb-true, eqb-false, ltb-true, ltb-false, not-true, not-false}
use Rattle.sound.specs.Check.{Decides}

module _ {P : Type 0} where
  pub decides_true : P → Decides P true
  decides_true p = record { yes = λ e. p; no = λ e. absurd (true≢false e) }

  pub decides_false : (P → ⊥) → Decides P false
  decides_false n = record { yes = λ e. absurd (true≢false (sym e)); no = λ e. n }

-- the answer r of a call, in `if !r { .. }`: the test is taken, or left
module _ {P : Type 0} {r : Bool} (d : Decides P r) where
  pub refused : not r ≡ true → P → ⊥
  refused e = d.no (not-true r e)

  pub granted : not r ≡ false → P
  granted e = d.yes (not-false r e)

-- the same question in other words
pub decides_same : {P Q : Type 0} {r : Bool} → (P → Q) → (Q → P) → Decides P r → Decides Q r
decides_same f g d = record { yes = λ e. f (d.yes e); no = λ e q. d.no e (g q) }

-- a test on the answer of a call
pub decides_equal : {a x : ℕ} (b : ℕ) → a ≡ x → Decides (x ≡ b) (eqb a b)
decides_equal {a} b p = rw (← p) (record { yes = eqb-true a b; no = eqb-false a b })

pub decides_less : (a b : ℕ) → Decides (a < b) (ltb a b)
decides_less a b = record { yes = ltb-true a b; no = λ e h. not-le_of_lt h (ltb-false a b e) }

-- ---- all places from one on, below another

abbrev pub All : (ℕ → Type 0) → ℕ → ℕ → Type 0
All P from n = (k : ℕ) → from ≤ k → k < n → P k

-- the invariant of a loop over places: each below i has passed
pub record Swept (P : ℕ → Type 0) (from i : ℕ) : Type 0 where
  pub reached : from ≤ i
  pub held : All P from i

pub swept_none : {P : ℕ → Type 0} (from : ℕ) → Swept P from from
swept_none from = record { reached = omega arith; held = λ k f h. absurd (omega arith) }

module _ {P : ℕ → Type 0} {from i : ℕ} (s : Swept P from i) where
  pub swept_on : P i → Swept P from (i + 1)
  swept_on p = record {
    reached = omega (arith, s.reached);
    held = λ k f h. below_more (λ (j : ℕ). from ≤ j → P j) i (λ j l g. s.held j g l) (λ g. p) k h f;
  }

  pub swept_all : {n : ℕ} → n ≤ i → Decides (All P from n) true
  swept_all h = decides_true (λ k f l. s.held k f (lt_of_lt_of_le l h))

  pub swept_failed : {n : ℕ} → i < n → (P i → ⊥) → Decides (All P from n) false
  swept_failed h p = decides_false (λ all. p (all i s.reached h))

-- from 0 on is from anywhere
pub all_places : {P : ℕ → Type 0} {n : ℕ} {r : Bool} → Decides (All P 0 n) r → Decides ((k : ℕ) → k < n → P k) r
all_places = decides_same (λ f k h. f k zero-le h) (λ f k l h. f k h)

-- ---- a list ends with copies of z from a place on exactly if z stands at every place from there on

module _ {A : Type 0} (z d : A) (l : List A) (from : ℕ) where
  all_copies : All (λ k. get_or l k d ≡ z) from (length l) → drop from l ≡ replicate (length l - from) z
  all_copies h = ext_get_or d _ _ (length-drop from l ∙ sym (length-replicate (length l - from) z)) at
    where
      at : (i : ℕ) → i < length (drop from l) → get_or (drop from l) i d ≡ get_or (replicate (length l - from) z) i d
      at i b =
          let inside : i < length l - from = rw (length-drop from l) at b in
          get_or-drop from l i d ∙ h (from + i) (omega arith) (omega arith) ∙ sym (get_or-replicate (length l - from) i z d inside)

  copies_all : drop from l ≡ replicate (length l - from) z → All (λ k. get_or l k d ≡ z) from (length l)
  copies_all e k f h =
      rw (← add-sub_of_le f) (sym (get_or-drop from l (k - from) d) ∙ ap (λ (t : List A). get_or t (k - from) d) e ∙ get_or-replicate (length l - from) (k - from) z d (omega arith))

  pub decides_copies : {r : Bool} → Decides (All (λ k. get_or l k d ≡ z) from (length l)) r → Decides (drop from l ≡ replicate (length l - from) z) r
  decides_copies = decides_same all_copies copies_all
