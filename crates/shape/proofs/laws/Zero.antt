-- The only float whose bits are all zero is plus zero: what a table's unused rows hold. And a test that is asked of all numbers.
use mathlib.Core.Path.{◌≡◌, sym, subst, ap, ◌∙◌}
use mathlib.Core.Bool.{Bool, true, false, true≢false}
use mathlib.Core.List.{List}
use Prim.Native.Nat.{ℕ, ◌+◌, ◌-◌, ◌≤◌, ◌<◌}
use native.Mathlib.Nat.{add-sub_of_le}
use lib.ListN.{length, get_or, take, drop, replicate, length-drop}
use lib.Seq.{get_or-drop}
use native.Mathlib.Omega.{arith}
use lib.Dec.{eqb, lit<}
use lib.Ieee.{Float, binary64, fits, of_bits, to_bits}
use lib.Ieee.Bits.{of_bits-to_bits, to_bits-of_bits}
use borrow.Author.Rules.{const_no_nan}
use borrow.Author.Tests.{eqb-true, eqb-false}
use denote.Floats.{passes}
use Rattle.tables.specs.Layout.{no_float}
use Rattle.sound.specs.Check.{Decides}
use Rattle.sound.proofs.laws.Deciding.{All, decides_copies}
use Rattle.std.proofs.lemmas.List.{take_all}
use Rattle.std.specs.Bool.{MatchBool}
use Rattle.std.specs.List as L
use Rattle.std.specs.List.{HoldsAt}
use Rattle.shape.specs.Shape.{EachPasses}

-- a value that fits its format is read back from its bits
pub decides_zero : (x : Float) → fits binary64 x ≡ true → Decides (x ≡ no_float) (eqb (to_bits binary64 x) 0)
decides_zero x f = record {
  yes = λ e. sym (of_bits-to_bits binary64 x (passes _ f)) ∙ ap (of_bits binary64) (eqb-true _ 0 e);
  no = λ e p. eqb-false _ 0 e (ap (to_bits binary64) p ∙ to_bits-of_bits binary64 0 (lit< tt) (const_no_nan binary64 0 tt));
}

-- ---- a test that every number of a list from a place on was asked

-- the invariant of the loop that asks it, of the numbers so far
abbrev pub Tested : {A : Type 0} → (A → Bool → Type 0) → List A → Bool → Type 0
Tested test xs b = MatchBool b (L.All (λ x. test x true) xs) ((k : ℕ) × (k < length xs) × HoldsAt (λ x. test x false) xs k)

pub each_tested : {A : Type 0} (test : A → Bool → Type 0) (l : List A) (n i : ℕ) {b : Bool} → length l ≤ n → length (take n l) ≤ i → Tested test (take i (take n l)) b → EachPasses test l b
each_tested test l n i {b} f g h = go b (subst (λ xs. Tested test xs b) (take_all i (take n l) g ∙ take_all n l f) h)
  where
    go : (b : Bool) → Tested test l b → EachPasses test l b
    go true h = record { all = λ e. h; some = λ e. absurd (true≢false e) }
    go false h = record { all = λ e. absurd (true≢false (sym e)); some = λ e. h }

-- b is the answer of a test that z alone passes
pub decides_each : {A : Type 0} {test : A → Bool → Type 0} (z : A) (l : List A) (from : ℕ) {b : Bool} → EachPasses test (drop from l) b → ((x : A) → test x true → x ≡ z) → ((x : A) → test x false → x ≡ z → ⊥) → Decides (drop from l ≡ replicate (length l - from) z) b
decides_each {A} {test} z l from {b} e same other = decides_copies z z l from (record { yes = λ y k f g. sym (read k f) ∙ same _ (e.all y (k - from) z (omega (arith, length-drop from l))); no = λ n. none (e.some n) })
  where
    read : (k : ℕ) → from ≤ k → get_or (drop from l) (k - from) z ≡ get_or l k z
    read k f = get_or-drop from l (k - from) z ∙ ap (λ (n : ℕ). get_or l n z) (add-sub_of_le f)

    none : (k : ℕ) × (k < length (drop from l)) × HoldsAt (λ x. test x false) (drop from l) k → All (λ k. get_or l k z ≡ z) from (length l) → ⊥
    none (k, g, h) all = other _ (h z) (get_or-drop from l k z ∙ all (from + k) (omega arith) (omega (arith, length-drop from l)))
