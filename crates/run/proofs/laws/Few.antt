-- A list without repetition is no longer than the numbers that tell its members apart, and the numbers that pass a test are such a list.
use mathlib.Core.Path.{◌≡◌, refl, sym, ◌∙◌}
use mathlib.Core.Bool.{Bool, true, false, not, ◌&&◌, cond, and-true}
use mathlib.Core.HLevel.{⊥_prop}
use mathlib.Core.Logic.{inl, inr, ∥∥₁_elim}
use mathlib.Core.List.Memᴰ
use mathlib.Core.List.Pairwise
use mathlib.Core.List.{List, [], ◌∷◌, Memᴰ, Nodup}
use Prim.Native.Nat.{ℕ, zero, suc, ◌+◌, ◌≤◌, ◌<◌}
use native.Mathlib.Decide.{ℕ_discrete}
use native.Mathlib.Omega.{arith}
use borrow.Author.Tests.{eq-eqb, ne_eqb}
use lib.Dec.{eqb}
use lib.ListN.{length}
use Rattle.intake.specs.Search.{count}
use Rattle.opening.proofs.laws.Counting.{count_same}

-- ---- one number taken out of a test

abbrev without : (ℕ → Bool) → ℕ → ℕ → Bool
without test x j = test j && not (eqb j x)

without_other : (test : ℕ → Bool) (x j : ℕ) → (j ≡ x → ⊥) → without test x j ≡ test j
without_other test x j d = rw (ne_eqb j x d) (and-true (test j))

count_without : (test : ℕ → Bool) (x n : ℕ) → x < n → test x ≡ true → count test n ≡ count (without test x) n + 1
unfolding count
count_without test x zero h e = absurd (omega arith)
count_without test x (suc n) h e = go (ℕ_discrete n x) (count_without test x n)
  where
    go : Dec (n ≡ x) → (x < n → test x ≡ true → count test n ≡ count (without test x) n + 1) → count test n + cond (test n) 1 0 ≡ count (without test x) n + cond (without test x n) 1 0 + 1
    go (yes q) deeper = rw (q, e, eq-eqb x x refl) (omega (arith, count_same (without test x) test x (λ j l. without_other test x j (λ z. omega arith))))
    go (no d) deeper = rw (without_other test x n d) (omega (arith, deeper (omega arith) e))

-- ---- few members

-- a has a number below n that passes the test
pub record Numbered {A : Type 0} (R : A → ℕ → Type 0) (test : ℕ → Bool) (n : ℕ) (a : A) : Type 0 where
  pub number : ℕ
  pub fits : R a number
  pub below : number < n
  pub holds : test number ≡ true

module _ {A : Type 0} (R : A → ℕ → Type 0) (one : (a b : A) (j : ℕ) → R a j → R b j → a ≡ b) (n : ℕ) where
  pub few : {l : List A} → Nodup l → (test : ℕ → Bool) → ((a : A) → Memᴰ a l → Numbered R test n a) → length l ≤ count test n
  few Pairwise.nil test h = omega arith
  few (Pairwise.cons {a} {l} apart p) test h =
      let w = h a (Memᴰ.head refl) in
      omega (
        arith,
        count_without test w.number n w.below w.holds,
        few p (without test w.number) (λ b k.
            let v = h b (Memᴰ.tail k) in
            let other : v.number ≡ w.number → ⊥ = λ e. apart b ∣ k ∣₁ (one a b w.number w.fits (rw e at v.fits)) in
            record { number = v.number; fits = v.fits; below = v.below; holds = without_other test w.number v.number other ∙ v.holds }),
      )

-- ---- the numbers that pass a test, by what f makes of them

pub record Listing {A : Type 0} (f : ℕ → A) (test : ℕ → Bool) (n : ℕ) : Type 0 where
  pub list : List A
  pub once : Nodup list
  pub size : length list ≡ count test n
  pub each : (a : A) → Memᴰ a list → Numbered (λ b j. f j ≡ b) test n a

module _ {A : Type 0} (f : ℕ → A) (test : ℕ → Bool) where
  none : Listing f test 0
  unfolding count
  none = record { list = []; once = Pairwise.nil; size = refl; each = λ a k. absurd (Memᴰ.not-nil k) }

  higher : {n : ℕ} {a : A} → Numbered (λ b j. f j ≡ b) test n a → Numbered (λ b j. f j ≡ b) test (suc n) a
  higher w = record { number = w.number; fits = w.fits; below = omega (arith, w.below); holds = w.holds }

  next : (n : ℕ) → ((j k : ℕ) → j < suc n → k < suc n → f j ≡ f k → j ≡ k) → Listing f test n → (b : Bool) → test n ≡ b → Listing f test (suc n)
  unfolding count
  next n apart w false e = record { list = w.list; once = w.once; size = rw e (omega (arith, w.size)); each = λ a k. higher (w.each a k) }
  next n apart w true e = record {
    list = f n ∷ w.list;
    once = Pairwise.cons (λ b k q. ∥∥₁_elim k ⊥_prop (λ j. let v = w.each b j in omega (arith, v.below, apart v.number n (omega (arith, v.below)) (omega arith) (v.fits ∙ sym q)))) w.once;
    size = rw e (omega (arith, w.size));
    each = λ a k. elim (Memᴰ.cases_cons k) [ inl q ↦ record { number = n; fits = sym q; below = omega arith; holds = e } | inr j ↦ higher (w.each a j) ];
  }

  pub listing : (n : ℕ) → ((j k : ℕ) → j < n → k < n → f j ≡ f k → j ≡ k) → Listing f test n
  listing zero apart = none
  listing (suc n) apart = next n apart (listing n (λ j k h l. apart j k (omega arith) (omega arith))) (test n) refl
