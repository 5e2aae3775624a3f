-- The smallest number that is not taken: what it means, that nothing else does, and the same of flags.
use mathlib.Core.Path.{◌≡◌, refl, sym, ◌∙◌}
use mathlib.Core.Bool.{Bool, true, false, cond, not, true≢false}
use mathlib.Core.List.{List}
use Prim.Native.Nat.{ℕ, zero, suc, ◌≤◌, ◌<◌, min}
use native.Mathlib.Decide.{dec_lt, ℕ_discrete}
use native.Mathlib.Omega.{arith}
use borrow.Author.Tests.{lt-ltb, le-ltb, not-true, not-false}
use lib.ListN.{length, get_or}
use Rattle.std.specs.List.{position_or_len}
use Rattle.std.proofs.lemmas.List.Sums.{prefix_len-le-length, fails_before_first, passes_at_first}
use Rattle.intake.specs.Search.{free}

-- what `free` is, in one record, for a proof by induction
record Free (taken : ℕ → Bool) (n f : ℕ) : Type 0 where
  most : f ≤ n
  under : (c : ℕ) → c < f → taken c ≡ true
  out : f < n → taken f ≡ false

module _ (taken : ℕ → Bool) where
  free_is : (n : ℕ) → Free taken n (free taken n)
  unfolding free
  free_is zero = record { most = omega arith; under = λ c h. absurd (omega arith); out = λ h. absurd (omega arith) }
  free_is (suc n) = go (free_is n) (dec_lt (free taken n) n)
    where
      more : Free taken n (free taken n) → n ≤ free taken n → (b : Bool) → taken n ≡ b → Free taken (suc n) (cond b (suc n) n)
      more r h true t = record { most = omega arith; under = λ c l. under c (ℕ_discrete c n) l; out = λ l. absurd (omega arith) }
        where
          under : (c : ℕ) → Dec (c ≡ n) → c < suc n → taken c ≡ true
          under c (yes e) l = rw e t
          under c (no d) l = r.under c (omega arith)
      more r h false t = record { most = omega arith; under = λ c l. r.under c (omega arith); out = λ l. t }

      go : Free taken n (free taken n) → Dec (free taken n < n) → Free taken (suc n) (free taken (suc n))
      go r (yes h) = rw (free, lt-ltb (free taken n) n h) (record { most = omega arith; under = r.under; out = λ l. r.out h })
      go r (no h) = rw (free, le-ltb (free taken n) n (omega arith)) (more r (omega arith) (taken n) refl)

  pub free_most : (n : ℕ) → free taken n ≤ n
  free_most n = (free_is n).most

  pub free_taken : (n c : ℕ) → c < free taken n → taken c ≡ true
  free_taken n = (free_is n).under

  pub free_not : (n : ℕ) → free taken n < n → taken (free taken n) ≡ false
  free_not n = (free_is n).out

  -- no other number is the smallest
  pub free_only : (n m : ℕ) → m ≤ n → ((c : ℕ) → c < m → taken c ≡ true) → (m < n → taken m ≡ false) → free taken n ≡ m
  free_only n m h under out = go (dec_lt (free taken n) m) (dec_lt m (free taken n))
    where
      go : Dec (free taken n < m) → Dec (m < free taken n) → free taken n ≡ m
      go (yes l) d = absurd (true≢false (sym (under _ l) ∙ free_not n (omega arith)))
      go (no l) (yes g) = absurd (true≢false (sym (free_taken n m g) ∙ out (omega (arith, free_most n))))
      go (no l) (no g) = omega arith

-- a search below k of what agrees below k, where n itself is not taken
pub free_min : (taken taken' : ℕ → Bool) (k n : ℕ) → ((c : ℕ) → c < k → taken' c ≡ taken c) → taken n ≡ false → free taken' k ≡ min k (free taken n)
free_min taken taken' k n same last = free_only taken' k (min k (free taken n)) (omega arith) (λ c h. same c (omega arith) ∙ free_taken taken n c (omega arith)) (λ h. out (omega arith))
  where
    at : (f : ℕ) → f ≡ free taken n → Dec (f < n) → taken f ≡ false
    at f e (yes l) = rw e (free_not taken n (omega arith))
    at f e (no l) =
        let q : f ≡ n = omega (arith, free_most taken n) in
        rw q last

    out : min k (free taken n) < k → taken' (min k (free taken n)) ≡ false
    out h =
        let e : min k (free taken n) ≡ free taken n = omega arith in
        same _ h ∙ at (min k (free taken n)) e (dec_lt _ _)

-- ---- the same of flags

-- a search over the flags finds the smallest colour that is not taken
pub free_flag : (flags : List Bool) → free (λ c. get_or flags c false) (length flags) ≡ position_or_len not flags
free_flag flags = free_only (λ c. get_or flags c false) (length flags) (position_or_len not flags) (prefix_len-le-length (λ f. not (not f)) flags) (λ c h. not-false _ (fails_before_first not flags c false h)) (λ h. not-true _ (passes_at_first not flags false h))
