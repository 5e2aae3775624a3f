-- How many places of a range pass a test.
use mathlib.Core.Path.{◌≡◌, refl, sym, ap, ◌∙◌}
use mathlib.Core.Bool.{Bool, cond}
use mathlib.Core.List.{List, [], ◌∷◌, ◌++◌, map-id}
use Prim.Native.Nat.{ℕ, zero, suc, ◌+◌}
use native.Mathlib.Numerals.{add-one}
use native.Mathlib.Omega.{arith}
use Rattle.std.proofs.Common.{count_by}
use Rattle.std.proofs.lemmas.List.Sums.{sum_by-append}
use Rattle.std.proofs.lemmas.List.FromFn.{map-range_with_len_more}
use Rattle.std.specs.List.{range_with_len}
use Rattle.intake.specs.Search.{count}

one_more : (n : ℕ) → range_with_len 0 (suc n) ≡ range_with_len 0 n ++ n ∷ []
one_more n = rw add-one at (sym (map-id _) ∙ map-range_with_len_more (λ x. x) 0 n n (omega arith) ∙ ap (λ (l : List ℕ). l ++ n ∷ []) (map-id _))

pub count_range : (test : ℕ → Bool) (n : ℕ) → count_by test (range_with_len 0 n) ≡ count test n
unfolding count
count_range test zero = refl
count_range test (suc n) = ap (count_by test) (one_more n) ∙ last (range_with_len 0 n) ∙ ap (λ (k : ℕ). k + cond (test n) 1 0) (count_range test n)
  where
    last : (l : List ℕ) → count_by test (l ++ n ∷ []) ≡ count_by test l + cond (test n) 1 0
    last l = omega (arith, sum_by-append (λ (x : ℕ). cond (test x) 1 0) l (n ∷ []))
