-- A search answers the smallest place where its test holds, and nothing else does.
use mathlib.Core.Path.{◌≡◌, refl, ◌∙◌}
use mathlib.Core.Bool.{Bool, true, false}
use Prim.Native.Nat.{ℕ, zero, suc}
use native.Mathlib.Numerals.{add-one}
use native.Mathlib.Omega.{arith}
use Rattle.std.proofs.Common.{Option, Some, None}
use Rattle.intake.specs.Search.{or_at, first}
use Rattle.intake.specs.First.{FirstAt, Nowhere}
use Rattle.intake.proofs.laws.Search.{first_start, first_passed, first_stopped, first_none}

-- an answer is not both a place and none, and not two places
pub found_never : {X : Type 0} {f : Option ℕ} {p : ℕ} → f ≡ Some p → f ≡ None → X
found_never a b = let z : ◌≡◌ {A = ℕ} 0 1 = cc in absurd (omega arith)

pub found_one : {f : Option ℕ} {p q : ℕ} → f ≡ Some p → f ≡ Some q → p ≡ q
found_one a b = cc

module _ (test : ℕ → Bool) where
  -- 01, "What comes back": the smallest place is given
  pub first_found : (n p : ℕ) → first test n ≡ Some p → FirstAt test n p
  unfolding first
  first_found zero p e = found_never e refl
  first_found (suc n) p e = go (first test n) (test n) refl refl e (first_found n p)
    where
      later : FirstAt test n p → FirstAt test (suc n) p
      later s = record { below = omega (arith, s.below); holds = s.holds; not_before = s.not_before }

      go : (f : Option ℕ) (b : Bool) → first test n ≡ f → test n ≡ b → or_at f b n ≡ Some p → (first test n ≡ Some p → FirstAt test n p) → FirstAt test (suc n) p
      go (Some q) b f t x ih = later (ih (f ∙ x))
      go None true f t x ih = let s : n ≡ p = found_one refl x in record { below = omega arith; holds = rw s at t; not_before = λ q l. first_none test n f q (omega arith) }
      go None false f t x ih = found_never x refl

  pub none_first : (n : ℕ) → Nowhere test n → first test n ≡ None
  none_first zero h = first_start test
  none_first (suc n) h = rw add-one at (first_passed test n (none_first n (record { fails = λ q l. h.fails q (omega arith) })) (h.fails n (omega arith)))

  -- the other way round: no other place is the smallest
  pub found_first : (n p : ℕ) → FirstAt test n p → first test n ≡ Some p
  found_first n p s = first_stopped test p n (none_first p (record { fails = s.not_before })) s.holds s.below

  pub first_nowhere : (n : ℕ) → first test n ≡ None → Nowhere test n
  first_nowhere n e = record { fails = first_none test n e }
