-- What the function with a bound on its steps computes is what the second engine leads to (02, L10).
use Rattle.std.proofs.Common.{None, Option, Some}
use mathlib.Core.Path.{◌≡◌, refl}
use mathlib.Core.List.{List}
use Prim.Native.Nat.{ℕ, zero, suc}
use native.Mathlib.Omega.{arith}
use Rattle.run.specs.Skeleton.{Skeleton}
use Rattle.run.proofs.laws.Compute.{same_result}
use Rattle.completion.specs.Completion.{lowest, split_one, split_marks, Completes, complete, onward, Completed}
use Rattle.completion.specs.Compute.{looped}

pub looped_completes : (n : ℕ) (S S' : Skeleton) → looped n S ≡ Some S' → Completes S S'
unfolding looped
looped_completes zero S S' e = let z : ◌≡◌ {A = ℕ} 0 1 = cc in absurd (omega arith)
looped_completes (suc n) S S' e = go (lowest S) refl e (looped_completes n)
  where
    go : (f : Option ℕ) → lowest S ≡ f → elim f [ None ↦ Some S | Some q ↦ looped n (split_one S q) ] ≡ Some S' → ((A B : Skeleton) → looped n A ≡ Some B → Completes A B) → Completes S S'
    go None k h deeper = complete k (same_result h)
    go (Some q) k h deeper = onward k (deeper (split_one S q) S' h)

pub computed_completed : (n : ℕ) (S S' : Skeleton) (rs : List ℕ) → looped n (split_marks S rs) ≡ Some S' → Completed S rs S'
computed_completed n S S' rs e = record { loop = looped_completes n (split_marks S rs) S' e }
