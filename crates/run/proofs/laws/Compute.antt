-- What the function with a bound on its steps computes is what closure leads to.
use Rattle.std.proofs.Common.{None, Option, Some}
use mathlib.Core.Path.{◌≡◌, refl}
use mathlib.Core.Bool.{Bool, true, false}
use mathlib.Core.List.{List, [], ◌∷◌}
use Prim.Native.Nat.{ℕ, zero, suc}
use native.Mathlib.Omega.{arith}
use borrow.Author.Tests.{eqb-true, eqb-false}
use lib.Dec.{eqb}
use Rattle.run.specs.Skeleton.{Skeleton, row_in}
use Rattle.run.specs.Run.{blocking, split_patch, Run, clear, blocked, RunAll, done, passed, refined, Calls, ended, called}
use Rattle.run.specs.Compute.{and_then, refine, refine_all, refine_calls}

-- where there is a result, there was one to go on from
record Went (o : Option Skeleton) (next : Skeleton → Option Skeleton) (S' : Skeleton) : Type 0 where
  between : Skeleton
  first : o ≡ Some between
  second : next between ≡ Some S'

went : (o : Option Skeleton) (next : Skeleton → Option Skeleton) (S' : Skeleton) → and_then o next ≡ Some S' → Went o next S'
went None next S' e = let z : ◌≡◌ {A = ℕ} 0 1 = cc in absurd (omega arith)
went (Some T) next S' e = record { between = T; first = refl; second = e }

pub same_result : {A B : Skeleton} → Some A ≡ Some B → B ≡ A
same_result e = cc

pub refine_runs : (n : ℕ) (S S' : Skeleton) (r : ℕ) → refine n S r ≡ Some S' → Run S r S'
unfolding refine
refine_runs zero S S' r e = let z : ◌≡◌ {A = ℕ} 0 1 = cc in absurd (omega arith)
refine_runs (suc n) S S' r e = go (blocking S.rows r) refl e (refine_runs n)
  where
    go : (f : Option ℕ) → blocking S.rows r ≡ f → elim f [ None ↦ Some (split_patch S r) | Some b ↦ and_then (refine n S b) (λ T. refine n T r) ] ≡ Some S' → ((A B : Skeleton) (q : ℕ) → refine n A q ≡ Some B → Run A q B) → Run S r S'
    go None k h deeper = clear k (same_result h)
    go (Some b) k h deeper = let w = went (refine n S b) (λ T. refine n T r) S' h in blocked k (deeper S w.between b w.first) (deeper w.between S' r w.second)

pub refine_all_runs : (n : ℕ) (S S' : Skeleton) (rs : List ℕ) → refine_all n S rs ≡ Some S' → RunAll S rs S'
unfolding refine_all
refine_all_runs n S S' [] e = done (same_result e)
refine_all_runs n S S' (r ∷ rs) e = go (eqb (row_in S.rows r).child 0) refl e (λ A. refine_all_runs n A S' rs)
  where
    go : (b : Bool) → eqb (row_in S.rows r).child 0 ≡ b → elim b [ true ↦ and_then (refine n S r) (λ T. refine_all n T rs) | false ↦ refine_all n S rs ] ≡ Some S' → ((A : Skeleton) → refine_all n A rs ≡ Some S' → RunAll A rs S') → RunAll S (r ∷ rs) S'
    go true k h rest = let w = went (refine n S r) (λ T. refine_all n T rs) S' h in refined (eqb-true _ _ k) (refine_runs n S w.between r w.first) (rest w.between w.second)
    go false k h rest = passed (eqb-false _ _ k) (rest S h)

-- and the same of calls
pub refine_calls_runs : (n : ℕ) (S S' : Skeleton) (calls : List (List ℕ)) → refine_calls n S calls ≡ Some S' → Calls S calls S'
unfolding refine_calls
refine_calls_runs n S S' [] e = ended (same_result e)
refine_calls_runs n S S' (rs ∷ calls) e = let w = went (refine_all n S rs) (λ T. refine_calls n T calls) S' e in called (refine_all_runs n S w.between rs w.first) (refine_calls_runs n w.between S' calls w.second)
