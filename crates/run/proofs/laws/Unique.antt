-- A run has one result (01, "Closure": the order is fixed).
use Rattle.std.proofs.Common.{None, Some}
use mathlib.Core.Path.{◌≡◌, sym, subst, ◌∙◌}
use mathlib.Core.List.{List, [], ◌∷◌}
use Prim.Native.Nat.{ℕ}
use Rattle.intake.proofs.laws.First.{found_never, found_one}
use Rattle.run.specs.Skeleton.{Skeleton, row_in}
use Rattle.run.specs.Run.{blocking, split_patch, Run, clear, blocked, RunAll, done, passed, refined}

-- every run from S on r leads to A
record Alone (S : Skeleton) (r : ℕ) (A : Skeleton) : Type 0 where
  only : (B : Skeleton) → Run S r B → A ≡ B

clear_alone : {S A : Skeleton} {r : ℕ} → blocking S.rows r ≡ None → A ≡ split_patch S r → Alone S r A
clear_alone {S} {A} {r} k e = record { only = λ B. go }
  where
    go : {B : Skeleton} → Run S r B → A ≡ B
    go (clear k' e') = e ∙ sym e'
    go (blocked k' p q) = found_never k' k

blocked_alone : {S T A : Skeleton} {r b : ℕ} → blocking S.rows r ≡ Some b → Alone S b T → Alone T r A → Alone S r A
blocked_alone {S} {T} {A} {r} {b} k f g = record { only = λ B. go }
  where
    go : {B : Skeleton} → Run S r B → A ≡ B
    go (clear k' e') = found_never k k'
    go {B} (blocked {T = T'} k' p q) = g.only B (subst (λ (x : Skeleton). Run x r B) (sym (f.only T' (subst (λ (x : ℕ). Run S x T') (sym (found_one k k')) p))) q)

alone : {S A : Skeleton} {r : ℕ} → Run S r A → Alone S r A
alone (clear k e) = clear_alone k e
alone (blocked k p q) = blocked_alone k (alone p) (alone q)

pub run_unique : {S A B : Skeleton} {r : ℕ} → Run S r A → Run S r B → A ≡ B
run_unique {B = B} p q = (alone p).only B q

-- ---- all marks

record AllAlone (S : Skeleton) (rs : List ℕ) (A : Skeleton) : Type 0 where
  only : (B : Skeleton) → RunAll S rs B → A ≡ B

done_alone : {S A : Skeleton} → A ≡ S → AllAlone S [] A
done_alone {S} {A} e = record { only = λ B. go }
  where
    go : {B : Skeleton} → RunAll S [] B → A ≡ B
    go (done e') = e ∙ sym e'

passed_alone : {S A : Skeleton} {r : ℕ} {rs : List ℕ} → ((row_in S.rows r).child ≡ 0 → ⊥) → AllAlone S rs A → AllAlone S (r ∷ rs) A
passed_alone {S} {A} {r} {rs} n f = record { only = λ B. go }
  where
    go : {B : Skeleton} → RunAll S (r ∷ rs) B → A ≡ B
    go {B} (passed n' p) = f.only B p
    go (refined l p q) = absurd (n l)

refined_alone : {S T A : Skeleton} {r : ℕ} {rs : List ℕ} → (row_in S.rows r).child ≡ 0 → Run S r T → AllAlone T rs A → AllAlone S (r ∷ rs) A
refined_alone {S} {T} {A} {r} {rs} l p f = record { only = λ B. go }
  where
    go : {B : Skeleton} → RunAll S (r ∷ rs) B → A ≡ B
    go (passed n q) = absurd (n l)
    go {B} (refined l' p' q) = f.only B (subst (λ (x : Skeleton). RunAll x rs B) (run_unique p' p) q)

all_alone : {S A : Skeleton} {rs : List ℕ} → RunAll S rs A → AllAlone S rs A
all_alone (done e) = done_alone e
all_alone (passed n p) = passed_alone n (all_alone p)
all_alone (refined l p q) = refined_alone l p (all_alone q)

pub run_all_unique : {S A B : Skeleton} {rs : List ℕ} → RunAll S rs A → RunAll S rs B → A ≡ B
run_all_unique {B = B} p q = (all_alone p).only B q
