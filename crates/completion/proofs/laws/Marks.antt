-- The marks one by one (02, L10; 01, "Closure").
use mathlib.Core.Path.{◌≡◌, refl}
use mathlib.Core.List.{List, [], ◌∷◌, ◌++◌}
use Prim.Native.Nat.{ℕ}
use native.Mathlib.Decide.{ℕ_discrete}
use borrow.Author.Tests.{eq-eqb, ne_eqb}
use Rattle.run.specs.Skeleton.{Skeleton, row_in}
use Rattle.completion.specs.Completion.{split_one, split_marks}

module _ (S : Skeleton) (r : ℕ) (rs : List ℕ) where
  -- a leaf is split
  pub marks_leaf : (row_in S.rows r).child ≡ 0 → split_marks S (r ∷ rs) ≡ split_marks (split_one S r) rs
  unfolding split_marks
  marks_leaf l = rw (eq-eqb _ _ l, split_marks)

  -- another row is passed over
  pub marks_passed : ((row_in S.rows r).child ≡ 0 → ⊥) → split_marks S (r ∷ rs) ≡ split_marks S rs
  unfolding split_marks
  marks_passed n = rw (ne_eqb _ _ n, split_marks)

-- what holds of no marks, and by each mark of one more, holds of all
pub marks_through : (Q : Skeleton → List ℕ → Skeleton → Type 0) → ((S : Skeleton) → Q S [] S)
    → ((S : Skeleton) (r : ℕ) (rs : List ℕ) → (row_in S.rows r).child ≡ 0 → Q (split_one S r) rs (split_marks (split_one S r) rs) → Q S (r ∷ rs) (split_marks (split_one S r) rs))
    → ((S : Skeleton) (r : ℕ) (rs : List ℕ) → ((row_in S.rows r).child ≡ 0 → ⊥) → Q S rs (split_marks S rs) → Q S (r ∷ rs) (split_marks S rs)) → (S : Skeleton) (rs : List ℕ) → Q S rs (split_marks S rs)
unfolding split_marks
marks_through Q done leaf passed S [] = done S
marks_through Q done leaf passed S (r ∷ rs) = elim (ℕ_discrete (row_in S.rows r).child 0) [
  | yes l ↦ rw marks_leaf (leaf S r rs l (marks_through Q done leaf passed (split_one S r) rs))
  | no n ↦ rw marks_passed (passed S r rs n (marks_through Q done leaf passed S rs))
]

-- the first marks, and then the others
pub marks_append : (S : Skeleton) (a b : List ℕ) → split_marks S (a ++ b) ≡ split_marks (split_marks S a) b
marks_append S a b = marks_through (λ S a T. split_marks S (a ++ b) ≡ split_marks T b) (λ S. refl) (λ S r rs l h. rw marks_leaf h) (λ S r rs n h. rw marks_passed h) S a
