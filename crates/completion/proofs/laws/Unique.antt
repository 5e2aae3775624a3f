-- The completion loop has one result (02, L10: rows and vertices follow its own order).
use mathlib.Core.Path.{◌≡◌, sym, subst, ◌∙◌}
use mathlib.Core.List.{List}
use Prim.Native.Nat.{ℕ}
use Rattle.intake.proofs.laws.First.{found_never, found_one}
use Rattle.run.specs.Skeleton.{Skeleton}
use Rattle.completion.specs.Completion.{split_one, Completes, complete, onward, Completed}

pub loop_unique : {S A B : Skeleton} → Completes S A → Completes S B → A ≡ B
loop_unique (complete k e) (complete k' e') = e ∙ sym e'
loop_unique (complete k e) (onward k' q) = found_never k' k
loop_unique (onward k p) (complete k' e') = found_never k k'
loop_unique {S} {B = B} (onward k p) (onward k' q) = loop_unique p (subst (λ (x : ℕ). Completes (split_one S x) B) (sym (found_one k k')) q)

pub completed_unique : {S A B : Skeleton} {rs : List ℕ} → Completed S rs A → Completed S rs B → A ≡ B
completed_unique p q = loop_unique p.loop q.loop
