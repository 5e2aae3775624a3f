-- Corner slots against elements: four slots are an element, and it holds a vertex in at most one of them.
use mathlib.Core.Path.{◌≡◌, refl, sym, ◌∙◌}
use mathlib.Core.Bool.{Bool, true, ◌&&◌, cond, or_assoc}
use Prim.Native.Nat.{ℕ, zero, suc, ◌+◌, ◌*◌, ◌/◌, ◌%◌, ◌≤◌, ◌<◌}
use native.Mathlib.Nat.{mul-suc}
use native.Mathlib.Omega.{arith}
use borrow.Author.Tests.{eqb-true}
use lib.Dec.{eqb}
use Rattle.intake.specs.Cells.{Cells}
use Rattle.intake.specs.Search.{any, count}
use Rattle.intake.specs.Causes.{vertex, has}
use Rattle.opening.specs.Scratch.{slot, Plain}
use Rattle.opening.proofs.laws.Counting.{count_same, count_add, count_once}
use Rattle.opening.proofs.laws.Walking.{visits}

-- an element holds what one of its four places has
has_any : (E : Cells) (k v : ℕ) → any (λ q. eqb (vertex E k q) v) 4 ≡ has E k v
unfolding any has
has_any E k v = simp or_assoc

module _ {vertices : ℕ} {E : Cells} (x : Plain vertices E) (P : ℕ → Bool) where
  -- the four slots of element k
  element_visits : (v k : ℕ) → k < E.count → visits (slot E) v (λ i. P (i / 4)) (4 * suc k) ≡ visits (slot E) v (λ i. P (i / 4)) (4 * k) + cond (has E k v && P k) 1 0
  unfolding visits
  element_visits v k h =
      rw (mul-suc, count_add, in_it, count_once (λ q. eqb (vertex E k q) v) (P k) 4 once, has_any E k v)
    where
      in_it : count (λ q. eqb (slot E (4 * k + q)) v && P ((4 * k + q) / 4)) 4 ≡ count (λ q. eqb (vertex E k q) v && P k) 4
      in_it = count_same _ _ 4 (λ q l. let j : (4 * k + q) / 4 ≡ k = omega arith in let p : (4 * k + q) % 4 ≡ q = omega arith in rw (j, p))

      once : (p q : ℕ) → p < 4 → q < 4 → eqb (vertex E k p) v ≡ true → eqb (vertex E k q) v ≡ true → p ≡ q
      once p q l m s t = x.apart k p q h l m (eqb-true _ v s ∙ sym (eqb-true _ v t))

  -- what a walk along the slots of v before element k counts
  pub elements_visits : (v k : ℕ) → k ≤ E.count → visits (slot E) v (λ i. P (i / 4)) (4 * k) ≡ count (λ j. has E j v && P j) k
  unfolding count visits
  elements_visits v zero h = refl
  elements_visits v (suc k) h = element_visits v k h ∙ rw (elements_visits v k (omega arith))
