-- A walk along the links that counts: what it keeps true, from the first place to the last.
use mathlib.Core.Path.{◌≡◌, refl, ◌∙◌, ap}
use mathlib.Core.Bool.{Bool, ◌&&◌, cond}
use Prim.Native.Nat.{ℕ, zero, suc, ◌+◌, ◌-◌, ◌≤◌, ◌<◌}
use native.Mathlib.Decide.{ℕ_discrete}
use native.Mathlib.Nat.{add-zero}
use native.Mathlib.Omega.{arith}
use borrow.Author.Tests.{eq-eqb, ne_eqb}
use lib.Dec.{eqb}
use Rattle.chain.specs.Chain.{latest}
use Rattle.chain.proofs.laws.Walk.{latest_hit, latest_miss, latest_below, latest_some}
use Rattle.intake.specs.Search.{count}
use Rattle.opening.proofs.laws.Counting.{count_below}

-- how many places below n have the key v and pass the test
unfoldable pub visits : (ℕ → ℕ) → ℕ → (ℕ → Bool) → ℕ → ℕ
visits key v test n = count (λ i. eqb (key i) v && test i) n

-- a walk down from `top` that counted n and goes on at `at`
pub record Walking (key : ℕ → ℕ) (v : ℕ) (test : ℕ → Bool) (top n at : ℕ) : Type 0 where
  pub below : at ≤ top
  pub here : latest key v at ≡ at
  pub left : n + visits key v test at ≡ visits key v test top

-- nothing is to be seen between n and the last place below it
abbrev Again : (ℕ → ℕ) → ℕ → (ℕ → Bool) → ℕ → Type 0
Again key v test n = (latest key v (latest key v n) ≡ latest key v n) × (visits key v test (latest key v n) ≡ visits key v test n)

module _ (key : ℕ → ℕ) (v : ℕ) (test : ℕ → Bool) where
  pub visits_below : (n : ℕ) → visits key v test n ≤ n
  unfolding visits
  visits_below n = count_below _ n

  -- one place more: it has the key, or it has not
  visits_hit : (i : ℕ) → key i ≡ v → visits key v test (suc i) ≡ visits key v test i + cond (test i) 1 0
  unfolding visits count
  visits_hit i e = rw (eq-eqb (key i) v e)

  visits_miss : (i : ℕ) → (key i ≡ v → ⊥) → visits key v test (suc i) ≡ visits key v test i
  unfolding visits count
  visits_miss i d = rw (ne_eqb (key i) v d, add-zero)

  latest_again : (n : ℕ) → Again key v test n
  unfolding latest
  latest_again zero = (refl, refl)
  latest_again (suc n) = go (latest_again n) (ℕ_discrete (key n) v)
    where
      go : Again key v test n → Dec (key n ≡ v) → Again key v test (suc n)
      go h (yes e) = rw (latest_hit key v n e) (latest_hit key v n e, refl)
      go h (no d) = rw (latest_miss key v n d, visits_miss n d) h

  -- from the last place below `top`, on along the links, to the end
  pub walk_start : (top : ℕ) → Walking key v test top 0 (latest key v top)
  walk_start top = record { below = latest_below key v top; here = (latest_again top).0; left = omega (arith, (latest_again top).1) }

  module _ {top n at : ℕ} (w : Walking key v test top n at) where
    pub walk_key : 0 < at → key (at - 1) ≡ v
    walk_key h = (latest_some key v at (at - 1) (w.here ∙ omega arith)).1

    pub walk_next : 0 < at → Walking key v test top (n + cond (test (at - 1)) 1 0) (latest key v (at - 1))
    walk_next h =
        let e : at ≡ suc (at - 1) = omega arith in
        record {
          below = omega (arith, latest_below key v (at - 1));
          here = (latest_again (at - 1)).0;
          left = omega (arith, ap (visits key v test) e, visits_hit (at - 1) (walk_key h), (latest_again (at - 1)).1);
        }

    pub walk_end : at ≡ 0 → n ≡ visits key v test top
    walk_end e = omega (arith, visits_below at)
