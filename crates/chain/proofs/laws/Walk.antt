-- The walk from a head along the links visits exactly the places of the key, in falling order: where it stands has the key, and nothing that it passes over.
use mathlib.Core.Path.{◌≡◌, refl, sym, ◌∙◌}
use Prim.Native.Nat.{ℕ, zero, suc, ◌≤◌, ◌<◌}
use native.Mathlib.Decide.{ℕ_discrete}
use native.Mathlib.Omega.{arith}
use borrow.Author.Tests.{eq-eqb, ne_eqb}
use Rattle.chain.specs.Chain.{latest}

module _ (key : ℕ → ℕ) (v : ℕ) where
  -- one place more: it has the key, or it has not
  pub latest_hit : (i : ℕ) → key i ≡ v → latest key v (suc i) ≡ suc i
  unfolding latest
  latest_hit i e = rw (eq-eqb (key i) v e)

  pub latest_miss : (i : ℕ) → (key i ≡ v → ⊥) → latest key v (suc i) ≡ latest key v i
  unfolding latest
  latest_miss i d = rw (ne_eqb (key i) v d)

  pub latest_below : (n : ℕ) → latest key v n ≤ n
  unfolding latest
  latest_below zero = omega arith
  latest_below (suc n) = go (latest_below n) (ℕ_discrete (key n) v)
    where
      go : latest key v n ≤ n → Dec (key n ≡ v) → latest key v (suc n) ≤ suc n
      go h (yes e) = omega (arith, latest_hit n e)
      go h (no d) = omega (arith, latest_miss n d)

  -- a walk that is at i + 1 is at place i, which has the key
  pub latest_some : (n i : ℕ) → latest key v n ≡ suc i → (i < n) × (key i ≡ v)
  latest_some zero i s = absurd (omega (arith, latest_below 0))
  latest_some (suc n) i s = go (latest_some n i) (ℕ_discrete (key n) v)
    where
      go : (latest key v n ≡ suc i → (i < n) × (key i ≡ v)) → Dec (key n ≡ v) → (i < suc n) × (key i ≡ v)
      go f (yes e) = let q : n ≡ i = omega (arith, latest_hit n e) in (omega arith, rw q at e)
      go f (no d) = let t : (i < n) × (key i ≡ v) = f (sym (latest_miss n d) ∙ s) in (omega arith, t.1)

-- between n and the last place before it with the key there is none; where the walk is at 0, none is left
pub latest_between : (key : ℕ → ℕ) (v n i : ℕ) → latest key v n ≤ i → i < n → key i ≡ v → ⊥
latest_between key v zero i l h e = omega arith
latest_between key v (suc n) i l h e = go (ℕ_discrete (key n) v) (ℕ_discrete i n) (latest_between key v n i)
  where
    go : Dec (key n ≡ v) → Dec (i ≡ n) → (latest key v n ≤ i → i < n → key i ≡ v → ⊥) → ⊥
    go (yes k) q f = omega (arith, latest_hit key v n k)
    go (no k) (yes q) f = k (rw q at e)
    go (no k) (no q) f = f (omega (arith, latest_miss key v n k)) (omega arith) e

-- only the keys below n matter
module _ (key key' : ℕ → ℕ) (v : ℕ) where
  pub latest_same : (n : ℕ) → ((i : ℕ) → i < n → key i ≡ key' i) → latest key v n ≡ latest key' v n
  unfolding latest
  latest_same zero s = refl
  latest_same (suc n) s = rw (s n (omega arith), latest_same n (λ i h. s i (omega arith)))
