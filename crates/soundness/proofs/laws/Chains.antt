-- A walk along the places of one key in an index, which stops at the first that is met.
use mathlib.Core.Path.{◌≡◌, ◌∙◌, ap}
use mathlib.Core.List.{List}
use Prim.Native.Nat.{ℕ, ◌+◌, ◌-◌, ◌≤◌, ◌<◌}
use native.Mathlib.Decide.{dec_lt, ℕ_discrete}
use native.Mathlib.Omega.{arith}
use lib.ListN.{get_or}
use Rattle.chain.specs.Chain.{latest, Indexed}
use Rattle.chain.proofs.laws.Index.{next_link}
use Rattle.chain.proofs.laws.Walk.{latest_between, latest_below, latest_some}

-- a walk that is at i: the places of k from there on, below m, are behind it, and P holds of none
pub record Walked (key : ℕ → ℕ) (P : ℕ → Type 0) (m k i : ℕ) : Type 0 where
  pub below : i ≤ m
  pub here : 0 < i → key (i - 1) ≡ k
  pub behind : (s : ℕ) → i ≤ s → s < m → key s ≡ k → P s → ⊥

module _ {key : ℕ → ℕ} {P : ℕ → Type 0} {m k : ℕ} where
  -- what is left of the walk are the places of k below j
  walked_to : (j i : ℕ) → j ≤ m → i ≡ latest key k j → ((s : ℕ) → j ≤ s → s < m → key s ≡ k → P s → ⊥) → Walked key P m k i
  walked_to j i h e behind = record { below = omega (arith, latest_below key k j); here = λ l. (latest_some key k j (i - 1) (omega arith)).1; behind = λ s l b g. go s l b g (dec_lt s j) }
    where
      go : (s : ℕ) → i ≤ s → s < m → key s ≡ k → Dec (s < j) → P s → ⊥
      go s l b g (yes u) = absurd (latest_between key k j s (omega arith) u g)
      go s l b g (no u) = behind s (omega arith) b g

  -- from the head of k
  pub walked_head : {i j base : ℕ} {scratch : List ℕ} → Indexed key m base scratch → k < base → j ≡ k → i ≡ get_or scratch j 0 → Walked key P m k i
  walked_head {i} {scratch = scratch} x h q e = walked_to m i (omega arith) (e ∙ ap (λ (j : ℕ). get_or scratch j 0) q ∙ x.heads k h) (λ s l b g. absurd (omega arith))

  module _ {base : ℕ} {scratch : List ℕ} (x : Indexed key m base scratch) {i next : ℕ} (w : Walked key P m k i) (more : 0 < i) (e : next ≡ get_or scratch (base + (i - 1)) 0) where
    link : next ≡ latest key k (i - 1)
    link = e ∙ next_link x (omega (arith, w.below)) (w.here more)

    pub walked_less : next < i
    walked_less = omega (arith, link, latest_below key k (i - 1))

    pub walked_on : (P (i - 1) → ⊥) → Walked key P m k next
    walked_on d = walked_to (i - 1) next (omega (arith, w.below)) link (λ s l b g. go s l b g (ℕ_discrete s (i - 1)))
      where
        go : (s : ℕ) → i - 1 ≤ s → s < m → key s ≡ k → Dec (s ≡ i - 1) → P s → ⊥
        go s l b g (yes q) = rw q d
        go s l b g (no q) = w.behind s (omega arith) b g
