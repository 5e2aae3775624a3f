-- In a row with the invariant the refinement edge {v0, vg} has the smallest generation of all edges, and no two vertices have the same one.
use mathlib.Core.Path.{◌≡◌, refl, sym, ap, ◌∙◌}
use mathlib.Core.Logic.{◌⊎◌, inl, inr}
use Prim.Native.Nat.{ℕ, zero, suc, ◌+◌, ◌*◌, ◌≤◌, ◌<◌}
use native.Mathlib.Nat.{le_refl, eq-or-lt_of_le}
use native.Mathlib.Omega.{arith}
use Rattle.split.proofs.laws.Places.{le_or_lt, less, equal, more, against}
use Rattle.forest.specs.Generation.{Gen, rank, join}
use Rattle.forest.specs.Invariant.{Front, even, older, Invariant}
use Rattle.forest.proofs.Join.{Even, Older, join_even, join_older}

-- a comes before b as v0 does before v at the tag: of equal levels it has the greater type, otherwise the smaller level
pub data Oriented (a b : Gen) : Type 0 where
  same : a.level ≡ b.level → b.type < a.type → Oriented a b
  lower : a.level < b.level → Oriented a b

pub oriented_once : {a b : Gen} → Oriented a b → Oriented b a → ⊥
oriented_once (same e h) (same f k) = omega arith
oriented_once (same e h) (lower k) = omega arith
oriented_once (lower h) (same f k) = omega arith
oriented_once (lower h) (lower k) = omega arith

-- what is known of the refinement edge of a row of level L
pub record Edge (N L : ℕ) (e : Gen) : Type 0 where
  pub level : e.level ≡ suc L
  pub least : 1 ≤ e.type
  pub most : e.type ≤ N

module _ {N n g L : ℕ} {γ : ℕ → Gen} (one : 1 ≤ g) (inside : g ≤ n) (r : Invariant N n g L γ) where
  -- ---- levels and types by place

  falling : (p q : ℕ) → 1 ≤ p → p ≤ q → q ≤ g → (γ q).type ≤ (γ p).type
  falling p q h l k = elim (eq-or-lt_of_le l) [ inl e ↦ rw e (le_refl (γ q).type) | inr m ↦ omega (arith, r.falls_low p q h m k) ]

  -- v0 to vg have level at most L
  pub level_low : (p : ℕ) → p ≤ g → (γ p).level ≤ L
  level_low zero h = front r.front
    where
      front : Front N n g L γ → (γ 0).level ≤ L
      front (even e d b) = omega arith
      front (older e b) = omega arith
  level_low (suc p) h = omega (arith, r.low (suc p) (omega arith) h)

  -- v1 to vn have at least level L, and none a level over L + 1
  pub level_least : (p : ℕ) → 1 ≤ p → p ≤ n → L ≤ (γ p).level
  level_least p h k = elim (le_or_lt p g) [ inl m ↦ omega (arith, r.low p h m) | inr m ↦ omega (arith, r.high p m k) ]

  pub level_most : (p : ℕ) → p ≤ n → (γ p).level ≤ suc L
  level_most p k = elim (le_or_lt p g) [ inl m ↦ omega (arith, level_low p m) | inr m ↦ omega (arith, r.high p m k) ]

  -- an edge by the places of its ends: v0 and another, two among v1 to vg, or one past vg
  even_edge : (γ 0).level ≡ L → (γ 1).type < (γ 0).type → (q : ℕ) → 1 ≤ q → q ≤ g → Even N (γ 0) (γ q) (join N (γ 0) (γ q))
  even_edge e d q h k = join_even N (γ 0) (γ q) (e ∙ sym (r.low q h k)) (omega (arith, falling 1 q (omega arith) h k)) (r.most 0 (omega arith))

  older_edge : (γ 0).level < L → (q : ℕ) → 1 ≤ q → q ≤ g → Older (γ q) (join N (γ 0) (γ q))
  older_edge e q h k = join_older N (γ 0) (γ q) (omega (arith, r.low q h k))

  low_edge : (p q : ℕ) → 1 ≤ p → p < q → q ≤ g → Even N (γ p) (γ q) (join N (γ p) (γ q))
  low_edge p q h l k =
      join_even N (γ p) (γ q) (r.low p h (omega arith) ∙ sym (r.low q (omega arith) k)) (falling p q h (omega arith) k) (r.most p (omega arith))

  high_edge : (p q : ℕ) → p < q → g < q → q ≤ n → (join N (γ p) (γ q)).level ≡ suc (suc L)
  high_edge p q l h k = elim (le_or_lt p g) [ inl m ↦ before m | inr m ↦ after m ]
    where
      before : p ≤ g → (join N (γ p) (γ q)).level ≡ suc (suc L)
      before m = omega (arith, join_older N (γ p) (γ q) (omega (arith, level_low p m, r.high q h k)), r.high q h k)

      after : g < p → (join N (γ p) (γ q)).level ≡ suc (suc L)
      after m =
          omega (arith, r.high p m (omega arith), join_even N (γ p) (γ q) (r.high p m (omega arith) ∙ sym (r.high q h k)) (omega (arith, r.falls_high p q m l k)) (r.most p (omega arith)))

  -- ---- the refinement edge

  pub edge_level : Edge N L (join N (γ 0) (γ g))
  edge_level = front r.front
    where
      front : Front N n g L γ → Edge N L (join N (γ 0) (γ g))
      front (even e d b) = omega (arith, even_edge e d g one (le_refl g), falling 1 g (le_refl 1) one (le_refl g), r.most 0 (omega arith))
      front (older e b) = omega (arith, older_edge e g one (le_refl g), r.low g one (le_refl g), r.least g inside, r.most g inside)

  pub edge_bound : N ≤ 63 → rank (join N (γ 0) (γ g)) < 64 * (L + 2)
  edge_bound small = omega (arith, edge_level)

  -- it comes strictly before every other edge (000, Lemma 18): one past vg has a greater level, and among v0 to vg the types decide
  pub edge_first : N ≤ 63 → (p q : ℕ) → p < q → q ≤ n → (p ≡ 0 → q ≡ g → ⊥) → rank (join N (γ 0) (γ g)) < rank (join N (γ p) (γ q))
  edge_first small p q l k o = elim (le_or_lt q g) [ inl h ↦ inner p l h o r.front | inr h ↦ omega (arith, edge_level, high_edge p q l h k) ]
    where
      inner : (p : ℕ) → p < q → q ≤ g → (p ≡ 0 → q ≡ g → ⊥) → Front N n g L γ → rank (join N (γ 0) (γ g)) < rank (join N (γ p) (γ q))
      inner zero l h o (even e d b) =
          let m : q < g = omega (arith, o refl) in
          omega (arith, even_edge e d g one (le_refl g), even_edge e d q l h, r.falls_low q g l m (le_refl g))
      inner zero l h o (older e b) =
          let m : q < g = omega (arith, o refl) in
          omega (arith, older_edge e g one (le_refl g), older_edge e q l h, r.low g one (le_refl g), r.low q l h, r.falls_low q g l m (le_refl g))
      inner (suc p) l h o (even e d b) =
          omega
          (arith, even_edge e d g one (le_refl g), low_edge (suc p) q (omega arith) l h, r.low (suc p) (omega arith) (omega arith), falling 1 (suc p) (le_refl 1) (omega arith) (omega arith), falling q g (omega arith) h (le_refl g))
      inner (suc p) l h o (older e b) =
          omega
          (arith, older_edge e g one (le_refl g), low_edge (suc p) q (omega arith) l h, r.low g one (le_refl g), r.low (suc p) (omega arith) (omega arith), r.most (suc p) (omega arith), falling q g (omega arith) h (le_refl g))

  -- ---- the vertices

  -- no two have the same generation
  pub ends_apart : (p q : ℕ) → p ≤ n → q ≤ n → γ p ≡ γ q → p ≡ q
  ends_apart p q h k e = elim (against p q) [ less l ↦ absurd (apart p q l k e) | equal i ↦ i | more l ↦ absurd (apart q p l h (sym e)) ]
    where
      inner : (p q : ℕ) → p < q → q ≤ g → γ p ≡ γ q → Front N n g L γ → ⊥
      inner zero q l h e (even i d b) = omega (arith, falling 1 q (le_refl 1) l h, ap (λ (a : Gen). a.type) e)
      inner zero q l h e (older i b) = omega (arith, r.low q l h, ap (λ (a : Gen). a.level) e)
      inner (suc p) q l h e f = omega (arith, r.falls_low (suc p) q (omega arith) l h, ap (λ (a : Gen). a.type) e)

      outer : (p q : ℕ) → p < q → g < q → q ≤ n → γ p ≡ γ q → (p ≤ g) ⊎ (g < p) → ⊥
      outer p q l h k e (inl m) = omega (arith, level_low p m, r.high q h k, ap (λ (a : Gen). a.level) e)
      outer p q l h k e (inr m) = omega (arith, r.falls_high p q m l k, ap (λ (a : Gen). a.type) e)

      apart : (p q : ℕ) → p < q → q ≤ n → γ p ≡ γ q → ⊥
      apart p q l k e = elim (le_or_lt q g) [ inl h ↦ inner p q l h e r.front | inr h ↦ outer p q l h k e (le_or_lt p g) ]

  pub oriented : Oriented (γ 0) (γ g)
  oriented = front r.front
    where
      front : Front N n g L γ → Oriented (γ 0) (γ g)
      front (even e d b) = same (e ∙ sym (r.low g one (le_refl g))) (omega (arith, falling 1 g (le_refl 1) one (le_refl g)))
      front (older e b) = lower (omega (arith, r.low g one (le_refl g)))
