-- How a place of a child is filled: by its position relative to the tag (000, Algorithm 1).
use mathlib.Core.Path.{◌≡◌, refl, ap, ◌∙◌}
use mathlib.Core.Bool.{Bool, true, false, cond}
use Prim.Native.Nat.{ℕ, zero, suc, ◌≤◌, ◌<◌}
use native.Mathlib.Omega.{arith}
use borrow.Author.Tests.{lt-ltb, le-ltb, eq-eqb, ne_eqb}
use lib.Dec.{eqb, ltb}
use Rattle.split.specs.Split.{Corners, corners, at, placewise, by_tag}

module _ {A : Type 0} {p g : ℕ} (low new high : A) where
  pub below_tag : p < g → by_tag p g low new high ≡ low
  below_tag h = rw (lt-ltb p g h)

  pub at_tag : p ≡ g → by_tag p g low new high ≡ new
  at_tag e = rw (le-ltb p g (omega arith), eq-eqb p g e)

  pub above_tag : g ≤ p → (p ≡ g → ⊥) → by_tag p g low new high ≡ high
  above_tag h d = rw (le-ltb p g h, ne_eqb p g d)

pub placewise_at : {A : Type 0} (f : ℕ → A) (p : ℕ) → p ≤ 3 → at (placewise f) p ≡ f p
placewise_at f zero h = refl
placewise_at f (suc zero) h = refl
placewise_at f (suc (suc zero)) h = refl
placewise_at f (suc (suc (suc zero))) h = refl
placewise_at f (suc (suc (suc (suc p)))) h = absurd (omega arith)

-- vertices that agree at each place are the same
pub same_places : {A : Type 0} (c d : Corners A) → ((p : ℕ) → p ≤ 3 → at c p ≡ at d p) → c ≡ d
same_places c d e =
    let p0 = e 0 (omega arith) in
    let p1 = e 1 (omega arith) in
    let p2 = e 2 (omega arith) in
    let p3 = e 3 (omega arith) in
    λ i. corners (p0 i) (p1 i) (p2 i) (p3 i)

named_either : {A B : Type 0} (f : A → B) (b : Bool) (x y : A) → cond b (f x) (f y) ≡ f (cond b x y)
named_either f true x y = refl
named_either f false x y = refl

-- the position does not see how vertices are named
pub named_place : {A B : Type 0} (f : A → B) (p g : ℕ) (low new high : A) → by_tag p g (f low) (f new) (f high) ≡ f (by_tag p g low new high)
named_place f p g low new high = ap (cond (ltb p g) (f low)) (named_either f (eqb p g) new high) ∙ named_either f (ltb p g) low (cond (eqb p g) new high)
