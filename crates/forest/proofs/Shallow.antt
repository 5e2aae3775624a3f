-- The elements of depth below n k are a closed set (000, Theorem 7(c)).
-- No element of depth n k or more holds both ends of an edge that one of smaller depth halves: its vertices v1 to vn have level k + 1 or more and both ends at most level k.
use mathlib.Core.Path.{◌≡◌, sym, ap, ◌∙◌}
use mathlib.Core.Logic.{◌⊎◌, inl, inr}
use mathlib.Core.List.{List, [], ◌∷◌}
use Prim.Native.Nat.{ℕ, zero, suc, ◌*◌, ◌≤◌, ◌<◌, zero-le}
use native.Mathlib.Nat.{le_refl}
use native.Mathlib.Omega.{arith}
use lib.ListN.{length}
use Rattle.split.specs.Split.{number, at, Side, Holds}
use Rattle.split.proofs.laws.Places.{le_or_lt}
use Rattle.split.proofs.laws.Tags.{tag_range}
use Rattle.forest.specs.Element.{Name, Forest, dimension, Element, el, Shape, near, away, shape_at, HoldsEdge}
use Rattle.forest.specs.Generation.{gen}
use Rattle.forest.specs.Invariant.{Fits}
use Rattle.forest.specs.Closed.{Present, Closed}
use Rattle.forest.specs.Shallow.{root_of, DepthBelow, Shallow}
use Rattle.forest.proofs.First.{level_low, level_least}
use Rattle.forest.proofs.Blocking.{tip, ends_differ, level_within, level_beyond}

-- what is of depth below a number is so below every greater one
pub below_more : {F : Forest} {c d : ℕ} → c ≤ d → (e : Element) → DepthBelow F c e → DepthBelow F d e
below_more h e m = record { root = m.root; shallow = omega (arith, m.shallow) }

module _ {N n d : ℕ} {colour : ℕ → ℕ} {x : Shape} (f : Fits N colour n d x) where
  near_level : (gen N colour (near x)).level ≤ f.level
  near_level = level_low (tag_range x.tag).0 f.tagged f.row 0 zero-le

  away_level : (gen N colour (away x)).level ≤ f.level
  away_level = rw (← tip x) (level_low (tag_range x.tag).0 f.tagged f.row (number x.tag) (le_refl (number x.tag)))

  -- a vertex of smaller level can only be v0
  only_near : {v : Name} → Holds n x.corners v → (gen N colour v).level < f.level → near x ≡ v
  only_near {v} h l = go h.place h.inside h.is
    where
      go : (p : ℕ) → p ≤ n → at x.corners p ≡ v → near x ≡ v
      go zero k e = e
      go (suc p) k e = absurd (omega (arith, level_least (tag_range x.tag).0 f.tagged f.row (suc p) (omega arith) k, ap (λ (w : Name). (gen N colour w).level) e))

pub too_deep : {N n d e : ℕ} {colour : ℕ → ℕ} {x y : Shape} (k : ℕ) → Fits N colour n d x → Fits N colour n e y → n * k ≤ d → e < n * k
    → Holds n x.corners (near y) → Holds n x.corners (away y) → ⊥
too_deep k f h deep less a b =
    let high = level_beyond f k deep in
    let low = level_within h k less in
    ends_differ h (sym (only_near f a (omega (arith, near_level h))) ∙ only_near f b (omega (arith, away_level h)))

module _ (F : Forest) (N : ℕ) (colour : ℕ → ℕ) (fits : (k : ℕ) → k < F.count → (p : List Side) → Fits N colour (dimension F) (length p) (shape_at F k p)) where
  present_root : (k : ℕ) (t : Element) → Present F (Shallow F k) t → root_of t < F.count
  present_root k (el j []) h = h
  present_root k (el j (s ∷ p)) h = h.root

  edges : (k : ℕ) (t u : Element) → root_of t < F.count → Shallow F k u → HoldsEdge F t u → Shallow F k t
  edges k (el i p) (el j q) valid m h = go (le_or_lt (dimension F * k) (length p))
    where
      go : (dimension F * k ≤ length p) ⊎ (length p < dimension F * k) → Shallow F k (el i p)
      go (inl l) = absurd (too_deep k (fits i valid p) (fits j m.root q) l m.shallow h.near h.away)
      go (inr l) = record { root = valid; shallow = l }

  pub shallow_closed : (k : ℕ) → Closed F (Shallow F k)
  shallow_closed k =
      record { parents = λ j s p m. record { root = m.root; shallow = omega (arith, m.shallow) }; edges = λ t u p m h. edges k t u (present_root k t p) m h }
