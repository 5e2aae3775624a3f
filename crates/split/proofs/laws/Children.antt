-- What callers use of the split in place of its text, over any kind of vertex name and any dimension n: the vertex at each place of a child, and a child as a set of vertices.
-- The first child is the parent without v at the tag and with the midpoint m, the second the parent without v0 and with m.
use mathlib.Core.Path.{◌≡◌, refl, sym, ap, ◌∙◌}
use mathlib.Core.Logic.{◌⊎◌, inl, inr}
use Prim.Native.Nat.{ℕ, zero, suc, ◌≤◌, ◌<◌}
use native.Mathlib.Nat.{le_of_lt}
use native.Mathlib.Omega.{arith}
use Rattle.split.specs.Split.{Tag, one, two, three, number, Corners, at, placewise, far, by_tag, first, second, Side, left, right, child, lacked, Holds, Distinct}
use Rattle.split.proofs.laws.Tags.{tag_range}
use Rattle.split.proofs.laws.Places.{Against, less, equal, more, against, le_or_lt}
use Rattle.split.proofs.laws.ByTag.{below_tag, at_tag, above_tag, placewise_at}

-- where the vertex at a place below the tag comes from
abbrev pub source : Side → ℕ → ℕ
source left p = p
source right p = suc p

pub far_at : {A : Type 0} (c : Corners A) (g : Tag) → at c (number g) ≡ far g c
far_at c one = refl
far_at c two = refl
far_at c three = refl

module _ {A : Type 0} (c : Corners A) (m : A) where
  -- ---- place by place

  -- both children at once, by the place that a vertex below the tag comes from
  pub child_places : (s : Side) (g : Tag) → child s g c m ≡ placewise (λ p. by_tag p (number g) (at c (source s p)) m (at c p))
  unfolding first second
  child_places left g = refl
  child_places right g = refl

  pub at_place : (s : Side) (g : Tag) (p : ℕ) → p ≤ 3 → at (child s g c m) p ≡ by_tag p (number g) (at c (source s p)) m (at c p)
  at_place s g p h = rw (child_places s g) (placewise_at (λ q. by_tag q (number g) (at c (source s q)) m (at c q)) p h)

  pub at_new : (s : Side) (g : Tag) → at (child s g c m) (number g) ≡ m
  at_new s g = at_place s g (number g) (tag_range g).1 ∙ at_tag {p = number g} {g = number g} _ _ _ refl

  pub at_low : (s : Side) (g : Tag) (p : ℕ) → p < number g → at (child s g c m) p ≡ at c (source s p)
  at_low s g p h = at_place s g p (omega (arith, tag_range g)) ∙ below_tag _ _ _ h

  pub at_high : (s : Side) (g : Tag) (p : ℕ) → number g < p → p ≤ 3 → at (child s g c m) p ≡ at c p
  at_high s g p h l = at_place s g p l ∙ above_tag _ _ _ (le_of_lt h) (λ e. omega arith)

-- ---- as sets of vertices

-- x is a vertex of the parent at a place that this child does not lack
pub record Kept {A : Type 0} (n : ℕ) (c : Corners A) (s : Side) (g : Tag) (x : A) : Type 0 where
  pub place : ℕ
  pub inside : place ≤ n
  pub other : place ≡ lacked s g → ⊥
  pub is : at c place ≡ x

source_le : (s : Side) (g : Tag) (p : ℕ) → p < number g → source s p ≤ number g
source_le left g p h = le_of_lt h
source_le right g p h = h

source_other : (s : Side) (g : Tag) (p : ℕ) → p < number g → source s p ≡ lacked s g → ⊥
source_other left g p h e = omega arith
source_other right g p h e = omega arith

lacked_le : (s : Side) (g : Tag) → lacked s g ≤ number g
lacked_le left g = omega arith
lacked_le right g = omega arith

-- where the vertex at the parent's place q stands in the child
data Landing (s : Side) (g : Tag) (q : ℕ) : Type 0 where
  moved : (p : ℕ) → p < number g → source s p ≡ q → Landing s g q
  stays : number g < q → Landing s g q

landing : (s : Side) (g : Tag) (q : ℕ) → (q ≡ lacked s g → ⊥) → Landing s g q
landing left g q o = elim (against q (number g)) [ less l ↦ moved q l refl | equal e ↦ absurd (o e) | more l ↦ stays l ]
landing right g zero o = absurd (o refl)
landing right g (suc p) o = elim (le_or_lt (suc p) (number g)) [ inl l ↦ moved p l refl | inr l ↦ stays l ]

module _ {A : Type 0} (n : ℕ) (c : Corners A) (m : A) (s : Side) (g : Tag) (low : number g ≤ n) (high : n ≤ 3) where
  pub new_held : Holds n (child s g c m) m
  new_held = record { place = number g; inside = low; is = at_new c m s g }

  pub parts : {x : A} → Holds n (child s g c m) x → (x ≡ m) ⊎ Kept n c s g x
  parts {x} h = go (against h.place (number g))
    where
      go : Against h.place (number g) → (x ≡ m) ⊎ Kept n c s g x
      go (less l) = inr (record { place = source s h.place; inside = omega (arith, source_le s g h.place l); other = source_other s g h.place l; is = sym (at_low c m s g h.place l) ∙ h.is })
      go (equal e) = inl (sym h.is ∙ ap (at (child s g c m)) e ∙ at_new c m s g)
      go (more l) = inr (record { place = h.place; inside = h.inside; other = λ e. omega (arith, lacked_le s g); is = sym (at_high c m s g h.place l (omega arith)) ∙ h.is })

  pub kept : (q : ℕ) → q ≤ n → (q ≡ lacked s g → ⊥) → Holds n (child s g c m) (at c q)
  kept q h o = go (landing s g q o)
    where
      go : Landing s g q → Holds n (child s g c m) (at c q)
      go (moved p l e) = record { place = p; inside = omega arith; is = at_low c m s g p l ∙ ap (at c) e }
      go (stays l) = record { place = q; inside = h; is = at_high c m s g q l (omega arith) }

  pub lacks : Distinct n c → (m ≡ at c (lacked s g) → ⊥) → Holds n (child s g c m) (at c (lacked s g)) → ⊥
  lacks d fresh h = elim (parts h) [ inl e ↦ fresh (sym e) | inr k ↦ k.other (d.apart k.place (lacked s g) k.inside (omega (arith, lacked_le s g)) k.is) ]

-- neither child holds both ends of the edge
pub not_both : {A : Type 0} (n : ℕ) (c : Corners A) (m : A) (s : Side) (g : Tag) → number g ≤ n → n ≤ 3 → Distinct n c → (Holds n c m → ⊥)
    → Holds n (child s g c m) (at c 0) → Holds n (child s g c m) (far g c) → ⊥
not_both n c m left g low high d fresh a b =
    lacks n c m left g low high d (λ e. fresh (record { place = number g; inside = low; is = sym e })) (rw (far_at c g) b)
not_both n c m right g low high d fresh a b = lacks n c m right g low high d (λ e. fresh (record { place = 0; inside = omega arith; is = sym e })) a

-- every vertex of a child is the parent's or the midpoint
pub from_parent : {A : Type 0} (n : ℕ) (c : Corners A) (m : A) (s : Side) (g : Tag) → number g ≤ n → n ≤ 3 → {x : A} → Holds n (child s g c m) x → (x ≡ m) ⊎ Holds n c x
from_parent n c m s g low high h = elim (parts n c m s g low high h) [ inl e ↦ inl e | inr k ↦ inr (record { place = k.place; inside = k.inside; is = k.is }) ]
