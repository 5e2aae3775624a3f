-- There is one way to stand four vertices in the order of their colours, so the row of an element does not depend on the order of its numbers either.
use mathlib.Core.Path.{◌≡◌, refl, sym, ap, ◌∙◌}
use mathlib.Core.Bool.{true}
use Prim.Native.Nat.{ℕ, ◌≤◌, ◌<◌}
use native.Mathlib.Omega.{arith}
use Rattle.split.specs.Split.{three, number, Corners, corners, at, Holds}
use Rattle.split.specs.Row.{root}
use Rattle.split.proofs.laws.Places.{Against, less, equal, more, against}
use Rattle.forest.specs.Start.{arranged}
use Rattle.intake.specs.Cells.{Cells}
use Rattle.intake.specs.Causes.{vertex, has}
use Rattle.opening.specs.Order.{sorted, given, root_of}
use Rattle.opening.proofs.laws.Colours.{has_place, has_some}
use Rattle.opening.proofs.laws.Sorted.{sorted_of, sorted_has, sorted_climbs}
use Rattle.sound.proofs.laws.Searches.{each_of_four}
use Rattle.sound.proofs.laws.Reordered.{Reordered, Single}

-- the colours rise strictly over the four places
pub record Climbs (f : ℕ → ℕ) (w : Corners ℕ) : Type 0 where
  pub first : f w.v0 < f w.v1
  pub second : f w.v1 < f w.v2
  pub third : f w.v2 < f w.v3

module _ {f : ℕ → ℕ} {w : Corners ℕ} (c : Climbs f w) where
  climbs_far : (p q : ℕ) → p < 4 → q < 4 → p < q → f (at w p) < f (at w q)
  climbs_far p q h k =
      each_of_four (λ p. p < q → f (at w p) < f (at w q))
      (to 0 (omega arith))
      (to 1 (omega arith))
      (to 2 (omega arith))
      (to 3 (omega arith))
      p h
    where
      to : (p : ℕ) → (p < 0 → f (at w p) < f w.v0) × (p < 1 → f (at w p) < f w.v1) × (p < 2 → f (at w p) < f w.v2) × (p < 3 → f (at w p) < f w.v3) → p < q → f (at w p) < f (at w q)
      to p (a, b, d, e) = each_of_four (λ q. p < q → f (at w p) < f (at w q)) a b d e q k

  -- so a smaller colour stands at a smaller place, and no two places have one colour
  climbs_back : (p q : ℕ) → p < 4 → q < 4 → f (at w p) < f (at w q) → p < q
  climbs_back p q h k l = go (against p q)
    where
      go : Against p q → p < q
      go (less b) = b
      go (equal e) = absurd (omega (arith, ap (λ (p : ℕ). f (at w p)) e))
      go (more b) = absurd (omega (arith, climbs_far q p k h b))

  pub climbs_apart : (p q : ℕ) → p < 4 → q < 4 → f (at w p) ≡ f (at w q) → p ≡ q
  climbs_apart p q h k l = go (against p q)
    where
      go : Against p q → p ≡ q
      go (less b) = absurd (omega (arith, climbs_far p q h k b))
      go (equal e) = e
      go (more b) = absurd (omega (arith, climbs_far q p k h b))

-- the places at which w has the vertices of u rise from 0 to 3, so each is its own
climbs_once : {f : ℕ → ℕ} {u w : Corners ℕ} → Climbs f u → Climbs f w → ((x : ℕ) → Holds 3 u x → Holds 3 w x) → u ≡ w
climbs_once {f} {u} {w} c d h = go (in_w 0 (omega arith)) (in_w 1 (omega arith)) (in_w 2 (omega arith)) (in_w 3 (omega arith))
  where
    in_w : (p : ℕ) → p ≤ 3 → Holds 3 w (at u p)
    in_w p l = h (at u p) (record { place = p; inside = l; is = refl })

    rise : {x y : ℕ} (i : Holds 3 w x) (j : Holds 3 w y) → f x < f y → i.place < j.place
    rise i j l = climbs_back d i.place j.place (omega arith) (omega arith) (rw (i.is, j.is) l)

    own : (p : ℕ) (i : Holds 3 w (at u p)) → i.place ≡ p → at u p ≡ at w p
    own p i e = sym i.is ∙ ap (at w) e

    go : Holds 3 w u.v0 → Holds 3 w u.v1 → Holds 3 w u.v2 → Holds 3 w u.v3 → u ≡ w
    go i j k l =
        let a = rise i j c.first in
        let b = rise j k c.second in
        let e = rise k l c.third in
        λ t. corners (own 0 i (omega arith) t) (own 1 j (omega arith) t) (own 2 k (omega arith) t) (own 3 l (omega arith) t)

-- ---- the corners of an element

module _ (E : Cells) (k : ℕ) where
  pub corner_at : (q : ℕ) → q < 4 → at (given E k) q ≡ vertex E k q
  corner_at = each_of_four (λ q. at (given E k) q ≡ vertex E k q) refl refl refl refl

  pub holds_has : (v : ℕ) → Holds 3 (given E k) v → has E k v ≡ true
  holds_has v h = let e : vertex E k h.place ≡ v = sym (corner_at h.place (omega arith)) ∙ h.is in rw e at (has_place E k h.place (omega arith))

  pub has_holds : (v : ℕ) → has E k v ≡ true → Holds 3 (given E k) v
  has_holds v h = let (q, l, e) = has_some E k v h in record { place = q; inside = omega arith; is = corner_at q l ∙ e }

-- the colours of each element's vertices differ
pub record Proper (f : ℕ → ℕ) (E : Cells) : Type 0 where
  pub differ : (k p q : ℕ) → k < E.count → p < 4 → q < 4 → f (vertex E k p) ≡ f (vertex E k q) → p ≡ q

module _ {f : ℕ → ℕ} {E : Cells} (d : Proper f E) where
  pub proper_single : Single E
  proper_single = record { apart = λ k p q h l m e. d.differ k p q h l m (ap f e) }

  pub proper_corners : (k : ℕ) → k < E.count → (p q : ℕ) → p ≤ 3 → q ≤ 3 → f (at (given E k) p) ≡ f (at (given E k) q) → p ≡ q
  proper_corners k h p q l m e = d.differ k p q h (omega arith) (omega arith) (ap f (sym (corner_at E k p (omega arith))) ∙ e ∙ ap f (corner_at E k q (omega arith)))

  pub sorted_climb : (k : ℕ) → k < E.count → Climbs f (sorted f (given E k))
  sorted_climb k h = let (a, b, c) = sorted_climbs f (given E k) (proper_corners k h) in record { first = a; second = b; third = c }

pub root_reordered : {E E' : Cells} {f : ℕ → ℕ} → Reordered E E' → Proper f E → Proper f E' → (N k : ℕ) → k < E.count → root_of N f E k ≡ root_of N f E' k
unfolding root_of
root_reordered {E} {E'} {f} r d d' N k h = ap (λ (w : Corners ℕ). root (number three) k (arranged three N f w)) (climbs_once (sorted_climb d k h) (sorted_climb d' k (rw (← r.long) h)) kept)
  where
    kept : (x : ℕ) → Holds 3 (sorted f (given E k)) x → Holds 3 (sorted f (given E' k)) x
    kept x s = sorted_has f (given E' k) x (has_holds E' k x (sym (r.same k x h) ∙ holds_has E k x (sorted_of f (given E k) x s)))
