-- A root's row holds the vertices of its element, and their colours differ from place to place.
use mathlib.Core.Path.{◌≡◌, refl, sym, ap, ◌∙◌}
use mathlib.Core.Bool.{Bool, true, false, cond}
use Prim.Native.Nat.{ℕ, zero, suc, ◌≤◌, ◌<◌}
use native.Mathlib.Omega.{arith}
use lib.Dec.{eqb}
use Rattle.split.specs.Split.{three, Corners, at, Holds}
use Rattle.forest.specs.Start.{arranged, moved}
use Rattle.sound.proofs.laws.Searches.{each_of_four}
use Rattle.sound.proofs.laws.Ordered.{Climbs, climbs_apart}

-- c holds the vertices of w, one colour at one place
pub record Rearranged (f : ℕ → ℕ) (w c : Corners ℕ) : Type 0 where
  pub of : (x : ℕ) → Holds 3 c x → Holds 3 w x
  pub has : (x : ℕ) → Holds 3 w x → Holds 3 c x
  pub apart : (p q : ℕ) → p < 4 → q < 4 → f (at c p) ≡ f (at c q) → p ≡ q

-- the place from which the vertex at p was moved
abbrev turned : ℕ → ℕ
turned zero = 3
turned (suc p) = p

turned_apart : (p q : ℕ) → p < 4 → q < 4 → turned p ≡ turned q → p ≡ q
turned_apart zero zero h k e = refl
turned_apart zero (suc q) h k e = absurd (omega arith)
turned_apart (suc p) zero h k e = absurd (omega arith)
turned_apart (suc p) (suc q) h k e = ap suc e

turned_below : (p : ℕ) → p < 4 → turned p < 4
turned_below zero h = omega arith
turned_below (suc p) h = omega arith

module _ {f : ℕ → ℕ} {w : Corners ℕ} (c : Climbs f w) where
  turned_at : (p : ℕ) → p < 4 → at (moved three w) p ≡ at w (turned p)
  turned_at = each_of_four (λ p. at (moved three w) p ≡ at w (turned p)) refl refl refl refl

  rearranged_moved : Rearranged f w (moved three w)
  rearranged_moved = record {
    of = λ x h. record { place = turned h.place; inside = omega (arith, turned_below h.place (omega arith)); is = sym (turned_at h.place (omega arith)) ∙ h.is };
    has = λ x h. each_of_four (λ p. at w p ≡ x → Holds 3 (moved three w) x) (from 1 (omega arith)) (from 2 (omega arith)) (from 3 (omega arith)) (from 0 (omega arith)) h.place (omega arith) h.is;
    apart = λ p q h k e. turned_apart p q h k (climbs_apart c (turned p) (turned q) (turned_below p h) (turned_below q k) (ap f (sym (turned_at p h)) ∙ e ∙ ap f (turned_at q k)));
  }
    where
      from : {x : ℕ} (p : ℕ) → p ≤ 3 → at (moved three w) p ≡ x → Holds 3 (moved three w) x
      from p h e = record { place = p; inside = h; is = e }

  pub rearranged : (N : ℕ) → Rearranged f w (arranged three N f w)
  unfolding arranged
  rearranged N = go (eqb (f w.v3) N)
    where
      go : (b : Bool) → Rearranged f w (cond b (moved three w) w)
      go true = rearranged_moved
      go false = record { of = λ x h. h; has = λ x h. h; apart = climbs_apart c }
