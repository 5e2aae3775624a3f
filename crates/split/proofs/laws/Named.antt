-- An element by other names: what f makes of its vertices, place by place. The split does not see how vertices are named.
use mathlib.Core.Path.{◌≡◌, refl, sym, ap, ◌∙◌}
use Prim.Native.Nat.{ℕ, zero, suc, ◌≤◌}
use Rattle.split.specs.declared.row.Row.{Row}
use Rattle.split.specs.Split.{Tag, number, Corners, at, placewise, far, Side, child}
use Rattle.split.specs.Row.{corners_of, tag_of, below, remade, child_of}
use Rattle.split.proofs.laws.ByTag.{same_places, named_place}
use Rattle.split.proofs.laws.Children.{source, far_at, at_place}
use Rattle.split.proofs.laws.Rows.{child_below}

module _ {A B : Type 0} (f : A → B) where
  pub named_at : (c : Corners A) (p : ℕ) → at (placewise (λ q. f (at c q))) p ≡ f (at c p)
  named_at c zero = refl
  named_at c (suc zero) = refl
  named_at c (suc (suc zero)) = refl
  named_at c (suc (suc (suc p))) = refl

  pub named_far : (g : Tag) (c : Corners A) → far g (placewise (λ q. f (at c q))) ≡ f (far g c)
  named_far g c = sym (far_at (placewise (λ q. f (at c q))) g) ∙ named_at c (number g) ∙ ap f (far_at c g)

  pub named_child : (s : Side) (g : Tag) (c : Corners A) (m : A) → child s g (placewise (λ q. f (at c q))) (f m) ≡ placewise (λ q. f (at (child s g c m) q))
  named_child s g c m = same_places _ _ at_each
    where
      at_each : (p : ℕ) → p ≤ 3 → at (child s g (placewise (λ q. f (at c q))) (f m)) p ≡ at (placewise (λ q. f (at (child s g c m) q))) p
      at_each p h =
          at_place (placewise (λ q. f (at c q))) (f m) s g p h
          ∙ rw (named_at c (source s p), named_at c p, named_at (child s g c m) p, at_place c m s g p h) (named_place f p (number g) (at c (source s p)) m (at c p))

-- the children of a row that is remade by other names
pub remade_child : (f : ℕ → ℕ) (parent child : ℕ) (r : Row) (s : Side) (own own' m : ℕ)
    → child_of s (remade r (placewise (λ q. f (at (corners_of r) q))) parent child) own' (f m) ≡ remade (child_of s r own m) (placewise (λ q. f (at (corners_of (child_of s r own m)) q))) own' 0
unfolding below
remade_child f parent child r s own own' m =
    rw (child_below s (remade r (placewise (λ q. f (at (corners_of r) q))) parent child) own' (f m), child_below s r own m, named_child f s (tag_of r) (corners_of r) m)
