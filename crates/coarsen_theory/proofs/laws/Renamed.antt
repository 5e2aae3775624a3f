-- A row renamed: its vertices, its edge, which a renumbering that keeps their order keeps, and its children.
use mathlib.Core.Path.{◌≡◌, sym, ap, ◌∙◌}
use mathlib.Core.Logic.{inl, inr}
use Prim.Native.Nat.{ℕ, ◌≤◌}
use native.Mathlib.Omega.{arith}
use Rattle.split.specs.declared.row.Row.{Row}
use Rattle.split.specs.declared.row.Ends.{Ends}
use Rattle.split.specs.Split.{Side, at, far}
use Rattle.split.specs.Row.{corners_of, tag_of, edge_of, pair, ends, child_of}
use Rattle.split.proofs.laws.Places.{le_or_lt}
use Rattle.split.proofs.laws.Named.{named_at, named_far, remade_child}
use Rattle.split.proofs.laws.Ends.{ends_rising, ends_falling}
use Rattle.coarsen_theory.specs.Thinned.{renamed}

ends_mapped : (f : ℕ → ℕ) → ((a b : ℕ) → a ≤ b → f a ≤ f b) → (a b : ℕ) → ends (f a) (f b) ≡ pair (f (ends a b).small) (f (ends a b).large)
ends_mapped f up a b = elim (le_or_lt a b) [
  | inl h ↦ ends_rising (up a b h) ∙ ap (λ (e : Ends). pair (f e.small) (f e.large)) (sym (ends_rising h))
  | inr h ↦ ends_falling (up b a (omega arith)) ∙ ap (λ (e : Ends). pair (f e.small) (f e.large)) (sym (ends_falling {a = a} {b = b} (omega arith)))
]

module _ (f : ℕ → ℕ) (parent child : ℕ) (r : Row) where
  -- the vertex at a place
  pub renamed_at : (p : ℕ) → at (corners_of (renamed f parent child r)) p ≡ f (at (corners_of r) p)
  renamed_at p = named_at f (corners_of r) p

  -- the edge
  pub renamed_edge : ((a b : ℕ) → a ≤ b → f a ≤ f b) → edge_of (renamed f parent child r) ≡ pair (f (edge_of r).small) (f (edge_of r).large)
  unfolding edge_of
  renamed_edge up = ap (λ (x : ℕ). ends (f r.v0) x) (named_far f (tag_of r) (corners_of r)) ∙ ends_mapped f up r.v0 (far (tag_of r) (corners_of r))

  -- the children
  pub renamed_child : (s : Side) (own own' v : ℕ) → child_of s (renamed f parent child r) own' (f v) ≡ renamed f own' 0 (child_of s r own v)
  renamed_child s own own' v = remade_child f parent child r s own own' v
