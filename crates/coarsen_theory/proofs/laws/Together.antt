-- What stays stays together: a kept row's parent and, where it stays split, its children; a midpoint that stays, its parents and a row split at it.
use mathlib.Core.Path.{◌≡◌, refl, sym, ap, ◌∙◌}
use mathlib.Core.Bool.{Bool, true, false, true≢false}
use mathlib.Core.Logic.{inl, inr}
use Prim.Native.Nat.{ℕ, zero, suc, ◌≤◌, ◌<◌}
use native.Mathlib.Omega.{arith}
use borrow.Author.Tests.{not-true}
use Rattle.split.specs.Split.{Side, left, Corners, number, at, Holds}
use Rattle.split.specs.Row.{corners_of, tag_of, edge_of, pair}
use Rattle.split.proofs.laws.Children.{at_new}
use Rattle.tables.specs.Mesh.{Mesh}
use Rattle.sound.specs.Sound.{vertices, rows, record_of, row_of, place, Grown}
use Rattle.sound.specs.Follows.{split_vertex}
use Rattle.sound.proofs.laws.Afresh.{root_below}
use Rattle.sound.proofs.laws.Searches.{and_both}
use Rattle.sound.proofs.laws.Halves.{edge_held, half, half_corners, one_middle, held_from, parent_there, child_split, child_from}
use Rattle.coarsen_theory.specs.Free.{LeafNow, childless, merged, Free}
use Rattle.coarsen_theory.specs.Thinned.{stays, keeps}

-- ---- a row is kept exactly if nothing that it holds is gone

pub stay_by : (b : Bool) → (b ≡ true → ⊥) → b ≡ false
stay_by true h = absurd (h refl)
stay_by false h = refl

module _ (gone : ℕ → Bool) where
  pub stays_says : (v : ℕ) → stays gone v ≡ true → gone v ≡ false
  unfolding stays
  stays_says v e = not-true (gone v) e

  pub says_stays : (v : ℕ) → gone v ≡ false → stays gone v ≡ true
  unfolding stays
  says_stays v e = rw e

module _ (m : Mesh) (gone : ℕ → Bool) (r : ℕ) where
  kept_at : keeps m gone r ≡ true → (p : ℕ) → p ≤ 3 → gone (at (corners_of (row_of m r)) p) ≡ false
  unfolding keeps
  kept_at k =
      let (a, x) = and_both _ _ k in
      let (b, y) = and_both _ _ x in
      let (c, d) = and_both _ _ y in
      by (stays_says gone _ a) (stays_says gone _ b) (stays_says gone _ c) (stays_says gone _ d)
    where
      by : gone (row_of m r).v0 ≡ false → gone (row_of m r).v1 ≡ false → gone (row_of m r).v2 ≡ false → gone (row_of m r).v3 ≡ false → (p : ℕ) → p ≤ 3 → gone (at (corners_of (row_of m r)) p) ≡ false
      by a b c d zero h = a
      by a b c d (suc zero) h = b
      by a b c d (suc (suc zero)) h = c
      by a b c d (suc (suc (suc p))) h = d

  pub kept_holds : keeps m gone r ≡ true → {x : ℕ} → Holds 3 (corners_of (row_of m r)) x → gone x ≡ false
  kept_holds k h = sym (ap gone h.is) ∙ kept_at k h.place h.inside

  pub holds_kept : ((x : ℕ) → Holds 3 (corners_of (row_of m r)) x → gone x ≡ false) → keeps m gone r ≡ true
  unfolding keeps
  holds_kept h =
      rw (
        says_stays gone (row_of m r).v0 (h (row_of m r).v0 (record { place = 0; inside = omega arith; is = refl })),
        says_stays gone (row_of m r).v1 (h (row_of m r).v1 (record { place = 1; inside = omega arith; is = refl })),
        says_stays gone (row_of m r).v2 (h (row_of m r).v2 (record { place = 2; inside = omega arith; is = refl })),
      )
      (says_stays gone (row_of m r).v3 (h (row_of m r).v3 (record { place = 3; inside = omega arith; is = refl })))

-- a kept row split at the vertex w
pub record Stands (m : Mesh) (gone : ℕ → Bool) (w : ℕ) : Type 0 where
  pub row : ℕ
  pub there : row < rows m
  pub split : (row_of m row).child ≡ 0 → ⊥
  pub edge : pair (record_of m w).first (record_of m w).second ≡ edge_of (row_of m row)
  pub is : split_vertex m row ≡ w
  pub kept : keeps m gone row ≡ true

module _ {m : Mesh} {i t : ℕ} (g : Grown m i t) {gone : ℕ → Bool} (f : Free m i gone) where
  -- a row split at a vertex that stays is no leaf now
  pub still_split : (q : ℕ) → ((row_of m q).child ≡ 0 → ⊥) → gone (split_vertex m q) ≡ false → LeafNow m gone q → ⊥
  still_split q s e (childless x) = s x
  still_split q s e (merged d x) = true≢false (sym x ∙ e)

  -- and it is kept
  pub split_kept : (q : ℕ) → q < rows m → ((row_of m q).child ≡ 0 → ⊥) → gone (split_vertex m q) ≡ false → keeps m gone q ≡ true
  split_kept q l s e = holds_kept m gone q (λ x h. stay_by (gone x) (λ z. still_split q s e (f.leaf q x l h z)))

  -- (a) a kept row's parent is split at a vertex that stays, and is kept
  module _ (r : ℕ) (k : t ≤ r) (l : r < rows m) (h : keeps m gone r ≡ true) where
    pub parent_stays : gone (split_vertex m (row_of m r).parent) ≡ false
    parent_stays = kept_holds m gone r h (child_split g r k l)

    pub parent_kept : keeps m gone (row_of m r).parent ≡ true
    parent_kept = split_kept (row_of m r).parent (parent_there g r k l) (g.child r k l).split parent_stays

  -- (b) both children of a row split at a vertex that stays are kept
  pub children_kept : (q : ℕ) → q < rows m → ((row_of m q).child ≡ 0 → ⊥) → gone (split_vertex m q) ≡ false → (s : Side) → keeps m gone (place s (row_of m q).child) ≡ true
  children_kept q l d e s = holds_kept m gone (place s (row_of m q).child) (λ x h. elim (held_from g q l d s h) [ inl z ↦ ap gone z ∙ e | inr z ↦ kept_holds m gone q (split_kept q l d e) z ])

  -- (c) a midpoint that stays has a kept row split at it, and its parents stay
  pub midpoint_row : (w : ℕ) → i ≤ w → w < vertices m → gone w ≡ false → Stands m gone w
  midpoint_row w k l e =
      let p = g.midpoint w k l in
      let is = one_middle g (split_vertex m p.row) w (half g p.row p.there p.split left).records (record { midpoint = k; there = l; ends = p.edge }) in
      record { row = p.row; there = p.there; split = p.split; edge = p.edge; is = is; kept = split_kept p.row p.there p.split (ap gone is ∙ e) }

  pub parents_stay : (w : ℕ) → i ≤ w → w < vertices m → gone w ≡ false → (gone (record_of m w).first ≡ false) × (gone (record_of m w).second ≡ false)
  parents_stay w k l e =
      let s = midpoint_row w k l e in
      let (a, b) = edge_held (row_of m s.row) _ _ s.edge in
      (kept_holds m gone s.row s.kept a, kept_holds m gone s.row s.kept b)

  -- (d) roots are kept, and of the others those whose parent is split at a vertex that stays
  pub initial_stays : (v : ℕ) → v < i → gone v ≡ false
  initial_stays v h = stay_by (gone v) (λ z. omega (arith, f.midpoint v z))

  pub root_kept : (r : ℕ) → r < t → keeps m gone r ≡ true
  root_kept r h = holds_kept m gone r (λ x w. initial_stays x (omega (arith, root_below g r h w.place w.inside, w.is)))

  pub child_keeps : (r : ℕ) → t ≤ r → r < rows m → keeps m gone r ≡ stays gone (split_vertex m (row_of m r).parent)
  child_keeps r k l = go (keeps m gone r) (stays gone (split_vertex m (row_of m r).parent)) refl refl
    where
      go : (a b : Bool) → keeps m gone r ≡ a → stays gone (split_vertex m (row_of m r).parent) ≡ b → keeps m gone r ≡ stays gone (split_vertex m (row_of m r).parent)
      go true true x y = x ∙ sym y
      go true false x y = absurd (true≢false (sym (says_stays gone _ (parent_stays r k l x)) ∙ y))
      go false true x y =
          let e = stays_says gone _ y in
          holds_kept m gone r (λ z h. elim (child_from g r k l h) [ inl u ↦ ap gone u ∙ e | inr u ↦ kept_holds m gone (row_of m r).parent (split_kept (row_of m r).parent (parent_there g r k l) (g.child r k l).split e) u ])
          ∙ sym y
      go false false x y = x ∙ sym y

-- the vertex that a child's parent is split at stands in the child at the parent's tag
pub child_at : {m : Mesh} {i t : ℕ} (g : Grown m i t) (r : ℕ) → t ≤ r → r < rows m → at (corners_of (row_of m r)) (number (tag_of (row_of m (row_of m r).parent))) ≡ split_vertex m (row_of m r).parent
child_at {m} g r k l =
    let c = g.child r k l in
    let q = (row_of m r).parent in
    ap (λ (x : ℕ). at (corners_of (row_of m x)) (number (tag_of (row_of m q)))) c.here
    ∙ ap (λ (x : Corners ℕ). at x (number (tag_of (row_of m q)))) (half_corners (half g q (parent_there g r k l) c.split c.side))
    ∙ at_new (corners_of (row_of m q)) (split_vertex m q) c.side (tag_of (row_of m q))
