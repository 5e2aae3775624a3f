-- The test on the old tables with a set of vertices gone says what it says of the thinned mesh with nothing gone: each vertex is judged on the mesh as those before it left it (02, L5).
use mathlib.Core.Path.{◌≡◌, refl, sym, ap, ◌∙◌}
use mathlib.Core.Bool.{Bool, true, false}
use mathlib.Core.Logic.{inl, inr}
use Prim.Native.Nat.{ℕ, ◌<◌}
use native.Mathlib.Decide.{ℕ_discrete}
use native.Mathlib.Omega.{arith}
use borrow.Author.Tests.{eqb-true, eqb-false, eq-eqb, ne_eqb, not-true, le-leb, lt-leb}
use lib.Dec.{eqb, leb}
use Rattle.split.specs.Split.{Tag, Side, left, right, number, far}
use Rattle.split.specs.Row.{corners_of, tag_of}
use Rattle.split.proofs.laws.Places.{le_or_lt}
use Rattle.split.proofs.laws.Children.{far_at}
use Rattle.tables.specs.Mesh.{Mesh}
use Rattle.intake.specs.Search.{any}
use Rattle.intake.proofs.laws.Search.{any_has, any_some}
use Rattle.sound.specs.Sound.{vertices, rows, row_of, place, Grown}
use Rattle.sound.specs.Follows.{split_vertex}
use Rattle.sound.proofs.laws.Offspring.{place_below}
use Rattle.sound.proofs.laws.Searches.{and_both, agree}
use Rattle.coarsen_theory.specs.Dropping.{leaf_now, blocks, droppable, none}
use Rattle.coarsen_theory.specs.Free.{LeafNow, childless, Free}
use Rattle.coarsen_theory.specs.Thinned.{stays, keeps, new_vertex, new_row, thin_row, thinned}
use Rattle.coarsen_theory.proofs.laws.Sifted.{count_apart}
use Rattle.coarsen_theory.proofs.laws.Free.{leaf_now_lem, now_leaf}
use Rattle.coarsen_theory.proofs.laws.Together.{stays_says, says_stays, still_split, split_kept, children_kept}
use Rattle.coarsen_theory.proofs.laws.Moved.{row_at_lem, row_child, row_corner, row_from_lem, row_below, leaf, parent, Fate, fate, midpoint_new, midpoint_old, open_later, open_place}
use Rattle.coarsen_theory.proofs.laws.Clauses.{row_open}

-- a split row is no leaf where nothing is gone
split_says : (m : Mesh) (r : ℕ) → ((row_of m r).child ≡ 0 → ⊥) → leaf_now m none r ≡ false
unfolding leaf_now
split_says m r d = rw (ne_eqb (row_of m r).child 0 d)

-- what a row that blocks v is
record Blocking (m : Mesh) (gone : ℕ → Bool) (v r : ℕ) : Type 0 where
  split : (row_of m r).child ≡ 0 → ⊥
  at_it : split_vertex m r ≡ v

blocking_says : (m : Mesh) (gone : ℕ → Bool) (v r : ℕ) → blocks m gone v r ≡ true → Blocking m gone v r
unfolding blocks
blocking_says m gone v r h =
    let (a, bc) = and_both _ _ h in
    let (b, c) = and_both _ _ bc in
    record { split = eqb-false _ _ (not-true _ a); at_it = eqb-true _ _ b }

module _ {m : Mesh} {i t : ℕ} (g : Grown m i t) {gone : ℕ → Bool} (f : Free m i gone) where
  abbrev after : Mesh
  after = thinned m i gone

  -- a kept row is a leaf now exactly if it is a leaf of the thinned mesh
  pub leaf_same : (r : ℕ) → r < rows m → keeps m gone r ≡ true → leaf_now m gone r ≡ leaf_now after none (new_row m gone r)
  leaf_same r l k = go (fate m gone r)
    where
      stuck : (b : Bool) → leaf_now m gone r ≡ b → (LeafNow m gone r → ⊥) → leaf_now m gone r ≡ false
      stuck true e n = absurd (n (leaf_now_lem r e))
      stuck false e n = e

      after_leaf : (row_of after (new_row m gone r)).child ≡ 0 → leaf_now after none (new_row m gone r) ≡ true
      after_leaf e = now_leaf (childless e)

      go : Fate m gone r → leaf_now m gone r ≡ leaf_now after none (new_row m gone r)
      go (leaf w e) = now_leaf w ∙ sym (after_leaf (row_child m i gone r l k ∙ e))
      go (parent s stay e) = stuck (leaf_now m gone r) refl (still_split g f r s stay) ∙ sym (split_says after (new_row m gone r) (λ z. omega (arith, row_open g f r l s stay, open_later g f r l s stay)))

  module _ (r : ℕ) (l : r < rows m) (split : (row_of m r).child ≡ 0 → ⊥) (stay : gone (split_vertex m r) ≡ false) where
    kept : keeps m gone r ≡ true
    kept = split_kept g f r l split stay

    opened : (row_of after (new_row m gone r)).child ≡ new_row m gone (row_of m r).child
    opened = row_open g f r l split stay

    tag_same : tag_of (row_of after (new_row m gone r)) ≡ tag_of (row_of m r)
    unfolding thin_row
    tag_same = ap tag_of (row_at_lem m i gone r l kept)

    child_there : (s : Side) → place s (row_of m r).child < rows m
    child_there s = (place_below g r l split s).there

    -- it is split at the same vertex
    pub split_same : split_vertex after (new_row m gone r) ≡ new_vertex gone (split_vertex m r)
    unfolding split_vertex
    split_same =
        let c = (row_of m r).child in
        let tag = tag_of (row_of m r) in
        ap (λ (x : Tag). far x (corners_of (row_of after (row_of after (new_row m gone r)).child))) tag_same
        ∙ ap (λ (x : ℕ). far tag (corners_of (row_of after x))) opened
        ∙ sym (far_at (corners_of (row_of after (new_row m gone c))) tag)
        ∙ row_corner m i gone c (child_there left) (children_kept g f r l split stay left) (number tag)
        ∙ ap (new_vertex gone) (far_at (corners_of (row_of m c)) tag)

    same_vertex : (v : ℕ) → gone v ≡ false → eqb (split_vertex m r) v ≡ eqb (split_vertex after (new_row m gone r)) (new_vertex gone v)
    same_vertex v e = elim (ℕ_discrete (split_vertex m r) v) [
      | yes p ↦ eq-eqb _ _ p ∙ sym (eq-eqb _ _ (split_same ∙ ap (new_vertex gone) p))
      | no n ↦ ne_eqb _ _ n ∙ sym (ne_eqb _ _ (λ p. n (count_apart (stays gone) (split_vertex m r) v (says_stays gone _ stay) (says_stays gone v e) (sym split_same ∙ p))))
    ]

    child_same : (s : Side) → leaf_now m gone (place s (row_of m r).child) ≡ leaf_now after none (place s (row_of after (new_row m gone r)).child)
    child_same s = leaf_same (place s (row_of m r).child) (child_there s) (children_kept g f r l split stay s) ∙ ap (leaf_now after none) (open_place g f r l split stay s ∙ ap (place s) (sym opened))

    pub blocks_same : (v : ℕ) → gone v ≡ false → blocks m gone v r ≡ blocks after none (new_vertex gone v) (new_row m gone r)
    unfolding blocks
    blocks_same v e =
        let d : (row_of after (new_row m gone r)).child ≡ 0 → ⊥ = λ z. omega (arith, opened, open_later g f r l split stay) in
        rw (ne_eqb (row_of m r).child 0 split, ne_eqb (row_of after (new_row m gone r)).child 0 d, same_vertex v e, child_same left, child_same right)

  module _ (v : ℕ) (l : v < vertices m) (s : stays gone v ≡ true) where
    stay : gone v ≡ false
    stay = stays_says gone v s

    any_new : any (blocks m gone v) (rows m) ≡ true → any (blocks after none (new_vertex gone v)) (rows after) ≡ true
    any_new h =
        let (r, b, e) = any_some (blocks m gone v) (rows m) h in
        let w = blocking_says m gone v r e in
        let open_at : gone (split_vertex m r) ≡ false = ap gone w.at_it ∙ stay in
        any_has (blocks after none (new_vertex gone v)) (rows after) (new_row m gone r) (row_below m i gone r b (split_kept g f r b w.split open_at)) (sym (blocks_same r b w.split open_at v stay) ∙ e)

    row_old : (r : ℕ) → r < rows m → keeps m gone r ≡ true → blocks after none (new_vertex gone v) (new_row m gone r) ≡ true → blocks m gone v r ≡ true
    row_old r b k e = go (fate m gone r)
      where
        go : Fate m gone r → blocks m gone v r ≡ true
        go (leaf w z) = absurd ((blocking_says after none (new_vertex gone v) (new_row m gone r) e).split (row_child m i gone r b k ∙ z))
        go (parent d o z) = blocks_same r b d o v stay ∙ e

    any_old : any (blocks after none (new_vertex gone v)) (rows after) ≡ true → any (blocks m gone v) (rows m) ≡ true
    any_old h =
        let (x, b, e) = any_some (blocks after none (new_vertex gone v)) (rows after) h in
        let o = row_from_lem m i gone x b in
        any_has (blocks m gone v) (rows m) o.place o.there (row_old o.place o.there o.passes (ap (blocks after none (new_vertex gone v)) o.is ∙ e))

    midpoint_same : leb i v ≡ leb i (new_vertex gone v)
    midpoint_same = elim (le_or_lt i v) [
      | inl h ↦ le-leb i v h ∙ sym (le-leb i (new_vertex gone v) (midpoint_new g f v h))
      | inr h ↦ lt-leb i v h ∙ sym (lt-leb i (new_vertex gone v) (elim (le_or_lt i (new_vertex gone v)) [ inl k ↦ absurd (omega (arith, midpoint_old g f v k)) | inr k ↦ k ]))
    ]

    -- v may be dropped exactly if it may be dropped from the thinned mesh
    pub droppable_same : droppable m i gone v ≡ droppable after i none (new_vertex gone v)
    unfolding droppable
    droppable_same = rw (stay, midpoint_same, agree (any (blocks m gone v) (rows m)) (any (blocks after none (new_vertex gone v)) (rows after)) any_new any_old)
