-- Dropping one vertex more is dropping it from the thinned mesh: holes may be closed after each vertex or once at the end (02, L5).
use mathlib.Core.Path.{◌≡◌, refl, sym, ap, ◌∙◌}
use mathlib.Core.Bool.{Bool, true, false, not, ◌&&◌, ◌||◌, cond}
use mathlib.Core.List.{[], ◌∷◌, ◌++◌, append-nil}
use mathlib.Core.Logic.{inl, inr}
use Prim.Native.Nat.{ℕ, zero, suc, ◌+◌, ◌≤◌, ◌<◌}
use native.Mathlib.Nat.{add-zero}
use native.Mathlib.Numerals.{add-one}
use native.Mathlib.Omega.{arith}
use borrow.Author.Tests.{lt-ltb, le-ltb, eq-eqb, ne_eqb}
use lib.Dec.{eqb}
use native.Mathlib.Decide.{ℕ_discrete}
use Rattle.split.specs.Split.{corners, at}
use Rattle.split.specs.Row.{corners_of, remade}
use Rattle.split.proofs.laws.Places.{le_or_lt}
use Rattle.tables.specs.Mesh.{Mesh}
use Rattle.intake.specs.Search.{count}
use Rattle.sound.specs.Sound.{vertices, rows, point_of, record_of, row_of, Grown}
use Rattle.sound.specs.Follows.{split_vertex}
use Rattle.sound.proofs.laws.Searches.{and_both, agree}
use Rattle.coarsen_theory.specs.Dropping.{leaf_now, droppable, drop_one, none}
use Rattle.coarsen_theory.specs.Free.{childless, Free}
use Rattle.coarsen_theory.specs.Thinned.{stays, keeps, new_vertex, new_row, sift, new_child, thin_row, thin_record, moved, thinned}
use Rattle.coarsen_theory.proofs.laws.Sifted.{count_apart}
use Rattle.coarsen_theory.proofs.laws.Free.{now_leaf, droppable_says, leaf_later}
use Rattle.coarsen_theory.proofs.laws.Together.{stays_says, says_stays, kept_holds, holds_kept}
use Rattle.coarsen_theory.proofs.laws.Moved.{vertices_thinned, rows_thinned, point_at_lem, record_initial, record_midpoint, row_at_lem, row_parent, row_child, row_corner, leaf, parent, Fate, fate, initial_same, midpoint_new, open_later}
use Rattle.coarsen_theory.proofs.laws.Clauses.{row_open}
use Rattle.coarsen_theory.proofs.laws.Judged.{split_same, droppable_same}

-- ---- one test after another

module _ (test test' test'' : ℕ → Bool) where
  -- a place passes both: the first test, and at its new number the second
  abbrev Through : ℕ → Type 0
  Through n = (j : ℕ) → j < n → test' j ≡ (test j && test'' (count test j))

  count_step : (x : ℕ) → count test'' (x + 1) ≡ count test'' x + cond (test'' x) 1 0
  unfolding count
  count_step x = rw (add-one x)

  pub count_through : (n : ℕ) → Through n → count test' n ≡ count test'' (count test n)
  unfolding count
  count_through zero h = refl
  count_through (suc n) h = rw (count, h n (omega arith), count_through n (λ j l. h j (omega arith))) (go (test n))
    where
      go : (b : Bool) → count test'' (count test n) + cond (b && test'' (count test n)) 1 0 ≡ count test'' (count test n + cond b 1 0)
      go true = sym (count_step (count test n))
      go false = add-zero (count test'' (count test n)) ∙ ap (count test'') (sym (add-zero (count test n)))

  module _ {A : Type 0} (f f'' : ℕ → A) where
    sift_step : (x : ℕ) → sift test'' f'' (x + 1) ≡ sift test'' f'' x ++ cond (test'' x) (f'' x ∷ []) []
    unfolding sift
    sift_step x = rw (add-one x)

    pub sift_through : (n : ℕ) → Through n → ((j : ℕ) → j < n → test' j ≡ true → f j ≡ f'' (count test j)) → sift test' f n ≡ sift test'' f'' (count test n)
    unfolding sift count
    sift_through zero h e = refl
    sift_through (suc n) h e = rw (sift_through n (λ j l. h j (omega arith)) (λ j l. e j (omega arith))) (go (test n) (test'' (count test n)) (test' n) (h n (omega arith)) refl refl)
      where
        go : (a b c : Bool) → test' n ≡ (test n && test'' (count test n)) → test n ≡ a → test'' (count test n) ≡ b → sift test'' f'' (count test n) ++ cond (test' n) (f n ∷ []) [] ≡ sift test'' f'' (count test n + cond (test n) 1 0)
        go true true c x y z = rw (x, y, z, e n (omega arith) (rw (x, y, z))) (sym (rw z at (sift_step (count test n))))
        go true false c x y z = rw (x, y, z) (sym (rw z at (sift_step (count test n))))
        go false b c x y z = rw (x, y) (append-nil (sift test'' f'' (count test n)) ∙ ap (sift test'' f'') (sym (add-zero (count test n))))

leaf_zero : (m : Mesh) (gone : ℕ → Bool) (r : ℕ) → leaf_now m gone r ≡ true → new_child m gone r ≡ 0
unfolding new_child
leaf_zero m gone r e = rw e

-- two thinned meshes are equal by their three lists
thinned_parts : (m m' : Mesh) (i : ℕ) (gone gone' : ℕ → Bool) → sift (stays gone) (point_of m) (vertices m) ≡ sift (stays gone') (point_of m') (vertices m') → sift (stays gone) (thin_record m i gone) (vertices m) ≡ sift (stays gone') (thin_record m' i gone') (vertices m')
    → sift (keeps m gone) (thin_row m gone) (rows m) ≡ sift (keeps m' gone') (thin_row m' gone') (rows m') → thinned m i gone ≡ thinned m' i gone'
unfolding thinned
thinned_parts m m' i gone gone' p r w = λ j. record { points = p j; records = r j; rows = w j }

-- ---- one vertex more

module _ {m : Mesh} {i t : ℕ} (g : Grown m i t) {gone : ℕ → Bool} (f : Free m i gone) (v : ℕ) (l : v < vertices m) (d : droppable m i gone v ≡ true) where
  abbrev after : Mesh
  after = thinned m i gone

  -- what is gone with v, in the old numbers and in the new
  abbrev more : ℕ → Bool
  more = drop_one m i gone v

  abbrev again : ℕ → Bool
  again = drop_one after i none (new_vertex gone v)

  own_stays : stays gone v ≡ true
  own_stays = says_stays gone v (droppable_says m i gone v d).still

  droppable_again : droppable after i none (new_vertex gone v) ≡ true
  droppable_again = sym (droppable_same g f v l own_stays) ∙ d

  same_number : (u : ℕ) → gone u ≡ false → eqb u v ≡ eqb (new_vertex gone u) (new_vertex gone v)
  same_number u e = elim (ℕ_discrete u v) [
    | yes p ↦ eq-eqb u v p ∙ sym (eq-eqb (new_vertex gone u) (new_vertex gone v) (ap (new_vertex gone) p))
    | no n ↦ ne_eqb u v n ∙ sym (ne_eqb (new_vertex gone u) (new_vertex gone v) (λ p. n (count_apart (stays gone) u v (says_stays gone u e) own_stays p)))
  ]

  vertex_through : (u : ℕ) → stays more u ≡ (stays gone u && stays again (new_vertex gone u))
  unfolding stays drop_one
  vertex_through u = rw (d, droppable_again) (go (gone u) refl)
    where
      go : (b : Bool) → gone u ≡ b → not (gone u || eqb u v) ≡ (not (gone u) && not (eqb (new_vertex gone u) (new_vertex gone v)))
      go true e = rw e
      go false e = rw (e, same_number u e)

  stays_both : (u : ℕ) → stays more u ≡ true → (stays gone u ≡ true) × (stays again (new_vertex gone u) ≡ true)
  stays_both u h = and_both _ _ (sym (vertex_through u) ∙ h)

  row_through : (r : ℕ) → r < rows m → keeps m more r ≡ (keeps m gone r && keeps after again (new_row m gone r))
  row_through r b = agree _ _ forward backward
    where
      forward : keeps m more r ≡ true → (keeps m gone r && keeps after again (new_row m gone r)) ≡ true
      forward k =
          let old : keeps m gone r ≡ true = holds_kept m gone r (λ x h. stays_says gone x (stays_both x (says_stays more x (kept_holds m more r k h))).0) in
          rw old
          (holds_kept after again (new_row m gone r)
          (λ x h. let y = at (corners_of (row_of m r)) h.place in
          ap again (sym h.is ∙ row_corner m i gone r b old h.place)
          ∙ stays_says again (new_vertex gone y) (stays_both y (says_stays more y (kept_holds m more r k (record { place = h.place; inside = h.inside; is = refl })))).1))

      backward : (keeps m gone r && keeps after again (new_row m gone r)) ≡ true → keeps m more r ≡ true
      backward k =
          let (a, c) = and_both _ _ k in
          holds_kept m more r
          (λ x h. stays_says more x (vertex_through x
          ∙ rw (says_stays gone x (kept_holds m gone r a h))
          (says_stays again (new_vertex gone x) (kept_holds after again (new_row m gone r) c (record { place = h.place; inside = h.inside; is = row_corner m i gone r b a h.place ∙ ap (new_vertex gone) h.is })))))

  pub vertex_again : (u : ℕ) → new_vertex more u ≡ new_vertex again (new_vertex gone u)
  vertex_again u = count_through (stays gone) (stays more) (stays again) u (λ j h. vertex_through j)

  pub row_again : (r : ℕ) → r ≤ rows m → new_row m more r ≡ new_row after again (new_row m gone r)
  row_again r h = count_through (keeps m gone) (keeps m more) (keeps after again) r (λ j b. row_through j (omega arith))

  -- ---- what stands at a number that stays

  record_again : (u : ℕ) → u < vertices m → stays more u ≡ true → thin_record m i more u ≡ thin_record after i again (new_vertex gone u)
  unfolding thin_record
  record_again u b s = elim (le_or_lt i u) [
    | inr h ↦ rw (lt-ltb u i h, lt-ltb (new_vertex gone u) i (omega (arith, initial_same g f u (omega arith)))) (sym (record_initial m i gone u h b (stays_both u s).0))
    | inl h ↦ rw (le-ltb u i h, le-ltb (new_vertex gone u) i (midpoint_new g f u h)) (renumbered ∙ ap (moved again) (sym (record_midpoint m i gone u h b (stays_both u s).0)))
  ]
    where
      renumbered : moved more (record_of m u) ≡ moved again (moved gone (record_of m u))
      renumbered = λ j. record { first = vertex_again (record_of m u).first j; second = vertex_again (record_of m u).second j }

  gone_again : (x : ℕ) → gone x ≡ false → more x ≡ again (new_vertex gone x)
  unfolding drop_one
  gone_again x e = rw (e, d, droppable_again) (same_number x e)

  module _ (r : ℕ) (b : r < rows m) (k : keeps m gone r ≡ true) where
    leaf_again : ((row_of m r).child ≡ 0 → ⊥) → gone (split_vertex m r) ≡ false → leaf_now m more r ≡ leaf_now after again (new_row m gone r)
    unfolding leaf_now
    leaf_again s stay =
        let s' : (row_of after (new_row m gone r)).child ≡ 0 → ⊥ = λ z. omega (arith, row_open g f r b s stay, open_later g f r b s stay) in
        rw (ne_eqb (row_of m r).child 0 s, ne_eqb (row_of after (new_row m gone r)).child 0 s', split_same g f r b s stay) (gone_again (split_vertex m r) stay)

    open_again : ((row_of m r).child ≡ 0 → ⊥) → gone (split_vertex m r) ≡ false → new_child m more r ≡ new_child after again (new_row m gone r)
    unfolding new_child
    open_again s stay = rw (leaf_again s stay, row_open g f r b s stay, row_again (row_of m r).child (omega (arith, (g.parent r b s).both)))

    child_again : new_child m more r ≡ new_child after again (new_row m gone r)
    child_again = go (fate m gone r)
      where
        go : Fate m gone r → new_child m more r ≡ new_child after again (new_row m gone r)
        go (leaf w e) = leaf_zero m more r (now_leaf (leaf_later m i gone v w)) ∙ sym (leaf_zero after again (new_row m gone r) (now_leaf (childless (row_child m i gone r b k ∙ e))))
        go (parent s stay e) = open_again s stay

    parent_below : (row_of m r).parent ≤ rows m
    parent_below = elim (le_or_lt t r) [ inl h ↦ omega (arith, (g.child r h b).older) | inr h ↦ omega (arith, g.parted.roots r h) ]

    corner_again : (p : ℕ) → new_vertex more (at (corners_of (row_of m r)) p) ≡ new_vertex again (at (corners_of (row_of after (new_row m gone r))) p)
    corner_again p = vertex_again (at (corners_of (row_of m r)) p) ∙ ap (new_vertex again) (sym (row_corner m i gone r b k p))

    row_again_is : thin_row m more r ≡ thin_row after again (new_row m gone r)
    unfolding thin_row
    row_again_is = λ j. remade (sym (row_at_lem m i gone r b k) j) (corners (corner_again 0 j) (corner_again 1 j) (corner_again 2 j) (corner_again 3 j)) (parent_again j) (child_again j)
      where
        parent_again : new_row m more (row_of m r).parent ≡ new_row after again (row_of after (new_row m gone r)).parent
        parent_again = row_again (row_of m r).parent parent_below ∙ ap (new_row after again) (sym (row_parent m i gone r b k))

  kept_both : (r : ℕ) → r < rows m → keeps m more r ≡ true → keeps m gone r ≡ true
  kept_both r b h = (and_both _ _ (sym (row_through r b) ∙ h)).0

  -- holes closed once and closed twice are the same mesh
  pub thinned_again : thinned m i more ≡ thinned after i again
  thinned_again =
      thinned_parts m after i more again
      (rw (vertices_thinned m i gone) (sift_through (stays gone) (stays more) (stays again) (point_of m) (point_of after) (vertices m) (λ j h. vertex_through j) (λ j h s. sym (point_at_lem m i gone j h (stays_both j s).0))))
      (rw (vertices_thinned m i gone) (sift_through (stays gone) (stays more) (stays again) (thin_record m i more) (thin_record after i again) (vertices m) (λ j h. vertex_through j) record_again))
      (rw (rows_thinned m i gone) (sift_through (keeps m gone) (keeps m more) (keeps after again) (thin_row m more) (thin_row after again) (rows m) row_through (λ j h s. row_again_is j h (kept_both j h s))))
