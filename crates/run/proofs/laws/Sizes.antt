-- How many rows and vertices a grown mesh has, by its split elements and halved edges: a mesh over the room, all of whose splits lie in a set, shows that the set needs more than there is; one within the room that has split the whole set, that it needs no more (demand 3).
use mathlib.Core.Path.{◌≡◌, refl, sym, ap, ◌∙◌}
use mathlib.Core.Bool.{Bool, true, not}
use mathlib.Core.List.{List, Memᴰ, Nodup}
use Prim.Native.Nat.{ℕ, ◌+◌, ◌-◌, ◌*◌, ◌≤◌, ◌<◌}
use native.Mathlib.Omega.{arith}
use borrow.Author.Tests.{eqb-false, ne_eqb, not-true}
use lib.Dec.{eqb}
use lib.ListN.{length}
use Rattle.tables.specs.declared.layout.Size.{Size}
use Rattle.tables.specs.Mesh.{Mesh}
use Rattle.forest.specs.Element.{Name, Forest, Element, middle, shape}
use Rattle.opening.proofs.laws.Counting.{count_below}
use Rattle.sound.specs.Sound.{vertices, rows, row_of, Grown}
use Rattle.sound.specs.Forest.{forest_of, name_of, element_of, SplitOf, splits_in}
use Rattle.sound.proofs.laws.Searches.{count_full}
use Rattle.sound.proofs.laws.Count.{rows_count}
use Rattle.sound.proofs.laws.Elements.{one_row}
use Rattle.sound.proofs.laws.Names.{one_vertex}
use Rattle.sound.proofs.laws.Offspring.{split_midpoint}
use Rattle.sound.proofs.laws.Placed.{placed, middle_name}
use Rattle.run.specs.Skeleton.{skeleton}
use Rattle.run.specs.Run.{Within, Over, vertices as over-vertices, rows as over-rows}
use Rattle.run.specs.Demand.{OutgrowsIn, vertices as more_vertices, rows as more_rows}
use Rattle.run.proofs.laws.Few.{Numbered, few, Listing, listing}
use Rattle.run.proofs.laws.Needs.{Inside}

-- the midpoint of the edge of a split element
record Middle (m : Mesh) (t : ℕ) (x : Name) : Type 0 where
  element : Element
  split : SplitOf m t element
  is : middle (shape (forest_of m t) element) ≡ x

abbrev is_split : Mesh → ℕ → Bool
is_split m q = not (eqb (row_of m q).child 0)

module _ {m : Mesh} {i t : ℕ} (g : Grown m i t) where
  -- ---- no more splits than rows

  split_number : (e : Element) → SplitOf m t e → Numbered (λ a j. element_of m t j ≡ a) (is_split m) (rows m) e
  split_number e s = record { number = s.row; fits = s.is; below = s.there; holds = rw (ne_eqb _ _ s.split) }

  splits_few : {es : List Element} → Nodup es → ((e : Element) → Memᴰ e es → SplitOf m t e) → t + 2 * length es ≤ rows m
  unfolding splits_in
  splits_few o h = omega (arith, rows_count g, few (λ a j. element_of m t j ≡ a) (λ a b j x y. sym x ∙ y) (rows m) o (is_split m) (λ e k. split_number e (h e k)))

  splits_list : Listing (element_of m t) (is_split m) (rows m)
  splits_list = listing (element_of m t) (is_split m) (rows m) (one_row g)

  splits_size : rows m ≡ t + 2 * length splits_list.list
  unfolding splits_in
  splits_size = omega (arith, rows_count g, splits_list.size)

  splits_each : (e : Element) → Memᴰ e splits_list.list → SplitOf m t e
  splits_each e k = let w = splits_list.each e k in record { row = w.number; there = w.below; split = eqb-false _ _ (not-true _ w.holds); is = w.fits }

  -- ---- no more halved edges than midpoints

  abbrev midpoint_name : ℕ → Name
  midpoint_name j = name_of m i (i + j)

  middle_number : (x : Name) → Middle m t x → Numbered (λ a j. midpoint_name j ≡ a) (λ j. true) (vertices m - i) x
  middle_number x w =
      let s = w.split in
      let (v, c) = split_midpoint g s.row s.there s.split in
      let here : i + (v - i) ≡ v = omega (arith, c.midpoint) in
      record {
        number = v - i;
        fits = ap (name_of m i) here ∙ middle_name g (placed g s.row s.there) v c ∙ ap (λ (e : Element). middle (shape (forest_of m t) e)) s.is ∙ w.is;
        below = omega (arith, c.midpoint, c.there);
        holds = refl;
      }

  middles_few : {xs : List Name} → Nodup xs → ((x : Name) → Memᴰ x xs → Middle m t x) → i + length xs ≤ vertices m
  middles_few o h =
      omega (
        arith,
        g.parted.vertices_in,
        count_below (λ j. true) (vertices m - i),
        few (λ a j. midpoint_name j ≡ a) (λ a b j x y. sym x ∙ y) (vertices m - i) o (λ j. true) (λ x k. middle_number x (h x k)),
      )

  middles_list : Listing midpoint_name (λ j. true) (vertices m - i)
  middles_list = listing midpoint_name (λ j. true) (vertices m - i) (λ j k a b e. omega (arith, one_vertex g (i + j) (i + k) (omega arith) (omega arith) e))

  middles_size : vertices m ≡ i + length middles_list.list
  middles_size = omega (arith, g.parted.vertices_in, middles_list.size, count_full (λ j. true) (vertices m - i) (λ k h. refl))

  middles_each : (x : Name) → Memᴰ x middles_list.list → Middle m t x
  middles_each x k =
      let w = middles_list.each x k in
      let v = i + w.number in
      let h : v < vertices m = omega (arith, w.below) in
      let c = g.midpoint v (omega arith) h in
      record {
        element = element_of m t c.row;
        split = record { row = c.row; there = c.there; split = c.split; is = refl };
        is = sym (middle_name g (placed g c.row c.there) v (record { midpoint = omega arith; there = h; ends = c.edge })) ∙ w.fits;
      }

-- ---- room

-- of a mesh with the roots F, and a set Z of elements
module _ {n : Mesh} {i t : ℕ} (g : Grown n i t) {F : Forest} (same : forest_of n t ≡ F) {Z : Element → Type 0} {room : Size} where
  -- within the room and all of Z split: Z needs no more than there is
  pub split_fits : ((e : Element) → Z e → SplitOf n t e) → Within room (skeleton n) → OutgrowsIn room F i Z → ⊥
  split_fits f k (more_rows es o h l) = omega (arith, k.rows, l, ap (λ (x : Forest). x.count) same, splits_few g o (λ e j. f e (h e j)))
  split_fits f k (more_vertices xs o h l) = omega (arith, k.vertices, l, middles_few g o (λ x j. let w = h x j in record { element = w.element; split = f w.element w.needed; is = rw same w.is }))

  -- over the room and only elements of Z split: Z needs more than there is
  pub split_outgrows : Inside n t Z → Over room (skeleton n) → OutgrowsIn room F i Z
  split_outgrows d (over-rows l) = more_rows (splits_list g).list (splits_list g).once (λ e k. d e (splits_each g e k)) (omega (arith, l, ap (λ (x : Forest). x.count) same, splits_size g))
  split_outgrows d (over-vertices l) =
      more_vertices (middles_list g).list (middles_list g).once
      (λ x k. let u = middles_each g x k in record { element = u.element; needed = d u.element u.split; is = rw (← same) u.is }) (omega (arith, l, middles_size g))

-- ---- counts

module _ {m n : Mesh} {i t : ℕ} (g : Grown m i t) (h : Grown n i t) (roots : forest_of m t ≡ forest_of n t) (within : (e : Element) → SplitOf m t e → SplitOf n t e) where
  -- more splits, more rows and vertices
  pub fewer_rows : rows m ≤ rows n
  fewer_rows = omega (arith, splits_size g, splits_few h (splits_list g).once (λ e k. within e (splits_each g e k)))

  pub fewer_vertices : vertices m ≤ vertices n
  fewer_vertices =
      omega (
        arith,
        middles_size g,
        middles_few h (middles_list g).once (λ x k. let u = middles_each g x k in record { element = u.element; split = within u.element u.split; is = rw (← roots) u.is }),
      )
