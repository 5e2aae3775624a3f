-- What opening the initial vertices and roots afresh (01, "Sound tables", clause 3) says of a mesh: its roots stand in the order of Definition 2 for its own colours.
use mathlib.Core.Path.{◌≡◌, refl, sym, ap, ◌∙◌}
use mathlib.Core.Bool.{Bool, true, false, cond}
use mathlib.Core.List.{List, map}
use mathlib.Core.Logic.{inl, inr}
use Prim.Native.Nat.{ℕ, zero, suc, ◌/◌, ◌≤◌, ◌<◌}
use native.Mathlib.Omega.{arith}
use borrow.Author.Tests.{ltb-false}
use lib.Dec.{eqb}
use lib.ListN.{length, get_or, take, length-map, get_or-map}
use lib.Seq.{length-take-le, get_or-take, ext_get_or}
use lib.Ieee.{Float}
use Rattle.split.specs.declared.row.Row.{Row}
use Rattle.split.specs.Split.{three, Corners, at}
use Rattle.split.specs.Row.{corners_of, read_tag, tag_of}
use Rattle.split.proofs.laws.Places.{le_or_lt, less, equal, more, against}
use Rattle.tables.specs.declared.record.Record.{Record}
use Rattle.tables.specs.Layout.{no_record, no_row}
use Rattle.tables.specs.Mesh.{Mesh}
use Rattle.tables.proofs.laws.View.{length_up_to, up_to_at}
use Rattle.forest.specs.Start.{moved, arranged, Rising, Started, Coloured}
use Rattle.intake.specs.Cells.{Cells}
use Rattle.intake.specs.Causes.{vertex}
use Rattle.opening.specs.Colours.{colours, colour_of, garish, largest}
use Rattle.opening.specs.Order.{sorted, given, root_of}
use Rattle.opening.specs.Opening.{initial, opened_mesh}
use Rattle.intake.proofs.laws.Search.{first_none}
use Rattle.opening.proofs.laws.Colours.{largest_none}
use Rattle.opening.proofs.laws.Proper.{colours_length, colours_at, colours_proper, colours_most, colours_reached}
use Rattle.opening.proofs.laws.Sorted.{sorted_of, sorted_rising}
use Rattle.sound.specs.Sound.{row_of, childless, given_points, root_cells, Grown}
use Rattle.sound.specs.Forest.{forest_of, colour_in, largest_in}
use Rattle.sound.proofs.laws.Tested.{Tested, Named, tested, tested_named}

-- ---- a root's vertices are the given ones in another order

-- the colours matter only at the vertices
started_same : (N : ℕ) (f h : ℕ → ℕ) (w : Corners ℕ) → Rising three N f w → ((p : ℕ) → p ≤ 3 → f (at w p) ≡ h (at w p)) → Started three N h (arranged three N f w)
unfolding arranged
started_same N f h w r same = record {
  sorted = w;
  rising = record { rises = λ p l. rw (← same p (omega arith), ← same (suc p) (omega arith)) (r.rises p l); most = rw (← same 3 (omega arith)) r.most };
  is = rw (same 3 (omega arith));
}

module _ (P : ℕ → Type 0) (f : ℕ → ℕ) (w : Corners ℕ) (h : (p : ℕ) → p ≤ 3 → P (at w p)) where
  arranged_at : (N p : ℕ) → p ≤ 3 → P (at (arranged three N f w) p)
  unfolding arranged
  arranged_at N = go (eqb (f w.v3) N)
    where
      go : (b : Bool) (p : ℕ) → p ≤ 3 → P (at (cond b (moved three w) w) p)
      go false p l = h p l
      go true zero l = h 3 (omega arith)
      go true (suc zero) l = h 0 (omega arith)
      go true (suc (suc zero)) l = h 1 (omega arith)
      go true (suc (suc (suc p))) l = h 2 (omega arith)

  sorted_at : (p : ℕ) → p ≤ 3 → P (at (sorted f w) p)
  sorted_at p l = let r = sorted_of f w (at (sorted f w) p) (record { place = p; inside = l; is = refl }) in rw (← r.is) (h r.place r.inside)

given_at : (E : Cells) (k p : ℕ) → p ≤ 3 → at (given E k) p ≡ vertex E k p
given_at E k zero h = refl
given_at E k (suc zero) h = refl
given_at E k (suc (suc zero)) h = refl
given_at E k (suc (suc (suc zero))) h = refl
given_at E k (suc (suc (suc (suc p)))) h = absurd (omega arith)

-- ---- the opened mesh by numbers

module _ (F : List Float) (E : Cells) (n : ℕ) (e : length F / 3 ≡ n) where
  records_at : (v : ℕ) → v < n → get_or (opened_mesh F E).records v no_record ≡ initial (get_or (colours E n) v 0)
  unfolding opened_mesh
  records_at v h = rw e (up_to_at (λ v. initial (get_or (colours E n) v 0)) n v no_record h)

  rows_at : (k : ℕ) → k < E.count → get_or (opened_mesh F E).rows k no_row ≡ root_of (largest (colours E n)) (λ v. get_or (colours E n) v 0) E k
  unfolding opened_mesh
  rows_at k h = rw e (up_to_at (root_of (largest (colours E n)) (λ v. get_or (colours E n) v 0) E) E.count k no_row h)

-- ---- the first i vertices and the first t rows

module _ {m : Mesh} {i t : ℕ} (g : Grown m i t) where
  -- the roots' vertices as opening takes them, and Algorithm 2's colours
  abbrev E : Cells
  E = root_cells m t

  abbrev shade : ℕ → ℕ
  shade v = get_or (colours E i) v 0

  opened_vertices : length (given_points m i) / 3 ≡ i
  unfolding opened_mesh
  opened_vertices = sym (length_up_to _ (length (given_points m i) / 3)) ∙ ap length g.afresh.colours ∙ length-take-le i m.records g.parted.vertices_in

  tests : Tested (given_points m i) E
  tests = tested (given_points m i) E g.afresh.opens

  named : Named i E
  named = rw opened_vertices at (tested_named tests)

  small : (v : ℕ) → v < i → colour_of E v ≤ 63
  small v l = ltb-false 63 (colour_of E v) (first_none (garish E) (length (given_points m i) / 3) tests.colours v (omega (arith, opened_vertices)))

  -- the colour of an initial vertex is Algorithm 2's
  pub colour_is : (v : ℕ) → v < i → colour_in m i v ≡ shade v
  colour_is v h = ap (λ (r : Record). r.first)
      (sym (ap (λ (l : List Record). get_or l v no_record) g.afresh.colours) ∙ records_at (given_points m i) E i opened_vertices v h)

  pub largest_is : largest_in m i ≡ largest (colours E i)
  unfolding largest_in
  largest_is = ap largest (ext_get_or 0 _ (colours E i) (size ∙ sym (colours_length E i)) (λ v h. get_or-map (λ (r : Record). r.first) (take i m.records) v no_record ∙ colour_is v (omega (arith, size))))
    where
      size : length (map (λ (r : Record). r.first) (take i m.records)) ≡ i
      size = length-map (take i m.records) (λ (r : Record). r.first) ∙ length-take-le i m.records g.parted.vertices_in

  -- a root's row but for its first child is Definition 2's
  root_is : (k : ℕ) → k < t → childless (row_of m k) ≡ root_of (largest_in m i) shade E k
  root_is k h =
      ap childless (sym (get_or-take t m.rows k no_row h)) ∙ sym (get_or-map childless (take t m.rows) k no_row) ∙ sym (ap (λ (l : List Row). get_or l k no_row) g.afresh.rows)
      ∙ rw largest_is (rows_at (given_points m i) E i opened_vertices k h)

  module _ (k : ℕ) (root : k < t) where
    vertex_below : (p : ℕ) → p ≤ 3 → vertex E k p < i
    vertex_below p h = named.there k p root (omega arith)

    given_below : (p : ℕ) → p ≤ 3 → at (given E k) p < i
    given_below p h = rw (given_at E k p h) (vertex_below p h)

    root_corners : corners_of (row_of m k) ≡ arranged three (largest_in m i) shade (sorted shade (given E k))
    unfolding root_of
    root_corners = ap corners_of (root_is k root)

    -- what a root has beside its vertices
    pub root_tag : tag_of (row_of m k) ≡ three
    unfolding root_of read_tag
    root_tag = ap tag_of (root_is k root)

    pub root_depth : (row_of m k).depth ≡ 0
    unfolding root_of
    root_depth = ap (λ (r : Row). r.depth) (root_is k root)

    -- a root's vertices are initial ones
    pub root_below : (p : ℕ) → p ≤ 3 → at (corners_of (row_of m k)) p < i
    root_below p h = rw root_corners (arranged_at (λ v. v < i) _ _ (sorted_at (λ v. v < i) _ _ given_below) (largest_in m i) p h)

    -- Algorithm 2's colours are different within it
    differ : (p q : ℕ) → p ≤ 3 → q ≤ 3 → shade (vertex E k p) ≡ shade (vertex E k q) → p ≡ q
    differ p q h l e = elim (against (vertex E k p) (vertex E k q)) [
      | less a ↦ absurd (colours_proper E i k p q root (omega arith) (omega arith) a (vertex_below q l) e)
      | equal a ↦ named.apart k p q root (omega arith) (omega arith) a
      | more a ↦ absurd (colours_proper E i k q p root (omega arith) (omega arith) a (vertex_below p h) (sym e))
    ]

    started : Started three (largest_in m i) (colour_in m i) (corners_of (row_of m k))
    started =
        rw root_corners
        (started_same (largest_in m i) shade (colour_in m i) (sorted shade (given E k))
        (sorted_rising shade (given E k) (λ p q h l e. differ p q h l (rw (given_at E k p h, given_at E k q l) at e)) (largest_in m i) (λ p h. rw largest_is (colours_most E i (at (given E k) p))))
        (sorted_at (λ v. shade v ≡ colour_in m i v) shade (given E k) (λ p h. sym (colour_is (at (given E k) p) (given_below p h)))))

  -- no colour is over 63
  largest_small : largest_in m i ≤ 63
  largest_small = rw largest_is (elim (le_or_lt i 0) [
    | inl h ↦ let e : i ≡ 0 = omega arith in rw (e, largest_none) (omega arith)
    | inr h ↦ let (v, l, e) = colours_reached E i h in omega (arith, colours_at E i v l, small v l)
  ])

  -- the forest of a mesh with its colours (000, Definitions 1 and 2)
  pub coloured : Coloured (forest_of m t) (largest_in m i) (colour_in m i)
  coloured = record { small = largest_small; started = λ k h. rw (get_or-take t m.rows k no_row h) (started k h) }
