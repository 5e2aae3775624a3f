-- The index while rows are appended and first children are set.
use mathlib.Core.Path.{◌≡◌, refl, sym, ap, ◌∙◌}
use mathlib.Core.List.{List, [], ◌∷◌, append_assoc}
use mathlib.Core.Logic.{inl, inr}
use Prim.Native.Nat.{ℕ, ◌+◌, ◌-◌, ◌*◌, ◌/◌, ◌%◌, ◌≤◌, ◌<◌}
use native.Mathlib.Decide.{ℕ_discrete}
use native.Mathlib.Omega.{arith}
use lib.ListN.{length, set}
use borrow.Author.Rules.{rules}
use Rattle.split.specs.declared.row.Row.{Row}
use Rattle.split.specs.Split.{Side, left, right, Corners, at}
use Rattle.split.specs.Row.{corners_of, tag_of, with_child, first_of, second_of, child_of}
use Rattle.split.proofs.laws.Places.{le_or_lt}
use Rattle.split.proofs.laws.Tags.{tag_range}
use Rattle.split.proofs.laws.Children.{from_parent}
use Rattle.split.proofs.laws.Rows.{vertices_step}
use Rattle.chain.specs.Chain.{Indexed}
use Rattle.chain.proofs.laws.Index.{indexed_same}
use Rattle.tables.specs.Layout.{row_width, no_row, row_at, put_row, most_rows}
use Rattle.tables.proofs.laws.Rows.{length_put_row, row_put}
use Rattle.tables.proofs.laws.View.{length_up_to, up_to_at}
use Rattle.closure.specs.State.{corner, rows_of, links_at, scratch_for, row_pushed, State, Splittable, Halves}
use Rattle.run.specs.Run.{cut}
use Rattle.closure.proofs.laws.Uses.{row_pushed_length, row_pushed_between, row_pushed_indexed}
use Rattle.closure.proofs.laws.Rows.{row_other, rows_next, rows_set}

-- the vertices of the row are below n
abbrev pub Under : ℕ → Row → Type 0
Under n r = (p : ℕ) → p ≤ 3 → at (corners_of r) p < n

pub corner_row : (w : List ℕ) (n q : ℕ) → q ≤ 3 → corner w (4 * n + q) ≡ at (corners_of (row_at w n)) q
corner_row w n q h =
    let row : (4 * n + q) / 4 ≡ n = omega arith in
    let place : (4 * n + q) % 4 ≡ q = omega arith in
    λ j. at (corners_of (row_at w (row j))) (place j)

-- a slot is a place of a row
slot_is : (k : ℕ) → k ≡ 4 * (k / 4) + k % 4
slot_is k = omega arith

-- links and patch of n rows, heads and uses
pub scratch_holds : (w s n : ℕ) → scratch_for w ≤ s → n ≤ most_rows → n ≤ w / row_width → 40000 + 5 * n ≤ s
unfolding scratch_for
scratch_holds w s n h few fits = omega arith

pub state_holds : {w s : List ℕ} {n : ℕ} → State w s n → 40000 + 5 * n ≤ length s
state_holds {w} {s} {n} x = scratch_holds (length w) (length s) n x.size x.few x.fits

pub state_under : {w s : List ℕ} {n : ℕ} → State w s n → (r : ℕ) → r < n → Under links_at (row_at w r)
state_under {w} x r h p l = rw (← corner_row w r p l) (x.low (4 * r + p) (omega arith))

-- ---- one row appended

module _ (w s : List ℕ) (n : ℕ) (r : Row) where
  module _ (x : State w s n) (room : n < length w / row_width) (few : n < most_rows) (under : Under links_at r) where
    abbrev w' : List ℕ
    w' = put_row w n r

    corner_old : (k : ℕ) → k < 4 * n → corner w' k ≡ corner w k
    corner_old k h = ap (λ (q : Row). at (corners_of q) (k % 4)) (row_other w n r room (k / 4) (λ e. omega arith))

    corner_new : (q : ℕ) → q ≤ 3 → corner w' (4 * n + q) ≡ at (corners_of r) q
    corner_new q h = corner_row w' n q h ∙ ap (λ (x : Row). at (corners_of x) q) (row_put w n r room)

    holds : 40000 + 5 * (n + 1) ≤ length s
    holds = scratch_holds (length w) (length s) (n + 1) x.size (omega arith) (omega arith)

    rows_indexed : Indexed (corner w') (4 * (n + 1)) links_at (row_pushed s n r)
    rows_indexed = row_pushed_indexed s n r corner_new under (omega (arith, holds)) few (indexed_same (λ k h. sym (corner_old k h)) x.index)

    pub state_appended : State w' (row_pushed s n r) (n + 1)
    state_appended = record {
      size = rw (length_put_row w n r, row_pushed_length s n r) x.size;
      index = rows_indexed;
      few = omega arith;
      fits = rw (length_put_row w n r) (omega arith);
      low = λ k h. elim (le_or_lt (4 * n) k) [
        | inr l ↦ rw (corner_old k l) (x.low k l)
        | inl l ↦ let q : k ≡ 4 * n + (k - 4 * n) = omega arith in rw (q, corner_new (k - 4 * n) (omega arith)) (under (k - 4 * n) (omega arith))
      ];
      blank = λ k h. row_other w n r room k (λ e. omega arith) ∙ x.blank k (omega arith);
    }

-- ---- a first child set

module _ {w s : List ℕ} {n : ℕ} (x : State w s n) (q c : ℕ) (h : q < n) where
  abbrev parent : Row
  parent = with_child (row_at w q) c

  child_corners : (k : ℕ) → corners_of (row_at (put_row w q parent) k) ≡ corners_of (row_at w k)
  child_corners k = elim (ℕ_discrete k q) [
    | yes e ↦ rw e (ap corners_of (row_put w q parent (omega (arith, x.fits))))
    | no d ↦ ap corners_of (row_other w q parent (omega (arith, x.fits)) k d)
  ]

  child_corner : (k : ℕ) → corner (put_row w q parent) k ≡ corner w k
  child_corner k = ap (λ (y : Corners ℕ). at y (k % 4)) (child_corners (k / 4))

  pub state_child : State (put_row w q parent) s n
  state_child = record {
    size = rw (length_put_row w q parent) x.size;
    index = indexed_same (λ k l. sym (child_corner k)) x.index;
    few = x.few;
    fits = rw (length_put_row w q parent) x.fits;
    low = λ k l. rw (child_corner k) (x.low k l);
    blank = λ k l. row_other w q parent (omega (arith, x.fits)) k (λ e. omega arith) ∙ x.blank k l;
  }

-- ---- one leaf split

-- the vertices of a child are the parent's or the midpoint
child_under : (x : Side) (r : Row) (own v n : ℕ) → Under n r → v < n → Under n (child_of x r own v)
child_under x r own v n u h p l =
    elim (from_parent 3 (corners_of r) v x (tag_of r) (tag_range (tag_of r)).1 (omega arith) (record { place = p; inside = l; is = ap (λ (c : Corners ℕ). at c p) (sym (vertices_step x r own v)) }))
    [ inl e ↦ omega (arith, e, h) | inr o ↦ rw (← o.is) (u o.place o.inside) ]

module _ {w s : List ℕ} {n leaf v : ℕ} (z : Splittable w s n leaf v) where
  abbrev x : State w s n
  x = z.state

  abbrev h : leaf < n
  h = z.there

  abbrev r : Row
  r = row_at w leaf

  abbrev w1 : List ℕ
  w1 = put_row w leaf (with_child r n)

  abbrev w2 : List ℕ
  w2 = put_row w1 n (first_of r leaf v)

  abbrev w3 : List ℕ
  w3 = put_row w2 (n + 1) (second_of r leaf v)

  length_one : length w1 ≡ length w
  length_one = length_put_row w leaf (with_child r n)

  length_two : length w2 ≡ length w
  length_two = length_put_row w1 n (first_of r leaf v) ∙ length_one

  room_one : n < length w1 / row_width
  room_one = rw length_one (omega (arith, z.room))

  room_two : n + 1 < length w2 / row_width
  room_two = rw length_two (omega (arith, z.room))

  first_state : State w2 (row_pushed s n (first_of r leaf v)) (n + 1)
  first_state = state_appended w1 s n (first_of r leaf v) (state_child x leaf n h) room_one (omega (arith, z.few)) (child_under left r leaf v links_at (state_under x leaf h) z.low)

  second_state : State w3 (row_pushed (row_pushed s n (first_of r leaf v)) (n + 1) (second_of r leaf v)) (n + 1 + 1)
  second_state = state_appended w2 (row_pushed s n (first_of r leaf v)) (n + 1) (second_of r leaf v) first_state room_two (omega (arith, z.few)) (child_under right r leaf v links_at (state_under x leaf h) z.low)

  -- both children have their places
  pub halves_room : 2 * links_at + 4 * (n + 1) + 3 < length s
  halves_room = omega (arith, scratch_holds (length w) (length s) (n + 2) x.size z.few z.room)

  rows_cut : rows_of w3 (n + 1 + 1) ≡ cut v (rows_of w n) leaf
  unfolding cut
  rows_cut =
      rows_next w2 (n + 1) (second_of r leaf v) room_two
      ∙ rw (rows_next w1 n (first_of r leaf v) room_one, rows_set w n leaf (with_child r n) h x.fits, length_up_to (row_at w) n, up_to_at (row_at w) n leaf no_row h)
      (append_assoc (set (rows_of w n) leaf (with_child r n)) (first_of r leaf v ∷ []) (second_of r leaf v ∷ []))

  first_length : length (row_pushed s n (first_of r leaf v)) ≡ length s
  first_length = row_pushed_length s n (first_of r leaf v)

  pub halves : Halves w s n leaf v w3 (row_pushed (row_pushed s n (first_of r leaf v)) (n + 1) (second_of r leaf v))
  halves =
      let two : n + 1 + 1 ≡ n + 2 = omega arith in
      record {
        size = length_put_row w2 (n + 1) (second_of r leaf v) ∙ length_two;
        state = rw two at second_state;
        rows = rw two at rows_cut;
        scratch_size = row_pushed_length (row_pushed s n (first_of r leaf v)) (n + 1) (second_of r leaf v) ∙ first_length;
        patch = λ j l h. row_pushed_between (row_pushed s n (first_of r leaf v)) (n + 1) (second_of r leaf v) first_length j (omega arith) h ∙ row_pushed_between s n (first_of r leaf v) refl j (omega arith) h;
      }

  -- the same of tables that are known by what was written to them
  pub halved : {held : Row} {a w' s' : List ℕ} → held ≡ r → a ≡ w1 → w' ≡ put_row (put_row a n (first_of held leaf v)) (n + 1) (second_of held leaf v) → s' ≡ row_pushed (row_pushed s n (first_of held leaf v)) (n + 1) (second_of held leaf v) → Halves w s n leaf v w' s'
  halved b d e f = rw (e, f, b, d) halves

pub ruleset halving = (halves_room, halved, rules)
