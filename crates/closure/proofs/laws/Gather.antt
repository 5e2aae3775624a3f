-- The walk along the corners of one end: the rows behind it that are in the patch are listed.
use mathlib.Core.Path.{◌≡◌, refl, sym, ap, ◌∙◌}
use mathlib.Core.Bool.{Bool, true, false, cond}
use mathlib.Core.List.{List, ◌∷◌}
use Prim.Native.Nat.{ℕ, zero, suc, ◌+◌, ◌-◌, ◌*◌, ◌/◌, ◌%◌, ◌≤◌, ◌<◌}
use native.Mathlib.Omega.{arith}
use native.Mathlib.Numerals.{add-one}
use lib.ListN.{length, get_or, set, length-set}
use lib.Seq.{ext_get_or, get_or-set_same, get_or-set_other}
use borrow.Author.Rules.{rules}
use Rattle.split.specs.declared.row.Row.{Row}
use Rattle.split.specs.declared.row.Ends.{Ends}
use Rattle.split.specs.Split.{at, Holds}
use Rattle.split.specs.Row.{corners_of}
use Rattle.chain.specs.Chain.{latest, Indexed}
use Rattle.chain.proofs.laws.Index.{next_link}
use Rattle.chain.proofs.laws.Walk.{latest_between, latest_below, latest_miss, latest_some}
use Rattle.tables.specs.Layout.{no_row, row_at, most_rows}
use Rattle.tables.specs.Mesh.{up_to}
use Rattle.tables.proofs.laws.View.{length_up_to, up_to_at}
use Rattle.opening.proofs.laws.Indexing.{indexed_kept}
use Rattle.closure.specs.State.{corner, rows_of, links_at, patch_in, EndOf, small, large, other_end, leaf_with, Gatherable, Gathers}
use Rattle.run.specs.Skeleton.{row_in}
use Rattle.run.specs.Run.{holding, holders_from}
use Rattle.run.proofs.laws.Holders.{Holding, holding_is, holds_has, from_hit, from_miss}
use Rattle.closure.proofs.laws.Index.{corner_row, state_holds}
use Rattle.closure.proofs.laws.Tests.{holding_other}

-- ---- the list in the scratch table

module _ (s : List ℕ) (k q : ℕ) where
  abbrev place : ℕ
  place = length s - (links_at + (k + 1))

  -- the numbers from that place on, once q stands there
  abbrev put : ℕ → ℕ
  put j = get_or (set s place q) (place + j) 0

  patch_cons : links_at + k < length s → patch_in (set s place q) (k + 1) ≡ q ∷ patch_in s k
  patch_cons h =
      ap (λ (m : ℕ). up_to (λ (j : ℕ). get_or (set s place q) (m - (links_at + (k + 1)) + j) 0) (k + 1)) (length-set s place q)
      ∙ ext_get_or 0 _ _ (length_up_to _ (k + 1) ∙ add-one k ∙ ap suc (sym (length_up_to _ k))) (λ i l. go i (omega (arith, length_up_to put (k + 1), l)))
    where
      go : (i : ℕ) → i < k + 1 → get_or (up_to put (k + 1)) i 0 ≡ get_or (q ∷ patch_in s k) i 0
      go zero l =
          let first : place + 0 ≡ place = omega arith in
          up_to_at put (k + 1) 0 0 l ∙ rw first (get_or-set_same s place q 0 (omega arith))
      go (suc i) l =
          let next : place + suc i ≡ length s - (links_at + k) + i = omega arith in
          up_to_at put (k + 1) (suc i) 0 l
          ∙ rw next (get_or-set_other s place (length s - (links_at + k) + i) q 0 (λ e. omega arith))
          ∙ sym (up_to_at (λ (j : ℕ). get_or s (length s - (links_at + k) + j) 0) k i 0 (omega arith))

-- ---- rows that are not in the patch

-- none of m rows is in the patch
skip : (W : List Row) (e : Ends) (m d r : ℕ) → ((q : ℕ) → r ≤ q → q < r + m → holding e (row_in W q) ≡ false) → holders_from W e (m + d) r ≡ holders_from W e d (r + m)
skip W e zero d r h = λ j. holders_from W e (left j) (right j)
  where
    left : 0 + d ≡ d
    left = omega arith

    right : r ≡ r + 0
    right = omega arith
skip W e (suc m) d r h =
    ap (λ (x : ℕ). holders_from W e x r) more ∙ from_miss W e (m + d) r (h r (omega arith) (omega arith)) ∙ skip W e m d (suc r) (λ q a b. h q (omega arith) (omega arith)) ∙ ap (holders_from W e d) step
  where
    more : suc m + d ≡ suc (m + d)
    more = omega arith

    step : suc r + m ≡ r + suc m
    step = omega arith

false_of : (b : Bool) → (b ≡ true → ⊥) → b ≡ false
false_of true h = absurd (h refl)
false_of false h = refl

end_held : {e : Ends} {a : ℕ} {r : Row} → EndOf e a → Holding e r → Holds 3 (corners_of r) a
end_held (small x) h = rw x h.small
end_held (large x) h = rw x h.large

-- ---- the walk

-- the first row that the walk has behind it: `at` is one more than the next slot, or 0 where there is none
abbrev pub behind : ℕ → ℕ
behind i = (i + 3) / 4

pub record Walk (w s₀ s : List ℕ) (n : ℕ) (e : Ends) (a i k : ℕ) : Type 0 where
  pub size : length s ≡ length s₀
  pub index : Indexed (corner w) (4 * n) links_at s
  pub below : i ≤ 4 * n
  pub here : 0 < i → corner w (i - 1) ≡ a
  pub few : k ≤ n - behind i
  pub patch : patch_in s k ≡ holders_from (rows_of w n) e (n - behind i) (behind i)

module _ {w s₀ : List ℕ} {n : ℕ} {e : Ends} {a : ℕ} (g : Gatherable w s₀ n e a) where
  row_is : (q : ℕ) → q < n → row_in (rows_of w n) q ≡ row_at w q
  row_is q h = up_to_at (row_at w) n q no_row h

  -- a row of the patch has a slot of a
  missed : (q : ℕ) → q < n → ((p : ℕ) → p ≤ 3 → corner w (4 * q + p) ≡ a → ⊥) → holding e (row_in (rows_of w n) q) ≡ false
  missed q h d = false_of _ (λ t. let k = end_held g.end (holding_is e (row_in (rows_of w n) q) t) in d k.place k.inside (corner_row w q k.place k.inside ∙ ap (λ (r : Row). at (corners_of r) k.place) (sym (row_is q h)) ∙ k.is))

  -- rows whose slots are all between the latest slot of a and slot m
  gap : (m q : ℕ) → m ≤ 4 * n → latest (corner w) a m ≤ 4 * q → 4 * q + 4 ≤ m → holding e (row_in (rows_of w n) q) ≡ false
  gap m q h l k = missed q (omega arith) (λ p b. latest_between (corner w) a m (4 * q + p) (omega arith) (omega arith))

  -- the rows from the latest slot of a below m on, where the rows before slot m are looked at in whole
  leap : (m d : ℕ) → 4 * m ≤ 4 * n → m + d ≡ n → holders_from (rows_of w n) e (n - behind (latest (corner w) a (4 * m))) (behind (latest (corner w) a (4 * m))) ≡ holders_from (rows_of w n) e d m
  leap m d h f =
      let i = latest (corner w) a (4 * m) in
      let low = latest_below (corner w) a (4 * m) in
      let start : n - behind i ≡ (m - behind i) + d = omega arith in
      let end : behind i + (m - behind i) ≡ m = omega arith in
      ap (λ (x : ℕ). holders_from (rows_of w n) e x (behind i)) start
      ∙ skip (rows_of w n) e (m - behind i) d (behind i) (λ q x y. gap (4 * m) q h (omega arith) (omega arith))
      ∙ ap (holders_from (rows_of w n) e d) end

  -- the slots of one row are different vertices
  alone : (q p r : ℕ) → q < n → p ≤ 3 → r ≤ 3 → corner w (4 * q + p) ≡ a → corner w (4 * q + r) ≡ a → p ≡ r
  alone q p r h x y b c = (g.distinct q h).apart p r x y (sym (corner_row w q p x) ∙ b ∙ sym c ∙ corner_row w q r y)

  -- so the latest slot of a before one of them is before its row
  latest_row : (q p r : ℕ) → q < n → r ≤ p → p ≤ 3 → corner w (4 * q + p) ≡ a → latest (corner w) a (4 * q + r) ≡ latest (corner w) a (4 * q)
  latest_row q p zero h l k b = let none : 4 * q + 0 ≡ 4 * q = omega arith in ap (latest (corner w) a) none
  latest_row q p (suc r) h l k b =
      let next : 4 * q + suc r ≡ suc (4 * q + r) = omega arith in
      ap (latest (corner w) a) next ∙ latest_miss (corner w) a (4 * q + r) (λ c. let z = alone q p r h k (omega arith) b c in omega arith) ∙ latest_row q p r h (omega arith) k b

  pub walk_start : {i x : ℕ} → x ≡ a → i ≡ get_or s₀ x 0 → Walk w s₀ s₀ n e a i 0
  unfolding holders_from up_to
  walk_start {i} q f =
      let head : i ≡ latest (corner w) a (4 * n) = f ∙ ap (λ (y : ℕ). get_or s₀ y 0) q ∙ g.state.index.heads a g.low in
      record {
        size = refl;
        index = g.state.index;
        below = omega (arith, head, latest_below (corner w) a (4 * n));
        here = λ l. (latest_some (corner w) a (4 * n) (i - 1) (omega (arith, head))).1;
        few = omega arith;
        patch = rw head (sym (leap n 0 (omega arith) (omega arith)));
      }

  -- one slot further
  module _ {s : List ℕ} {i k : ℕ} (x : Walk w s₀ s n e a i k) (more : 0 < i) where
    abbrev q : ℕ
    q = (i - 1) / 4

    row_there : q < n
    row_there = omega (arith, x.below)

    pub walk_room : k < most_rows
    walk_room = omega (arith, x.few, x.below, g.state.few)

    holds : 40000 + 5 * n ≤ length s
    holds = rw x.size (state_holds g.state)

    pub walk_fits : links_at + k < length s
    walk_fits = omega (arith, x.few, x.below, holds)

    -- what is listed after row q was looked at
    listed : (b : Bool) → holding e (row_in (rows_of w n) q) ≡ b → patch_in (cond b (set s (length s - (links_at + (k + 1))) q) s) (cond b (k + 1) k) ≡ holders_from (rows_of w n) e (n - q) q
    listed b t =
        let size : n - q ≡ suc (n - behind i) = omega (arith, row_there, more) in
        let next : suc q ≡ behind i = omega (arith, more) in
        rw size (go b t next)
      where
        go : (b : Bool) → holding e (row_in (rows_of w n) q) ≡ b → suc q ≡ behind i → patch_in (cond b (set s (length s - (links_at + (k + 1))) q) s) (cond b (k + 1) k) ≡ holders_from (rows_of w n) e (suc (n - behind i)) q
        go true t f = patch_cons s k q walk_fits ∙ ap (λ (l : List ℕ). q ∷ l) (x.patch ∙ ap (holders_from (rows_of w n) e (n - behind i)) (sym f)) ∙ sym (from_hit (rows_of w n) e (n - behind i) q t)
        go false t f = x.patch ∙ ap (holders_from (rows_of w n) e (n - behind i)) (sym f) ∙ sym (from_miss (rows_of w n) e (n - behind i) q t)

    indexed : (b : Bool) → Indexed (corner w) (4 * n) links_at (cond b (set s (length s - (links_at + (k + 1))) q) s)
    indexed true = indexed_kept (length-set s _ q) (λ j h. get_or-set_other s (length s - (links_at + (k + 1))) j q 0 (λ z. omega (arith, x.few, x.below, holds))) x.index
    indexed false = x.index

    sized : (b : Bool) → length (cond b (set s (length s - (links_at + (k + 1))) q) s) ≡ length s₀
    sized true = length-set s _ q ∙ x.size
    sized false = x.size

    counted : (b : Bool) → cond b (k + 1) k ≤ k + 1
    counted true = omega arith
    counted false = omega arith

    slot : 4 * q + (i - 1) % 4 ≡ i - 1
    slot = omega arith

    -- the row of the slot holds a, so what was asked of it is whether it is in the patch
    same_row_lem : {b : ℕ} → b ≡ other_end e a → leaf_with b (row_at w q) ≡ holding e (row_at w q)
    same_row_lem f = rw f (holding_other (row_at w q) g.end (holds_has (row_at w q) a (record { place = (i - 1) % 4; inside = omega arith; is = x.here more })))

    module _ {b : ℕ} (eb : b ≡ other_end e a) {s' : List ℕ} {k' next : ℕ} (kept : k' ≡ cond (leaf_with b (row_at w q)) (k + 1) k) (stored : s' ≡ cond (leaf_with b (row_at w q)) (set s (length s - (links_at + (k + 1))) q) s) (en : next ≡ get_or s' (links_at + (i - 1)) 0) where
      ek : k' ≡ cond (holding e (row_at w q)) (k + 1) k
      ek = kept ∙ ap (λ (t : Bool). cond t (k + 1) k) (same_row_lem eb)

      es : s' ≡ cond (holding e (row_at w q)) (set s (length s - (links_at + (k + 1))) q) s
      es = stored ∙ ap (λ (t : Bool). cond t (set s (length s - (links_at + (k + 1))) q) s) (same_row_lem eb)

      link : next ≡ latest (corner w) a (4 * q)
      link =
          en ∙ rw es (next_link (indexed (holding e (row_at w q))) (omega (arith, x.below)) (x.here more))
          ∙ ap (latest (corner w) a) (sym slot)
          ∙ latest_row q ((i - 1) % 4) ((i - 1) % 4) row_there (omega arith) (omega arith) (rw slot (x.here more))

      low : next ≤ 4 * q
      low = omega (arith, link, latest_below (corner w) a (4 * q))

      pub walk_less : next < i
      walk_less = omega (arith, low, more)

      pub walk_next : Walk w s₀ s' n e a next k'
      walk_next = rw (ek, es) (record {
        size = sized (holding e (row_at w q));
        index = indexed (holding e (row_at w q));
        below = omega (arith, low, row_there);
        here = λ l. (latest_some (corner w) a (4 * q) (next - 1) (omega (arith, link))).1;
        few = omega (arith, counted (holding e (row_at w q)), low, x.few, more, row_there);
        patch = listed (holding e (row_at w q)) (ap (holding e) (row_is q row_there)) ∙ sym (rw (← link) at (leap q (n - q) (omega (arith, row_there)) (omega (arith, row_there))));
      })

  pub walk_end : {s : List ℕ} {i k : ℕ} → Walk w s₀ s n e a i k → i ≤ 0 → Gathers w n e k s
  walk_end {s} {i} {k} x h =
      let first : behind i ≡ 0 = omega arith in
      let all : n - behind i ≡ length (rows_of w n) = omega (arith, length_up_to (row_at w) n) in
      record {
        state = record { size = rw x.size g.state.size; index = x.index; few = g.state.few; fits = g.state.fits; low = g.state.low; blank = g.state.blank };
        patch = x.patch ∙ ap (λ (d : ℕ). holders_from (rows_of w n) e d (behind i)) all ∙ ap (holders_from (rows_of w n) e (length (rows_of w n))) first;
        size = omega (arith, x.few);
      }

pub ruleset walking = (walk_start, walk_room, walk_fits, walk_less, walk_next, walk_end, rules)
