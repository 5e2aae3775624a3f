-- The call on sound tables: root by root into cleared lists, and the two tests for room.
use Rattle.std.proofs.Common.{Ok, Err, count_by}
use Rattle.std.specs.List.{range_with_len}
use mathlib.Core.Path.{◌≡◌, refl, sym, ap, ◌∙◌}
use mathlib.Core.List.{List, ◌++◌, map}
use mathlib.Core.Logic.{◌⊎◌, inl, inr}
use Prim.Native.Nat.{ℕ, ◌+◌, ◌≤◌, ◌<◌}
use native.Mathlib.Omega.{arith}
use lib.ListN.{length, set, replicate, length-append, length-replicate, length-map}
use lib.Seq.{sets, sets-eq, set_out}
use Rattle.tables.specs.Layout.{most_rows}
use Rattle.tables.specs.Mesh.{padded}
use Rattle.tables.specs.Report.{listed}
use Rattle.tables.specs.declared.refusal.Cause.TheVariants.{Room}
use Rattle.tables.specs.declared.refusal.Refusal.{Refusal}
use Rattle.tables.specs.Refusal.{refusal_at}
use Rattle.tables.proofs.laws.Parts.{drop_replicate}
use Rattle.opening.proofs.laws.Counting.{count_below}
use Rattle.leaves.specs.Listing.{level_of, level_in, tree_of, trees_below, listing}
use Rattle.leaves.specs.Lists.{reported, Refuses, Accepts, OnRoom, short, fits}
use Rattle.leaves.specs.Walk.{rows_of, rows_in, leaf_at, Stores, StoresOne, Rooted, Listable, Roomy, Listing}
use Rattle.leaves.proofs.laws.Counting.{count_range}
use Rattle.leaves.proofs.laws.Steps.{trees_none, trees_next, trees_grow, listing_rows, levels_rows}
use Rattle.leaves.proofs.laws.Walking.{stores_none, stores_both, stores_list_size, stores_levels_size}

pub put_nothing : (l : List ℕ) (i x : ℕ) → length l ≤ i → l ≡ set l i x
put_nothing l i x e = sym (set_out l i x e)

pub one_stored : {at k depth : ℕ} {l v l' v' : List ℕ} {d : ℕ} → l' ≡ set l at k → d ≡ level_of 3 depth → v' ≡ set v at d → StoresOne at k depth l v (at + 1) l' v'
one_stored e f g = record { list_is = e; levels_is = rw f at g; next = refl }

-- ---- the loop over the roots

module _ {w : List ℕ} {n : ℕ} (x : Listable w n) where
  all_low : length (trees_below (rows_in w) n) ≤ most_rows
  all_low = let h : length (listing (rows_of w n)) ≤ most_rows = omega (arith, x.size, count_below (leaf_at w) n, x.wooded.few) in rw (listing_rows w n x.blank) at h

  pub roots_start : {l v : List ℕ} → Listing w n 0 l v l v 0
  roots_start = record { within = omega arith; stored = rw (trees_none (rows_in w)) stores_none }

  module _ {k at : ℕ} {l₀ v₀ l v : List ℕ} (y : Listing w n k l₀ v₀ l v at) where
    pub roots_ready : k < n → Rooted w k at
    roots_ready h = record {
      rows = n;
      wooded = x.wooded;
      there = h;
      top = x.top k h;
      room = omega (arith, all_low, trees_grow (rows_in w) (k + 1) n (omega arith), more, y.stored.next);
    }
      where
        more : length (trees_below (rows_in w) (k + 1)) ≡ length (trees_below (rows_in w) k) + length (tree_of (rows_in w) k)
        more = rw (trees_next (rows_in w) k) (length-append (trees_below (rows_in w) k) (tree_of (rows_in w) k))

    pub roots_next : k < n → {e : ℕ} {l' v' : List ℕ} → Stores w (tree_of (rows_in w) k) at l v e l' v' → Listing w n (k + 1) l₀ v₀ l' v' e
    roots_next h o = record { within = omega arith; stored = rw (trees_next (rows_in w) k) (stores_both y.stored o) }

    pub roots_all : n ≤ k → Stores w (trees_below (rows_in w) n) 0 l₀ v₀ at l v
    roots_all h = let e : k ≡ n = omega (arith, y.within) in rw (← e) y.stored

pub roots_list_size : {w : List ℕ} {n k at : ℕ} {l₀ v₀ l v : List ℕ} → Listing w n k l₀ v₀ l v at → length l ≡ length l₀
roots_list_size y = stores_list_size y.stored

pub roots_levels_size : {w : List ℕ} {n k at : ℕ} {l₀ v₀ l v : List ℕ} → Listing w n k l₀ v₀ l v at → length v ≡ length v₀
roots_levels_size y = stores_levels_size y.stored

pub ruleset rooted = (roots_start, roots_ready, roots_next, roots_all, roots_list_size, roots_levels_size)

-- ---- into cleared lists

pub sets_cleared : (n : ℕ) (a : List ℕ) → length a ≤ n → sets (replicate n 0) 0 a ≡ padded n 0 a
sets_cleared n a h =
    let e : 0 + length a ≡ length a = omega arith in
    rw e at (sets-eq a (replicate n 0) 0 (rw (length-replicate {A = ℕ} n 0) (omega arith))) ∙ ap (λ (r : List ℕ). a ++ r) (drop_replicate 0 (length a) n h)

module _ {w : List ℕ} {n : ℕ} {l v : List ℕ} (x : Roomy w n l v) {l₁ v₁ : List ℕ} (el : l₁ ≡ replicate (length l) 0) (ev : v₁ ≡ replicate (length v) 0) where
  pub filled : {e : ℕ} {l' v' : List ℕ} → Stores w (trees_below (rows_in w) n) 0 l₁ v₁ e l' v' → Accepts (rows_of w n) l v (Ok e) l' v'
  filled {e} o =
      let same = listing_rows w n x.listable.blank in
      let a : List ℕ = listing (rows_of w n) in
      let size : e ≡ length a = rw (← same) at o.next ∙ omega arith in
      record {
        answers = ap Ok size;
        reports = ap listed size;
        list_is = rw (el, ← same) at o.list_is ∙ sets_cleared (length l) a x.list_fits;
        levels_is = rw (ev, ← same, ← levels_rows w n x.listable.blank a) at o.levels_is ∙ sets_cleared (length v) (map (level_in (rows_of w n)) a) (rw (length-map a (level_in (rows_of w n))) x.levels_fit);
      }

-- ---- the tests for room

module _ {w : List ℕ} {n : ℕ} (x : Listable w n) {size : ℕ} (e : size ≡ count_by (leaf_at w) (range_with_len 0 n)) (l v : List ℕ) where
  is_size : length (listing (rows_of w n)) ≡ size
  is_size = x.size ∙ sym (e ∙ count_range (leaf_at w) n)

  refuses : {a : Refusal} → a ≡ refusal_at Room 0 → Refuses l v Room (Err a) l v
  refuses f = record { answers = ap Err f; reports = ap (λ (z : Refusal). reported (Err z)) f; list_same = refl; levels_same = refl }

  pub room_short : (length l < size) ⊎ ((size ≤ length l) × (length v < size)) → {a : Refusal} → a ≡ refusal_at Room 0 → OnRoom (rows_of w n) l v (Err a) l v
  room_short (inl h) f = short (inl (omega (arith, is_size, h))) (refuses f)
  room_short (inr h) f = short (inr (omega (arith, is_size, h.1))) (refuses f)

  module _ (h : size ≤ length l) (k : size ≤ length v) where
    pub room_enough : Roomy w n l v
    room_enough = record { listable = x; list_fits = omega (arith, is_size, h); levels_fit = omega (arith, is_size, k) }

    pub room_filled : {a : ℕ} {l' v' : List ℕ} → Accepts (rows_of w n) l v (Ok a) l' v' → OnRoom (rows_of w n) l v (Ok a) l' v'
    room_filled a = fits (λ s. elim s [ inl z ↦ omega (arith, room_enough.list_fits) | inr z ↦ omega (arith, room_enough.levels_fit) ]) a

pub ruleset rooming = (room_short, room_enough, room_filled)
