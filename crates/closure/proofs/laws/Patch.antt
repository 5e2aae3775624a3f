-- The split of a patch, leaf by leaf.
use mathlib.Core.Path.{◌≡◌, refl, sym, ap, ◌∙◌}
use mathlib.Core.List.{List, [], ◌∷◌}
use Prim.Native.Nat.{ℕ, suc, ◌+◌, ◌-◌, ◌*◌, ◌≤◌, ◌<◌}
use native.Mathlib.Omega.{arith}
use native.Mathlib.Numerals.{add-one}
use lib.ListN.{length, get_or, drop}
use lib.Seq.{drop-cons, drop-length}
use Rattle.tables.proofs.laws.View.{length_up_to, up_to_at}
use Rattle.run.specs.Run.{cut_all}
use Rattle.closure.proofs.laws.Index.{scratch_holds}
use Rattle.closure.specs.State.{rows_of, links_at, patch_in, State, Splittable, Halves, Patchable, Parted}

-- the list in the scratch table, by place
pub patch_at : (s : List ℕ) (k j : ℕ) → j < k → drop j (patch_in s k) ≡ get_or s (length s - (links_at + k) + j) 0 ∷ drop (suc j) (patch_in s k)
patch_at s k j h =
    drop-cons (patch_in s k) j 0 (rw (length_up_to (λ (i : ℕ). get_or s (length s - (links_at + k) + i) 0) k) h) ∙ rw (up_to_at (λ (i : ℕ). get_or s (length s - (links_at + k) + i) 0) k j 0 h)

pub patch_end : (s : List ℕ) (k : ℕ) → drop k (patch_in s k) ≡ []
patch_end s k = ap (λ (i : ℕ). drop i (patch_in s k)) (sym (length_up_to (λ (i : ℕ). get_or s (length s - (links_at + k) + i) 0) k)) ∙ drop-length (patch_in s k)

-- the first j leaves are split
pub record Turn (w s : List ℕ) (n k v : ℕ) (w' s' : List ℕ) (j : ℕ) : Type 0 where
  pub within : j ≤ k
  pub size : length w' ≡ length w
  pub state : State w' s' (n + 2 * j)
  pub rows : cut_all v (rows_of w' (n + 2 * j)) (drop j (patch_in s k)) ≡ cut_all v (rows_of w n) (patch_in s k)
  pub scratch_size : length s' ≡ length s
  pub patch : (i : ℕ) → links_at + 4 * (n + 2 * k) ≤ i → links_at + i < length s → get_or s' i 0 ≡ get_or s i 0

module _ {w s : List ℕ} {n k v : ℕ} (p : Patchable w s n k v) where
  pub turn_start : Turn w s n k v w s 0
  turn_start =
      let none : n + 2 * 0 ≡ n = omega arith in
      record { within = omega arith; size = refl; state = rw none p.state; rows = rw none; scratch_size = refl; patch = λ i l h. refl }

  holds : 40000 + 5 * (n + 2 * k) ≤ length s
  holds = scratch_holds (length w) (length s) (n + 2 * k) p.state.size p.few p.room

  module _ {w' s' : List ℕ} {j leaf : ℕ} (t : Turn w s n k v w' s' j) (h : j < k) (e : leaf ≡ get_or s' (length s - (links_at + k) + j) 0) where
    leaf_is : leaf ≡ get_or s (length s - (links_at + k) + j) 0
    leaf_is = e ∙ t.patch (length s - (links_at + k) + j) (omega (arith, holds, p.size)) (omega (arith, p.size))

    pub turn_ready : Splittable w' s' (n + 2 * j) leaf v
    turn_ready = record {
      state = t.state;
      there = omega (arith, leaf_is, p.listed j h);
      room = rw t.size (omega (arith, p.room));
      few = omega (arith, p.few);
      low = p.low;
    }

    pub turn_next : {x y : List ℕ} → Halves w' s' (n + 2 * j) leaf v x y → Turn w s n k v x y (j + 1)
    unfolding cut_all
    turn_next a =
        let two : n + 2 * j + 2 ≡ n + 2 * (j + 1) = omega arith in
        let next : drop j (patch_in s k) ≡ leaf ∷ drop (j + 1) (patch_in s k) = patch_at s k j h ∙ rw (← leaf_is, ← add-one j) in
        record {
          within = omega arith;
          size = a.size ∙ t.size;
          state = rw two at a.state;
          rows = rw (← two, a.rows) (rw next at t.rows);
          scratch_size = a.scratch_size ∙ t.scratch_size;
          patch = λ i l b. a.patch i (omega arith) (rw t.scratch_size b) ∙ t.patch i l b;
        }

  pub turn_end : {w' s' : List ℕ} {j : ℕ} → Turn w s n k v w' s' j → k ≤ j → Parted w s n k v w' s'
  unfolding cut_all
  turn_end {w'} t h =
      done (rw (last_is t h) at t) (patch_end s k)
    where
      last_is : {w' s' : List ℕ} {j : ℕ} → Turn w s n k v w' s' j → k ≤ j → j ≡ k
      last_is t h = omega (arith, t.within, h)

      done : {w' s' : List ℕ} → Turn w s n k v w' s' k → drop k (patch_in s k) ≡ [] → Parted w s n k v w' s'
      done t e = record { size = t.size; state = t.state; rows = rw e at t.rows }
