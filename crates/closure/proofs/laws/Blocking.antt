-- The search for the first listed leaf with another edge.
use mathlib.Core.Path.{◌≡◌, refl, sym, ◌∙◌}
use mathlib.Core.Bool.{Bool, true, false, not, cond}
use mathlib.Core.List.{List, [], ◌∷◌}
use Prim.Native.Nat.{ℕ, suc, ◌+◌, ◌-◌, ◌≤◌, ◌<◌}
use native.Mathlib.Omega.{arith}
use lib.ListN.{length, get_or, take, drop, length-drop}
use lib.Seq.{length-take-le}
use Rattle.std.proofs.Common.{Option, Some, find}
use Rattle.std.proofs.lemmas.List.{get_or-take, get_or-drop, ext_get_or}
use Rattle.split.specs.declared.row.Ends.{Ends}
use Rattle.split.specs.Row.{edge_of}
use Rattle.tables.specs.Layout.{no_row, row_at}
use Rattle.tables.proofs.laws.View.{length_up_to, up_to_at}
use Rattle.run.specs.Run.{same_ends, other_in}
use Rattle.closure.specs.State.{rows_of, links_at, patch_in, Listed}

-- the patch is a part of the scratch table
patch_part : (s : List ℕ) (k : ℕ) → links_at + k ≤ length s → take k (drop (length s - (links_at + k)) s) ≡ patch_in s k
patch_part s k h =
    ext_get_or 0 (take k (drop (length s - (links_at + k)) s)) (patch_in s k) (long ∙ sym (length_up_to listed k))
    (λ j l. let h : j < k = omega (arith, l, long) in get_or-take k (drop (length s - (links_at + k)) s) j 0 h ∙ get_or-drop (length s - (links_at + k)) s j 0 ∙ sym (up_to_at listed k j 0 h))
  where
    listed : ℕ → ℕ
    listed j = get_or s (length s - (links_at + k) + j) 0

    long : length (take k (drop (length s - (links_at + k)) s)) ≡ k
    long = length-take-le k (drop (length s - (links_at + k)) s) (omega (arith, h, length-drop (length s - (links_at + k)) s))

-- among rows of the mesh it is the one that closure asks for
find_other : (w : List ℕ) (n : ℕ) (e : Ends) (l : List ℕ) → ((j : ℕ) → j < length l → get_or l j 0 < n) → find (λ r. not (same_ends (edge_of (row_at w r)) e)) l ≡ other_in (rows_of w n) e l
unfolding other_in
find_other w n e [] h = refl
find_other w n e (r ∷ l) h = rw (up_to_at (row_at w) n r no_row (h 0 (omega arith)), ← find_other w n e l (λ j k. h (suc j) (omega arith))) (turned (same_ends (edge_of (row_at w r)) e) (Some r) (find (λ r. not (same_ends (edge_of (row_at w r)) e)) l))
  where
    turned : (b : Bool) (x y : Option ℕ) → cond (not b) x y ≡ cond b y x
    turned true x y = refl
    turned false x y = refl

module _ (w s : List ℕ) (n k : ℕ) (e : Ends) (l : Listed s n k) where
  -- the code asks the part of the scratch table
  pub first_listed : {o : Option ℕ} → o ≡ find (λ r. not (same_ends (edge_of (row_at w r)) e)) (take (length s - (links_at + k) + k - (length s - (links_at + k))) (drop (length s - (links_at + k)) s)) → o ≡ other_in (rows_of w n) e (patch_in s k)
  first_listed p =
      let all : length s - (links_at + k) + k - (length s - (links_at + k)) ≡ k = omega arith in
      p ∙ rw (all, patch_part s k l.size) (find_other w n e (patch_in s k) (λ j h. within j (omega (arith, h, length_up_to listed k))))
    where
      listed : ℕ → ℕ
      listed j = get_or s (length s - (links_at + k) + j) 0

      within : (j : ℕ) → j < k → get_or (patch_in s k) j 0 < n
      within j h = rw (up_to_at listed k j 0 h) (l.listed j h)
