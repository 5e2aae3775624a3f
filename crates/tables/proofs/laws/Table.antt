-- A table of things that are w numbers wide: what is read after a thing was put. Said once for rows, records and points.
use mathlib.Core.Path.{◌≡◌, sym, ap, ◌∙◌}
use mathlib.Core.Logic.{inl, inr}
use mathlib.Core.List.{List, ◌++◌, append_assoc}
use mathlib.Core.Bool.{cond}
use Prim.Native.Nat.{ℕ, ◌+◌, ◌*◌, ◌/◌, ◌≤◌, ◌<◌}
use native.Mathlib.Omega.{arith}
use borrow.Author.Tests.{lt-ltb, le-ltb}
use lib.Dec.{ltb}
use lib.ListN.{length, take, drop}
use lib.Seq.{sets, sets-eq, length-sets, length-take-le, take_at, drop_at}
use Rattle.split.proofs.laws.Places.{le_or_lt, Against, less, equal, more, against}
use Rattle.tables.proofs.laws.Width.{whole, before}
use Rattle.tables.proofs.laws.Parts.{stored, stored_sets, part_before, drop_after}

-- a thing's numbers and the thing that numbers spell belong together, and the k-th of the table stands at w * k
pub record Table {A B : Type 0} (w : ℕ) (cells : A → List B) (from : List B → ℕ → A) (none : A) (at : List B → ℕ → A) (put : List B → ℕ → A → List B) : Type 0 where
  pub some : 0 < w
  pub length_cells : (x : A) → length (cells x) ≡ w
  pub from_cells : (x : A) → from (cells x) 0 ≡ x
  pub cells_from : (l : List B) (i : ℕ) → i + w ≤ length l → cells (from l i) ≡ take w (drop i l)
  pub at_is : (l : List B) (k : ℕ) → at l k ≡ cond (ltb k (length l / w)) (from l (w * k)) none
  pub put_is : (l : List B) (k : ℕ) (x : A) → put l k x ≡ cond (ltb k (length l / w)) (sets l (w * k) (cells x)) l

module _ {A B : Type 0} {w : ℕ} {cells : A → List B} {from : List B → ℕ → A} {none : A} {at : List B → ℕ → A} {put : List B → ℕ → A → List B} (t : Table w cells from none at put) where
  -- within the table and past its end
  pub at_held : (l : List B) (k : ℕ) → k < length l / w → at l k ≡ from l (w * k)
  at_held l k h = rw (t.at_is l k, lt-ltb _ _ h)

  pub at_past : (l : List B) (k : ℕ) → length l / w ≤ k → at l k ≡ none
  at_past l k h = rw (t.at_is l k, le-ltb _ _ h)

  pub put_held : (l : List B) (k : ℕ) (x : A) → k < length l / w → put l k x ≡ sets l (w * k) (cells x)
  put_held l k x h = rw (t.put_is l k x, lt-ltb _ _ h)

  pub put_past : (l : List B) (k : ℕ) (x : A) → length l / w ≤ k → put l k x ≡ l
  put_past l k x h = rw (t.put_is l k x, le-ltb _ _ h)

  -- code that stores the numbers of a thing one by one puts it
  pub put_stored : (l : List B) (k : ℕ) (x : A) → k < length l / w → stored l (w * k) (cells x) ≡ put l k x
  put_stored l k x h = stored_sets (cells x) l (w * k) ∙ sym (put_held l k x h)

  -- things are equal by their numbers
  pub cells_apart : (x y : A) → cells x ≡ cells y → x ≡ y
  cells_apart x y e = sym (t.from_cells x) ∙ rw e (t.from_cells y)

  pub cells_at : (l : List B) (k : ℕ) → k < length l / w → cells (at l k) ≡ take w (drop (w * k) l)
  cells_at l k h = rw (at_held l k h) (t.cells_from l (w * k) (whole w k (length l) t.some h))

  pub put_parts : (l : List B) (k : ℕ) (x : A) → k < length l / w → put l k x ≡ take (w * k) l ++ cells x ++ drop (w * k + w) l
  put_parts l k x h =
      put_held l k x h
      ∙ sets-eq (cells x) l (w * k) (rw (t.length_cells x) (whole w k (length l) t.some h))
      ∙ rw (t.length_cells x)

  pub length_put : (l : List B) (k : ℕ) (x : A) → length (put l k x) ≡ length l
  length_put l k x =
      elim (le_or_lt (length l / w) k) [ inl h ↦ ap length (put_past l k x h) | inr h ↦ rw (put_held l k x h) (length-sets l (w * k) (cells x)) ]

  module _ (l : List B) (k : ℕ) (x : A) (h : k < length l / w) where
    pub at_put : at (put l k x) k ≡ x
    at_put = cells_apart (at (put l k x) k) x (cells_at (put l k x) k (rw (length_put l k x) h) ∙ in_it)
      where
        in_it : take w (drop (w * k) (put l k x)) ≡ cells x
        in_it =
            rw (
              put_parts l k x h,
              append_assoc (take (w * k) l) (cells x) (drop (w * k + w) l),
              drop_at (take (w * k) l) (cells x ++ drop (w * k + w) l) (w * k) (length-take-le (w * k) l (omega (arith, whole w k (length l) t.some h))),
            )
            (take_at (cells x) (drop (w * k + w) l) w (t.length_cells x))

    pub at_put_other : (j : ℕ) → j < length l / w → (j ≡ k → ⊥) → at (put l k x) j ≡ at l j
    at_put_other j i o =
        cells_apart (at (put l k x) j) (at l j) (cells_at (put l k x) j (rw (length_put l k x) i) ∙ rw (put_held l k x h) (beside (against j k)) ∙ sym (cells_at l j i))
      where
        beside : Against j k → take w (drop (w * j) (sets l (w * k) (cells x))) ≡ take w (drop (w * j) l)
        beside (less b) = part_before (cells x) l (w * k) (w * j) w (before w j k b)
        beside (equal e) = absurd (o e)
        beside (more b) = rw (drop_after (cells x) l (w * k) (w * j) (rw (t.length_cells x) (before w k j b)))

-- an item put into what is left of a table, where both are known by other names
pub put_on : {L X : Type 0} (put : L → ℕ → X → L) {n : ℕ} {l l' t : L} {x x' : X} → t ≡ put l n x → l ≡ l' → x ≡ x' → t ≡ put l' n x'
put_on put {n} e f g = e ∙ (λ i. put (f i) n (g i))
