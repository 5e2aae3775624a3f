-- Parts of a list: what stands from a place on, what a run of stores is, and what it leaves alone.
use mathlib.Core.Path.{◌≡◌, refl, sym, ap, ◌∙◌}
use mathlib.Core.List.{List, [], ◌∷◌, ◌++◌}
use Prim.Native.Nat.{ℕ, zero, suc, ◌+◌, ◌-◌, ◌≤◌}
use native.Mathlib.Nat.{add-suc, add-sub_of_le}
use native.Mathlib.Numerals.{add-one}
use native.Mathlib.Omega.{arith}
use lib.ListN.{length, get_or, set, take, drop, replicate, length-replicate, replicate-append-replicate}
use lib.Seq.{sets, drop-cons, drop-set-add, drop-set-lt, take-set-le, take_at, drop_at}

module _ {B : Type 0} where
  -- n numbers read one by one from place i on
  abbrev pub run : B → List B → ℕ → ℕ → List B
  run d l i zero = []
  run d l i (suc n) = get_or l i d ∷ run d l (suc i) n

  pub run_part : (d : B) (l : List B) (i n : ℕ) → i + n ≤ length l → run d l i n ≡ take n (drop i l)
  run_part d l i zero h = refl
  run_part d l i (suc n) h = rw (drop-cons l i d (omega arith), run_part d l (suc i) n (omega arith))

  -- stores one after the other at i, i + 1, i + 2, .., as code that is written out makes them
  abbrev pub stores : List B → ℕ → ℕ → List B → List B
  stores l i j [] = l
  stores l i j (a ∷ vs) = stores (set l (i + j) a) i (suc j) vs

  abbrev pub stored : List B → ℕ → List B → List B
  stored l i [] = l
  stored l i (a ∷ vs) = stores (set l i a) i 1 vs

  stores_sets : (vs l : List B) (i j : ℕ) → stores l i j vs ≡ sets l (i + j) vs
  stores_sets [] l i j = refl
  stores_sets (a ∷ vs) l i j = stores_sets vs (set l (i + j) a) i (suc j) ∙ rw (add-suc i j)

  pub stored_sets : (vs l : List B) (i : ℕ) → stored l i vs ≡ sets l i vs
  stored_sets [] l i = refl
  stored_sets (a ∷ vs) l i = stores_sets vs (set l i a) i 1 ∙ rw (add-one i)

  -- what a run of stores leaves alone
  pub part_before : (vs l : List B) (i j n : ℕ) → j + n ≤ i → take n (drop j (sets l i vs)) ≡ take n (drop j l)
  part_before [] l i j n h = refl
  part_before (a ∷ vs) l i j n h =
      part_before vs (set l i a) (suc i) j n (omega arith)
      ∙ ap (λ (k : ℕ). take n (drop j (set l k a))) (sym (add-sub_of_le {m = j} (omega arith)))
      ∙ rw (drop-set-add j l (i - j) a) (take-set-le n (drop j l) (i - j) a (omega arith))

  pub drop_after : (vs l : List B) (i j : ℕ) → i + length vs ≤ j → drop j (sets l i vs) ≡ drop j l
  drop_after [] l i j h = refl
  drop_after (a ∷ vs) l i j h = drop_after vs (set l i a) (suc i) j (omega arith) ∙ drop-set-lt j l i a (omega arith)

  -- two lists cut at the same place
  pub cut : (a b c d : List B) (n : ℕ) → length a ≡ n → length b ≡ n → a ++ c ≡ b ++ d → (a ≡ b) × (c ≡ d)
  cut a b c d n p q e =
      (sym (take_at a c n p) ∙ ap (take n) e ∙ take_at b d n q, sym (drop_at a c n p) ∙ ap (drop n) e ∙ drop_at b d n q)

  pub drop_replicate : (z : B) (n j : ℕ) → n ≤ j → drop n (replicate j z) ≡ replicate (j - n) z
  drop_replicate z n j h =
      ap (λ (k : ℕ). drop n (replicate k z)) (sym (add-sub_of_le h))
      ∙ rw (← replicate-append-replicate n (j - n) z) (drop_at (replicate n z) (replicate (j - n) z) n (length-replicate n z))
