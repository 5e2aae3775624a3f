-- The leaf sum, and that the list it is taken over has exactly the leaves, each once (01, "Closure").
use mathlib.Core.Path.{◌≡◌, refl, subst}
use mathlib.Core.Bool.{Bool, true, false, true≢false}
use mathlib.Core.HLevel.{⊥_prop}
use mathlib.Core.Logic.Iff
use mathlib.Core.Logic.{◌↔◌, ⊎_elim, ∥∥₁_elim}
use mathlib.Core.List.Memᴰ
use mathlib.Core.List.{List, [], ◌∷◌, ◌++◌, Memᴰ, Pairwise-singleton, Nodup-append, Nodup}
use Prim.Native.Nat.{ℕ, zero, suc, ◌+◌, ◌-◌, ◌^◌, ◌≤◌, ◌<◌}
use native.Mathlib.Nat.{pow-suc}
use native.Mathlib.Omega.{arith}
use lib.ListN.{length, drop}
use lib.Seq.{drop-cons}
use Rattle.split.specs.Split.{Side, left, right}
use Rattle.forest.specs.Element.{Forest, Element, el}
use Rattle.forest.specs.Closed.{Closed, Leaf}
use Rattle.forest.specs.LeafSum.{leaves_from, total, Reached}

-- a leaf has its whole weight, and a split replaces it by two halves
total_append : (a b : List (List Side)) → total (a ++ b) ≡ total a + total b
unfolding total
total_append [] b = omega arith
total_append (p ∷ a) b = omega (arith, total_append a b)

total_leaf : (d : ℕ) (p : List Side) → length p + d ≡ 60 → total (p ∷ []) ≡ 2 ^ d
unfolding total
total_leaf d p e = go (60 - length p) (omega arith)
  where
    go : (n : ℕ) → n ≡ d → 2 ^ n + 0 ≡ 2 ^ d
    go n q = rw q (omega arith)

twice : (d : ℕ) → 2 ^ d + 2 ^ d ≡ 2 ^ suc d
twice d = omega (arith, pow-suc 2 d)

-- what is not split is unsplit
untrue : (b : Bool) → (b ≡ true → ⊥) → b ≡ false
untrue true h = absurd (h refl)
untrue false h = refl

-- p is q or stands below it, told from above
data Below (p : List Side) : List Side → Type 0 where
  here : Below p p
  side : {s : Side} {q : List Side} → Below p (s ∷ q) → Below p q

itself : {p q : List Side} → p ≡ q → Below p q
itself {p} e = subst (Below p) e here

below_child : {s : Side} {p q : List Side} → Below p q → Below (s ∷ p) q
below_child here = side here
below_child (side b) = side (below_child b)

below_root : (p : List Side) → Below p []
below_root [] = here
below_root (s ∷ p) = below_child (below_root p)

below_length : {p q : List Side} → Below p q → length q ≤ length p
below_length here = omega arith
below_length (side b) = omega (arith, below_length b)

-- the last sides of p are those of q, so nothing is below both children of an element
below_drop : {p q : List Side} → Below p q → (n : ℕ) → length p ≡ n + length q → drop n p ≡ q
below_drop here zero e = refl
below_drop here (suc n) e = absurd (omega arith)
below_drop (side b) zero e = absurd (omega (arith, below_length b))
below_drop {p} (side {s} {q} b) (suc n) e =
    let h : drop n p ≡ s ∷ q = below_drop b n (omega arith) in
    cc (drop-cons p n left (omega arith))

below_one : {p q : List Side} → Below p (left ∷ q) → Below p (right ∷ q) → ⊥
below_one {p} {q} b c =
    let l : length (left ∷ q) ≤ length p = below_length b in
    let n : ℕ = length p - length (left ∷ q) in
    let h : drop n p ≡ left ∷ q = below_drop b n (omega arith) in
    let k : drop n p ≡ right ∷ q = below_drop c n (omega arith) in
    let z : ◌≡◌ {A = ℕ} 0 1 = cc in
    omega arith

module _ (split : List Side → Bool) where
  -- one step of `leaves_from`: at the end of the search, at a split and at an unsplit element
  at_end : (q : List Side) → leaves_from 0 split q ≡ q ∷ []
  unfolding leaves_from
  at_end q = refl

  at_split : (d : ℕ) (q : List Side) → split q ≡ true → leaves_from (suc d) split q ≡ leaves_from d split (left ∷ q) ++ leaves_from d split (right ∷ q)
  unfolding leaves_from
  at_split d q e = rw (e, leaves_from)

  at_leaf : (d : ℕ) (q : List Side) → split q ≡ false → leaves_from (suc d) split q ≡ q ∷ []
  unfolding leaves_from
  at_leaf d q e = rw (e, leaves_from)

  -- the sum (01, "Closure"); where the search ends it counts a leaf, so that this asks no bound on the depth of what is split
  pub leaf_sum_below : (d : ℕ) (p : List Side) → length p + d ≡ 60 → total (leaves_from d split p) ≡ 2 ^ d
  leaf_sum_below zero p e = rw at_end (total_leaf 0 p e)
  leaf_sum_below (suc d) p e = go (leaf_sum_below d (left ∷ p) (omega arith)) (leaf_sum_below d (right ∷ p) (omega arith)) (split p) refl
    where
      go : total (leaves_from d split (left ∷ p)) ≡ 2 ^ d → total (leaves_from d split (right ∷ p)) ≡ 2 ^ d → (b : Bool) → split p ≡ b → total (leaves_from (suc d) split p) ≡ 2 ^ suc d
      go l r true h = rw (at_split d p h, total_append, l, r) (twice d)
      go l r false h = rw (at_leaf d p h) (total_leaf (suc d) p e)

  pub leaf_sum : total (leaves_from 60 split []) ≡ 2 ^ 60
  leaf_sum = leaf_sum_below 60 [] refl

  -- what a listed element is: the unsplit element that the search stands at, or one listed from a child of it
  data Step (d : ℕ) (p q : List Side) : Type 0 where
    stops : p ≡ q → split q ≡ false → Step d p q
    goes : (s : Side) → split q ≡ true → Memᴰ p (leaves_from d split (s ∷ q)) → Step d p q

  step : (d : ℕ) {p : List Side} (q : List Side) → Memᴰ p (leaves_from (suc d) split q) → Step d p q
  step d {p} q m = go (split q) refl
    where
      go : (b : Bool) → split q ≡ b → Step d p q
      go true h = ⊎_elim (goes left h) (goes right h) (Memᴰ.append_cases (leaves_from d split (left ∷ q)) (rw (at_split d q h) at m))
      go false h = stops (Memᴰ.eq_of_singleton (rw (at_leaf d q h) at m)) h

  into : (d : ℕ) {p : List Side} (s : Side) (q : List Side) → split q ≡ true → Memᴰ p (leaves_from d split (s ∷ q)) → Memᴰ p (leaves_from (suc d) split q)
  into d left q h m = rw (at_split d q h) (Memᴰ.append_left (leaves_from d split (right ∷ q)) m)
  into d right q h m = rw (at_split d q h) (Memᴰ.append_right (leaves_from d split (left ∷ q)) m)

  listed_below : (d : ℕ) {p : List Side} (q : List Side) → Memᴰ p (leaves_from d split q) → Below p q
  listed_below zero q m = itself (Memᴰ.eq_of_singleton (rw at_end at m))
  listed_below (suc d) {p} q m = go (λ s. listed_below d (s ∷ q)) (step d q m)
    where
      go : ((s : Side) → Memᴰ p (leaves_from d split (s ∷ q)) → Below p (s ∷ q)) → Step d p q → Below p q
      go ih (stops e h) = itself e
      go ih (goes s h i) = side (ih s i)

  -- each leaf is listed once
  pub leaves_once : (d : ℕ) (q : List Side) → Nodup (leaves_from d split q)
  leaves_once zero q = rw at_end (Pairwise-singleton _ q)
  leaves_once (suc d) q = go (leaves_once d (left ∷ q)) (leaves_once d (right ∷ q)) (split q) refl
    where
      go : Nodup (leaves_from d split (left ∷ q)) → Nodup (leaves_from d split (right ∷ q)) → (b : Bool) → split q ≡ b → Nodup (leaves_from (suc d) split q)
      go l r true h = rw (at_split d q h) (Nodup-append.1 (l, r, λ a m n. ∥∥₁_elim m ⊥_prop (λ i. ∥∥₁_elim n ⊥_prop (λ j. below_one (listed_below d (left ∷ q) i) (listed_below d (right ∷ q) j)))))
      go l r false h = rw (at_leaf d q h) (Pairwise-singleton _ q)

  -- of a set that holds parents and has no depth over 59, the leaves are listed and nothing else
  module _ (parents : (s : Side) (p : List Side) → split (s ∷ p) ≡ true → split p ≡ true) (shallow : (p : List Side) → split p ≡ true → length p < 60) where
    reached_above : {p q : List Side} → Below p q → Reached split p → Reached split q
    reached_above here r = r
    reached_above (side {q = []} b) r = tt
    reached_above (side {q = s ∷ q} b) r = parents s q (reached_above b r)

    listed_leaf : (d : ℕ) {p : List Side} (q : List Side) → length q + d ≡ 60 → Reached split q → Memᴰ p (leaves_from d split q) → (split p ≡ false) × Reached split p
    listed_leaf zero q e r m = rw (Memᴰ.eq_of_singleton (rw at_end at m)) (untrue (split q) (λ h. omega (arith, shallow q h)), r)
    listed_leaf (suc d) {p} q e r m = go (λ s h. listed_leaf d (s ∷ q) (omega arith) h) (step d q m)
      where
        go : ((s : Side) → split q ≡ true → Memᴰ p (leaves_from d split (s ∷ q)) → (split p ≡ false) × Reached split p) → Step d p q → (split p ≡ false) × Reached split p
        go ih (stops i h) = rw i (h, r)
        go ih (goes s h i) = ih s h i

    leaf_listed : (d : ℕ) {p q : List Side} → Below p q → length q + d ≡ 60 → split p ≡ false → Reached split p → Memᴰ p (leaves_from d split q)
    leaf_listed zero here e u r = rw at_end (Memᴰ.head refl)
    leaf_listed (suc d) {p} here e u r = rw (at_leaf d p u) (Memᴰ.head refl)
    leaf_listed zero (side {q} b) e u r = absurd (omega (arith, shallow q (reached_above b r)))
    leaf_listed (suc d) (side {s} {q} b) e u r = into d s q (reached_above b r) (leaf_listed d b (omega arith) u r)

    pub leaves_listed : (p : List Side) → Memᴰ p (leaves_from 60 split []) ↔ ((split p ≡ false) × Reached split p)
    leaves_listed p = (listed_leaf 60 [] refl tt, λ l. leaf_listed 60 (below_root p) refl l.0 l.1)

-- the same in the words of demand 3: under each root they are the leaves of the mesh whose split elements are the given closed set
leaf_reached : {F : Forest} (split : Element → Bool) (k : ℕ) → k < F.count → (p : List Side) → ((split (el k p) ≡ false) × Reached (λ q. split (el k q)) p) ↔ Leaf F (λ e. split e ≡ true) (el k p)
leaf_reached split k h [] = (λ l. record { present = h; unsplit = λ t. true≢false (cc) }, λ l. (untrue (split (el k [])) l.unsplit, tt))
leaf_reached split k h (s ∷ p) = (λ l. record { present = l.1; unsplit = λ t. true≢false (cc) }, λ l. (untrue (split (el k (s ∷ p))) l.unsplit, l.present))

pub forest_leaves : {F : Forest} (split : Element → Bool) → Closed F (λ e. split e ≡ true) → ((k : ℕ) (p : List Side) → split (el k p) ≡ true → length p < 60) → (k : ℕ) → k < F.count → (p : List Side) → Memᴰ p (leaves_from 60 (λ q. split (el k q)) []) ↔ Leaf F (λ e. split e ≡ true) (el k p)
forest_leaves split c shallow k h p = Iff.trans (leaves_listed (λ q. split (el k q)) (c.parents k) (shallow k) p) (leaf_reached split k h p)
