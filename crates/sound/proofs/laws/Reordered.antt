-- Opening does not depend on the order of the four numbers of an element: what the tests and the colours see is which vertices an element holds.
use mathlib.Core.Path.{◌≡◌, refl, sym, ap, ◌∙◌, fun_ext}
use mathlib.Core.Bool.{Bool, true, false, ◌&&◌}
use mathlib.Core.List.{List}
use Prim.Native.Nat.{ℕ, zero, suc, ◌-◌, ◌≤◌, ◌<◌}
use native.Mathlib.Omega.{arith}
use borrow.Author.Tests.{leb-true, le-leb, ne_eqb}
use lib.Dec.{eqb, leb}
use Rattle.intake.specs.Cells.{Cells}
use Rattle.intake.specs.Search.{any, count}
use Rattle.intake.specs.Causes.{vertex, missing, twice, double, has, same, third}
use Rattle.opening.specs.Colours.{taken, colours, colour_of}
use Rattle.intake.proofs.laws.Search.{any_has, any_some}
use Rattle.opening.proofs.laws.Colours.{Neighbour, taken_has, taken_some, has_place, has_some}
use Rattle.sound.proofs.laws.Searches.{and_both, agree, count_most, each_of_four, or_some, or_has, but, but_each, but_all}

-- each element of E' holds the vertices of that of E
pub record Reordered (E E' : Cells) : Type 0 where
  pub long : E.count ≡ E'.count
  pub same : (k v : ℕ) → k < E.count → has E k v ≡ has E' k v

reordered_back : {E E' : Cells} → Reordered E E' → Reordered E' E
reordered_back r = record { long = sym r.long; same = λ k v h. sym (r.same k v (rw r.long h)) }

-- no element names a vertex twice
pub record Single (E : Cells) : Type 0 where
  pub apart : (k p q : ℕ) → k < E.count → p < 4 → q < 4 → vertex E k p ≡ vertex E k q → p ≡ q

pub single_passes : {E : Cells} → Single E → (k : ℕ) → k < E.count → double E k ≡ false
unfolding twice
single_passes {E} s k h = rw (other 0 1 (omega arith), other 0 2 (omega arith), other 0 3 (omega arith), other 1 2 (omega arith), other 1 3 (omega arith), other 2 3 (omega arith))
  where
    other : (p q : ℕ) → (p < 4) × (q < 4) × (p ≡ q → ⊥) → eqb (vertex E k p) (vertex E k q) ≡ false
    other p q (l, m, d) = ne_eqb _ _ (λ e. d (s.apart k p q h l m e))

module _ {E E' : Cells} (r : Reordered E E') where
  -- where E' has the vertex of a place of E
  place_in : (k q : ℕ) → k < E.count → q < 4 → (p : ℕ) × (p < 4) × (vertex E' k p ≡ vertex E k q)
  place_in k q h l = has_some E' k (vertex E k q) (sym (r.same k (vertex E k q) h) ∙ has_place E k q l)

  -- and the other way round
  place_from : (k q : ℕ) → k < E.count → q < 4 → (p : ℕ) × (p < 4) × (vertex E k p ≡ vertex E' k q)
  place_from k q h l = has_some E k (vertex E' k q) (r.same k (vertex E' k q) h ∙ has_place E' k q l)

  held : (j k p q : ℕ) → j < E.count → vertex E' k p ≡ vertex E k q → has E' j (vertex E' k p) ≡ true → has E j (vertex E k q) ≡ true
  held j k p q h e t = r.same j (vertex E k q) h ∙ rw e at t

  -- ---- numbers 4, 6 and 7

  pub missing_reordered : (n k : ℕ) → k < E.count → missing n E' k ≡ true → missing n E k ≡ true
  unfolding missing
  missing_reordered n k h t =
      let (q, l, e) = or_some (λ q. leb n (vertex E' k q)) t in
      let (p, m, f) = place_from k q h l in
      or_has (λ q. leb n (vertex E k q)) p m (rw f e)

  pub same_reordered : (k : ℕ) → k < E.count → same E' k ≡ true → same E k ≡ true
  unfolding same
  same_reordered k h t = found (any_some (whole E') k t)
    where
      whole : Cells → ℕ → Bool
      whole E j = has E j (vertex E k 0) && (has E j (vertex E k 1) && (has E j (vertex E k 2) && has E j (vertex E k 3)))

      found : (j : ℕ) × (j < k) × (whole E' j ≡ true) → any (whole E) k ≡ true
      found (j, l, e) = any_has (whole E) k j l (rw (holds 0 (omega arith), holds 1 (omega arith), holds 2 (omega arith), holds 3 (omega arith)))
        where
          given : (q : ℕ) → q < 4 → has E' j (vertex E' k q) ≡ true
          given =
              let (a, x) = and_both _ _ e in
              let (b, y) = and_both _ _ x in
              let (c, d) = and_both _ _ y in
              each_of_four (λ q. has E' j (vertex E' k q) ≡ true) a b c d

          holds : (q : ℕ) → q < 4 → has E j (vertex E k q) ≡ true
          holds q m =
              let (p, i, f) = place_in k q h m in
              held j k p q (omega arith) f (given p i)

-- the face that lacks place m, in element j
abbrev face : Cells → ℕ → ℕ → ℕ → Bool
face E k m j = but m (λ q. has E j (vertex E k q))

-- the place that the tests' faces lack falls from 3 to 0
third_some : (E : Cells) (k : ℕ) → third E k ≡ true → (m : ℕ) × (m < 4) × (2 ≤ count (face E k m) k)
unfolding third
third_some E k t =
    let (m, l, e) = or_some (λ m. leb 2 (count (face E k (3 - m)) k)) t in
    (3 - m, omega arith, leb-true _ _ e)

third_has : (E : Cells) (k m : ℕ) → m < 4 → 2 ≤ count (face E k m) k → third E k ≡ true
unfolding third
third_has E k m l h =
    let e : 3 - (3 - m) ≡ m = omega arith in
    or_has (λ m. leb 2 (count (face E k (3 - m)) k)) (3 - m) (omega arith) (rw e (le-leb _ _ h))

module _ {E E' : Cells} (r : Reordered E E') (s : Single E) where
  -- the face of E that lacks the same vertex has no other vertices, so it is in no fewer elements
  pub third_reordered : (k : ℕ) → k < E.count → third E' k ≡ true → third E k ≡ true
  third_reordered k h t = found (third_some E' k t)
    where
      found : (m : ℕ) × (m < 4) × (2 ≤ count (face E' k m) k) → third E k ≡ true
      found (m, l, c) = lacks (place_from r k m h l)
        where
          lacks : (p : ℕ) × (p < 4) × (vertex E k p ≡ vertex E' k m) → third E k ≡ true
          lacks (p, i, e) = third_has E k p i (omega (arith, count_most (face E' k m) (face E k p) k inside))
            where
              inside : (j : ℕ) → j < k → face E' k m j ≡ true → face E k p j ≡ true
              inside j b f = but_all (λ q. has E j (vertex E k q)) p i (λ q n. at q n.0 n.1 (place_in r k q h n.0))
                where
                  at : (q : ℕ) → q < 4 → (q ≡ p → ⊥) → (o : ℕ) × (o < 4) × (vertex E' k o ≡ vertex E k q) → has E j (vertex E k q) ≡ true
                  at q n d (o, w, g) =
                      held r j k o q (omega arith) g
                      (but_each (λ q. has E' j (vertex E' k q)) m o l w (λ x. d (s.apart k q p h n i (sym g ∙ ap (vertex E' k) x ∙ sym e))) f)

-- ---- the colours

neighbour_reordered : {E E' : Cells} {painted : List ℕ} {v c : ℕ} → Reordered E E' → Neighbour E painted v c → Neighbour E' painted v c
neighbour_reordered {E} {E'} {painted} {v} {c} r n = at (place_in r n.element n.place n.there n.four)
  where
    at : (p : ℕ) × (p < 4) × (vertex E' n.element p ≡ vertex E n.element n.place) → Neighbour E' painted v c
    at (p, l, e) = record {
      element = n.element;
      place = p;
      there = rw (← r.long) n.there;
      four = l;
      holds = sym (r.same n.element v n.there) ∙ n.holds;
      less = rw e n.less;
      colour = rw e n.colour;
    }

module _ {E E' : Cells} (r : Reordered E E') where
  taken_reordered : (painted : List ℕ) (v c : ℕ) → taken E painted v c ≡ taken E' painted v c
  taken_reordered painted v c =
      agree _ _ (λ t. taken_has E' painted v c (neighbour_reordered r (taken_some E painted v c t)))
      (λ t. taken_has E painted v c (neighbour_reordered (reordered_back r) (taken_some E' painted v c t)))

  pub colours_reordered : (n : ℕ) → colours E n ≡ colours E' n
  unfolding colours
  colours_reordered zero = refl
  colours_reordered (suc n) = rw (colours, colours_reordered n, fun_ext (taken_reordered (colours E' n) n))

  pub colour_reordered : (v : ℕ) → colour_of E v ≡ colour_of E' v
  colour_reordered v = rw (colours_reordered v, fun_ext (taken_reordered (colours E' v) v))
