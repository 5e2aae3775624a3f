-- The list of colours grows at its end, so a vertex keeps its colour; which colours are taken; and the largest.
use mathlib.Core.Path.{◌≡◌, refl, sym, ◌∙◌}
use mathlib.Core.Bool.{Bool, true, false, ◌&&◌, ◌||◌, true≢false, or-true}
use mathlib.Core.List.{List, [], ◌∷◌, ◌++◌}
use Prim.Native.Nat.{ℕ, zero, suc, ◌+◌, ◌≤◌, ◌<◌, max}
use native.Mathlib.Decide.{dec_lt, ℕ_discrete}
use native.Mathlib.Numerals.{add-one}
use native.Mathlib.Omega.{arith}
use borrow.Author.Tests.{ltb-true, eqb-true, lt-ltb, eq-eqb}
use lib.Dec.{eqb, ltb}
use lib.ListN.{length, get_or, take, length-append, get_or-append, get_or-eq_default}
use lib.Seq.{get_or_at, take-append-le, take_all}
use Rattle.intake.specs.Cells.{Cells}
use Rattle.intake.specs.Search.{any}
use Rattle.intake.specs.Causes.{vertex, has}
use Rattle.opening.specs.Colours.{smaller, taken, colours, colour_of, largest}
use Rattle.intake.proofs.laws.Search.{any_has, any_some}
use Rattle.opening.proofs.laws.Free.{free_most}

-- ---- the list

module _ (E : Cells) where
  colours_step : (n : ℕ) → colours E (n + 1) ≡ colours E n ++ (colour_of E n ∷ [])
  unfolding colours
  colours_step n = rw add-one

  pub colours_length : (n : ℕ) → length (colours E n) ≡ n
  unfolding colours
  colours_length zero = refl
  colours_length (suc n) = rw (colours, length-append, colours_length n) (omega arith)

  -- the colours of the smaller vertices stand first
  pub colours_prefix : (v n : ℕ) → v ≤ n → take v (colours E n) ≡ colours E v
  unfolding colours
  colours_prefix v zero h =
      let e : v ≡ 0 = omega arith in
      rw e
  colours_prefix v (suc n) h = go (dec_lt n v) (colours_prefix v n)
    where
      go : Dec (n < v) → (v ≤ n → take v (colours E n) ≡ colours E v) → take v (colours E (suc n)) ≡ colours E v
      go (yes l) f =
          let e : v ≡ suc n = omega arith in
          rw e (take_all (suc n) (colours E (suc n)) (omega (arith, colours_length (suc n))))
      go (no l) f = take-append-le v (colours E n) (colour_of E n ∷ []) (omega (arith, colours_length n)) ∙ f (omega arith)

  pub colours_at : (n v : ℕ) → v < n → get_or (colours E n) v 0 ≡ colour_of E v
  unfolding colours
  colours_at zero v h = absurd (omega arith)
  colours_at (suc n) v h = go (ℕ_discrete v n) (colours_at n v)
    where
      go : Dec (v ≡ n) → (v < n → get_or (colours E n) v 0 ≡ colour_of E v) → get_or (colours E (suc n)) v 0 ≡ colour_of E v
      go (yes e) f = rw e (get_or_at (colours E n) (colour_of E n) [] 0 n (colours_length n))
      go (no d) f = get_or-append (colours E n) (colour_of E n ∷ []) 0 v (omega (arith, colours_length n)) ∙ f (omega arith)

  -- a vertex that is not among them reads as 0
  pub colours_out : (n v : ℕ) → n ≤ v → get_or (colours E n) v 0 ≡ 0
  colours_out n v h = get_or-eq_default (colours E n) 0 (omega (arith, colours_length n))

-- ---- which colours are taken

and_both : (a b : Bool) → a && b ≡ true → (a ≡ true) × (b ≡ true)
and_both true b e = (refl, e)
and_both false b e = absurd (true≢false (sym e))

-- an element that holds v, and a place in it with a smaller vertex of this colour
pub record Neighbour (E : Cells) (painted : List ℕ) (v c : ℕ) : Type 0 where
  pub element : ℕ
  pub place : ℕ
  pub there : element < E.count
  pub four : place < 4
  pub holds : has E element v ≡ true
  pub less : vertex E element place < v
  pub colour : get_or painted (vertex E element place) 0 ≡ c

module _ (E : Cells) (painted : List ℕ) (v c : ℕ) where
  pub taken_has : Neighbour E painted v c → taken E painted v c ≡ true
  unfolding taken
  taken_has r = any_has (λ j. has E j v && any (smaller E painted v c j) 4) E.count r.element r.there (rw r.holds (any_has (smaller E painted v c r.element) 4 r.place r.four (rw (lt-ltb (vertex E r.element r.place) v r.less) (eq-eqb _ _ r.colour))))

  pub taken_some : taken E painted v c ≡ true → Neighbour E painted v c
  unfolding taken
  taken_some t = inside (any_some (λ j. has E j v && any (smaller E painted v c j) 4) E.count t)
    where
      inside : (j : ℕ) × (j < E.count) × (has E j v && any (smaller E painted v c j) 4 ≡ true) → Neighbour E painted v c
      inside (j, l, h) =
          let both = and_both (has E j v) (any (smaller E painted v c j) 4) h in
          let some = any_some (smaller E painted v c j) 4 both.1 in
          let at = and_both (ltb (vertex E j some.0) v) (eqb (get_or painted (vertex E j some.0) 0) c) some.2 in
          record { element = j; place = some.0; there = l; four = some.1; holds = both.0; less = ltb-true _ _ at.0; colour = eqb-true _ _ at.1 }

-- a colour is no larger than its vertex, so no colour from v on is taken
pub colour_most : (E : Cells) (v : ℕ) → colour_of E v ≤ v
colour_most E v = free_most (taken E (colours E v) v) v

taken_below : (E : Cells) (v c : ℕ) → taken E (colours E v) v c ≡ true → c < v
taken_below E v c t =
    let r = taken_some E (colours E v) v c t in
    let u = vertex E r.element r.place in
    omega (arith, r.less, r.colour, colours_at E v u r.less, colour_most E u)

pub taken_last : (E : Cells) (v : ℕ) → taken E (colours E v) v v ≡ false
taken_last E v = go (taken E (colours E v) v v) refl
  where
    go : (b : Bool) → taken E (colours E v) v v ≡ b → b ≡ false
    go true t = absurd (omega (arith, taken_below E v v t))
    go false t = refl

-- an element holds the vertices at its four places, and no others
pub has_place : (E : Cells) (j q : ℕ) → q < 4 → has E j (vertex E j q) ≡ true
unfolding has
has_place E j zero h = rw (eq-eqb (vertex E j 0) _ refl)
has_place E j (suc zero) h = rw (eq-eqb (vertex E j 1) _ refl, or-true)
has_place E j (suc (suc zero)) h = rw (eq-eqb (vertex E j 2) _ refl, or-true, or-true)
has_place E j (suc (suc (suc zero))) h = rw (eq-eqb (vertex E j 3) _ refl, or-true, or-true, or-true)
has_place E j (suc (suc (suc (suc q)))) h = absurd (omega arith)

pub has_some : (E : Cells) (j v : ℕ) → has E j v ≡ true → (q : ℕ) × (q < 4) × (vertex E j q ≡ v)
unfolding has
has_some E j v h = go (eqb (vertex E j 0) v) (eqb (vertex E j 1) v) (eqb (vertex E j 2) v) (eqb (vertex E j 3) v) refl refl refl refl h
  where
    go : (a b c d : Bool) → eqb (vertex E j 0) v ≡ a → eqb (vertex E j 1) v ≡ b → eqb (vertex E j 2) v ≡ c → eqb (vertex E j 3) v ≡ d → a || (b || (c || d)) ≡ true → (q : ℕ) × (q < 4) × (vertex E j q ≡ v)
    go true b c d e f g i t = (0, omega arith, eqb-true _ _ e)
    go false true c d e f g i t = (1, omega arith, eqb-true _ _ f)
    go false false true d e f g i t = (2, omega arith, eqb-true _ _ g)
    go false false false d e f g i t = (3, omega arith, eqb-true _ _ (i ∙ t))

-- ---- the largest colour

pub largest_none : (E : Cells) → largest (colours E 0) ≡ 0
unfolding colours largest
largest_none E = refl

largest_end : (cs : List ℕ) (c : ℕ) → largest (cs ++ (c ∷ [])) ≡ max (largest cs) c
unfolding largest
largest_end [] c = omega arith
largest_end (d ∷ cs) c = omega (arith, largest_end cs c)

pub largest_step : (E : Cells) (n : ℕ) → largest (colours E (n + 1)) ≡ max (largest (colours E n)) (colour_of E n)
largest_step E n = rw colours_step (largest_end (colours E n) (colour_of E n))
