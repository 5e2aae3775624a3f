-- Parts of a text: where they start and stop.
use mathlib.Core.Path.{◌≡◌, refl, sym, ap, ◌∙◌}
use mathlib.Core.Bool.{Bool, true, false}
use mathlib.Core.List.{List, [], ◌∷◌}
use Prim.Native.Nat.{ℕ, suc, ◌+◌, ◌-◌, ◌≤◌, ◌<◌, max}
use native.Mathlib.Nat.{add-zero}
use native.Mathlib.Numerals.{add-one}
use native.Mathlib.Omega.{arith}
use borrow.Author.Tests.{eq-eqb, ne_eqb, eqb-true, eqb-false, ltb-true, ltb-false}
use lib.Dec.{eqb, ltb, eqb-suc-suc}
use lib.ListN.{length, get_or, drop, take, length-drop, drop_of_length-le}
use lib.Seq.{drop-cons}
use Rattle.std.specs.Prelude.{Option, None, Some, unwrap_or, slice_get, count_by}
use Rattle.std.specs.Option.{option_map}
use Rattle.std.specs.Str.{bytes_eq}
use Rattle.std.proofs.lemmas.Option.{unwrap_or-slice_get}
use Rattle.std.specs.List.{onto_first}
use Rattle.std.proofs.lemmas.List.Splits.{slice_split-cons_yes, slice_split-cons_no, length-slice_split}
use Rattle.fields.specs.Field.{parts, field_of, shaped_as, before, stop_of}

-- ---- up to the first separator

module _ (s x : ℕ) (l : List ℕ) where
  before_here : x ≡ s → before s (x ∷ l) ≡ 0
  unfolding before
  before_here e = rw (before, eq-eqb x s e)

  before_later : (x ≡ s → ⊥) → before s (x ∷ l) ≡ suc (before s l)
  unfolding before
  before_later e = rw (before, ne_eqb x s e)

  pub parts_here : x ≡ s → parts s (x ∷ l) ≡ [] ∷ parts s l
  unfolding parts
  parts_here e = slice_split-cons_yes (λ y. eqb y s) x l (eq-eqb x s e)

  pub parts_later : (x ≡ s → ⊥) → parts s (x ∷ l) ≡ onto_first x (parts s l)
  unfolding parts
  parts_later e = slice_split-cons_no (λ y. eqb y s) x l (ne_eqb x s e)

before_none : (s : ℕ) → before s [] ≡ 0
unfolding before
before_none s = refl

pub parts_none : (s : ℕ) → parts s [] ≡ [] ∷ []
unfolding parts
parts_none s = refl

-- ---- the loop of stop

pub record Seeking (s : ℕ) (l : List ℕ) (from i : ℕ) : Type 0 where
  pub few : i ≤ max from (length l)
  pub same : stop_of s l from ≡ i + before s (drop i l)

pub seeking_start : {s from : ℕ} {l : List ℕ} → Seeking s l from from
unfolding stop_of
seeking_start = record { few = omega arith; same = refl }

module _ {s from i : ℕ} {l : List ℕ} (k : Seeking s l from i) where
  pub seeking_found : i < length l → get_or l i 0 ≡ s → i ≡ stop_of s l from
  seeking_found h e = sym (k.same ∙ rw (drop-cons l i 0 h, before_here s (get_or l i 0) (drop (suc i) l) e, add-zero i))

  pub seeking_next : i < length l → (get_or l i 0 ≡ s → ⊥) → Seeking s l from (i + 1)
  seeking_next h e = record {
    few = omega (arith, h);
    same = rw (add-one i) (k.same ∙ rw (drop-cons l i 0 h, before_later s (get_or l i 0) (drop (suc i) l) e) (omega arith));
  }

  pub seeking_all : from ≤ i → length l ≤ i → {m : ℕ} → m ≡ max from (length l) → m ≡ stop_of s l from
  seeking_all f h q =
      let e : i ≡ max from (length l) = omega (arith, k.few, f, h) in
      let z : stop_of s l from ≡ i = k.same ∙ rw (drop_of_length-le l h, before_none s, add-zero i) in
      q ∙ sym e ∙ sym z

pub ruleset seeking = (seeking_start, seeking_found, seeking_next, seeking_all)

-- ---- one part and the rest

before_below : (s : ℕ) (l : List ℕ) → before s l ≤ length l
before_below s [] = rw (before_none s) (omega arith)
before_below s (x ∷ l) = go (before_below s l) (eqb x s) refl
  where
    go : before s l ≤ length l → (t : Bool) → eqb x s ≡ t → before s (x ∷ l) ≤ suc (length l)
    go h true e = rw (before_here s x l (eqb-true x s e)) (omega arith)
    go h false e = rw (before_later s x l (eqb-false x s e)) (omega (arith, h))

-- a separator follows
pub parts_more : (s : ℕ) (l : List ℕ) → before s l < length l → parts s l ≡ take (before s l) l ∷ parts s (drop (suc (before s l)) l)
parts_more s [] h = absurd (omega (arith, h))
parts_more s (x ∷ l) h = go (λ k. parts_more s l k) (eqb x s) refl
  where
    go : (before s l < length l → parts s l ≡ take (before s l) l ∷ parts s (drop (suc (before s l)) l)) → (t : Bool) → eqb x s ≡ t → parts s (x ∷ l) ≡ take (before s (x ∷ l)) (x ∷ l) ∷ parts s (drop (suc (before s (x ∷ l))) (x ∷ l))
    go r true e = rw (before_here s x l (eqb-true x s e), parts_here s x l (eqb-true x s e))
    go r false e =
        let b = before_later s x l (eqb-false x s e) in
        let k : before s l < length l = omega (arith, b, h) in
        rw (b, parts_later s x l (eqb-false x s e)) (ap (onto_first x) (r k))

-- none does
pub parts_last : (s : ℕ) (l : List ℕ) → length l ≤ before s l → parts s l ≡ l ∷ []
parts_last s [] h = parts_none s
parts_last s (x ∷ l) h = go (λ k. parts_last s l k) (eqb x s) refl
  where
    go : (length l ≤ before s l → parts s l ≡ l ∷ []) → (t : Bool) → eqb x s ≡ t → parts s (x ∷ l) ≡ (x ∷ l) ∷ []
    go r true e = let b = before_here s x l (eqb-true x s e) in absurd (omega (arith, b, h))
    go r false e =
        let b = before_later s x l (eqb-false x s e) in
        let k : length l ≤ before s l = omega (arith, b, h) in
        rw (parts_later s x l (eqb-false x s e)) (ap (onto_first x) (r k))

-- ---- the next field

pub record Inside (i : ℕ) (l : List ℕ) : Type 0 where
  pub within : i ≤ length l

module _ {from : ℕ} {l : List ℕ} (i : Inside from l) where
  rest_length : from + length (drop from l) ≡ length l
  rest_length = rw (length-drop from l) (omega (arith, i.within))

  pub part_start : from ≤ length l
  part_start = i.within

  module _ (s : ℕ) {e : ℕ} (q : e ≡ stop_of s l from) where
    pub part_order : from ≤ e
    unfolding stop_of
    part_order = omega (arith, q)

    pub part_fits : e ≤ length l
    unfolding stop_of
    part_fits = omega (arith, q, before_below s (drop from l), rest_length)

    pub part_size : e - from ≤ length (drop from l)
    part_size = rw (length-drop from l) (omega (arith, part_fits, part_order))

-- the bytes from `from` to the first separator are a part of the text
pub ruleset part = (part_start, part_order, part_fits, part_size)

-- ---- how many

pub parts_some : (s : ℕ) (l : List ℕ) → 0 < length (parts s l)
parts_some s l = go (ltb (before s l) (length l)) refl
  where
    go : (t : Bool) → ltb (before s l) (length l) ≡ t → 0 < length (parts s l)
    go true e = rw (parts_more s l (ltb-true (before s l) (length l) e)) (omega arith)
    go false e = rw (parts_last s l (ltb-false (before s l) (length l) e)) (omega arith)

-- ---- one field

-- the part at a place, by way of what holds it, or the default
pub unwrap_or-nth : {A B : Type 0} (f : A → B) (o : Option A) (d : A) (xs : List B) (k : ℕ) → option_map f o ≡ slice_get xs k → f (unwrap_or o d) ≡ get_or xs k (f d)
unwrap_or-nth f None d xs k e = ap (λ o. unwrap_or o (f d)) e ∙ unwrap_or-slice_get xs k (f d)
unwrap_or-nth f (Some x) d xs k e = ap (λ o. unwrap_or o (f d)) e ∙ unwrap_or-slice_get xs k (f d)

-- ---- the letter and the shape

module _ (l : List ℕ) (c n : ℕ) {f g : List ℕ} (ef : f ≡ field_of l 0) (eg : g ≡ c ∷ []) {b : Bool} (eb : b ≡ bytes_eq f g) where
  same : bytes_eq (field_of l 0) (c ∷ []) ≡ b
  same = sym (eb ∙ rw (ef, eg))

  pub shaped_yes : b ≡ true → (m : ℕ) → m ≡ count_by (λ x. eqb x 9) l → eqb m n ≡ shaped_as l c n
  unfolding shaped_as parts
  shaped_yes e m q = rw (same ∙ e, length-slice_split (λ x. eqb x 9) l, ← q, add-one m, add-one n) (sym (eqb-suc-suc m n))

  pub shaped_no : b ≡ false → b ≡ shaped_as l c n
  unfolding shaped_as
  shaped_no e = rw (same, e)

pub ruleset shapes = (shaped_yes, shaped_no)
