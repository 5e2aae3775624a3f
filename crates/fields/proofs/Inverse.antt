-- Reading and writing are inverse: digits, numbers, lines.
use mathlib.Core.Path.{◌≡◌, refl, sym, ap, ◌∙◌}
use mathlib.Core.Bool.{Bool, true, false, ◌&&◌, true≢false}
use mathlib.Core.List.{List, [], ◌∷◌, ◌++◌, append_assoc, append-nil}
use Prim.Native.Nat.{ℕ, zero, suc, ◌+◌, ◌-◌, ◌*◌, ◌/◌, ◌%◌, ◌^◌, ◌≤◌, ◌<◌}
use native.Mathlib.Nat.{pow-zero, pow-suc, div-lt_iff_lt-mul, mod-lt, div-add-mod', le_trans, le-mul_of_pos_right, add-zero}
use native.Mathlib.Omega.{arith}
use borrow.Author.Tests.{lt-ltb, le-ltb, ltb-true, ltb-false, eqb-true, eqb-false}
use lib.Arith.{digits_div, digits_mod}
use lib.Dec.{ltb, eqb}
use lib.Ieee.{Float, binary64, of_bits}
use lib.ListN.{length, get_or, length-append}
use Rattle.std.specs.Prelude.{Option, None, Some, unwrap_or}
use Rattle.std.specs.Str.{bytes_eq}
use Rattle.std.proofs.lemmas.Slice.Eq.{bytes_eq-Decides}
use Rattle.std.specs.List.{onto_first}
use Rattle.fields.specs.declared.line.Line.{Line}
use Rattle.fields.specs.declared.line.Line.TheVariants.{Vertex, Element, Mark, Refused}
use Rattle.fields.specs.Digits.{worth_of, value_from, value_of, number_of, hex_of, glyph, spelled, decimal, sixteen}
use Rattle.fields.specs.Field.{parts, tabbed, field_of, shaped_as}
use Rattle.fields.specs.Line.{vertex_of, element_of, mark_of, record_of, line_of}
use Rattle.fields.proofs.laws.Reading.{Worth, worthless, figure, letter, worth, value_none, value_next, Digit, no_digit, digit, digit_of, not_some, is_same, value_below, spelled_below, number_empty, number_long, number_led, number_zero, number_spelled, hex_spelled, hex_not}
use Rattle.fields.proofs.laws.Fields.{parts_none, parts_here, parts_later}
use Rattle.fields.proofs.laws.Lines.{line_record, line_refused}

-- ---- one digit

module _ (d : ℕ) where
  glyph_low : d < 10 → glyph d ≡ 48 + d
  unfolding glyph
  glyph_low h = rw (lt-ltb d 10 h)

  glyph_high : 10 ≤ d → glyph d ≡ 87 + d
  unfolding glyph
  glyph_high h = rw (le-ltb d 10 h)

  worth_glyph : d < 16 → worth_of (glyph d) ≡ Some d
  unfolding worth_of
  worth_glyph h = go (ltb d 10) refl
    where
      figured : (x : ℕ) → x ≡ 48 + d → d < 10 → worth_of x ≡ Some d
      figured x e k = let z : x - 48 ≡ d = omega arith in rw (le-ltb x 48 (omega arith), lt-ltb x 58 (omega arith), z)

      lettered : (x : ℕ) → x ≡ 87 + d → 10 ≤ d → worth_of x ≡ Some d
      lettered x e k = let z : x - 87 ≡ d = omega arith in rw (le-ltb x 48 (omega arith), le-ltb x 58 (omega arith), le-ltb x 97 (omega arith), lt-ltb x 103 (omega arith), z)

      go : (t : Bool) → ltb d 10 ≡ t → worth_of (glyph d) ≡ Some d
      go true e = let k = ltb-true d 10 e in figured (glyph d) (glyph_low k) k
      go false e = let k = ltb-false d 10 e in lettered (glyph d) (glyph_high k) k

glyph_worth : (x d : ℕ) → worth_of x ≡ Some d → x ≡ glyph d
glyph_worth x d e = go (worth x)
  where
    go : Worth x → x ≡ glyph d
    go (worthless f) = absurd (not_some (sym f ∙ e))
    go (figure a b f) = let q : x - 48 ≡ d = is_same (sym f ∙ e) in omega (arith, glyph_low d (omega arith), q)
    go (letter a b f) = let q : x - 87 ≡ d = is_same (sym f ∙ e) in omega (arith, glyph_high d (omega arith), q)

-- ---- one digit more

module _ (b s : ℕ) where
  spell_none : (n : ℕ) → spelled b s 0 n ≡ []
  unfolding spelled
  spell_none n = refl

  spell_short : (k n : ℕ) → n < s → spelled b s (suc k) n ≡ glyph n ∷ []
  unfolding spelled
  spell_short k n h = rw (spelled, lt-ltb n s h)

  spell_more : (k n : ℕ) → s ≤ n → spelled b s (suc k) n ≡ spelled b s k (n / b) ++ (glyph (n % b) ∷ [])
  unfolding spelled
  spell_more k n h = rw (spelled, le-ltb n s h)

value_snoc : (b : ℕ) (l : List ℕ) (n m x : ℕ) → value_from b n l ≡ Some m → value_from b n (l ++ (x ∷ [])) ≡ value_from b m (x ∷ [])
value_snoc b [] n m x e = let q : n ≡ m = is_same (sym (value_none b n) ∙ e) in rw q
value_snoc b (y ∷ l) n m x e = go (λ d f. value_snoc b l (n * b + d) m x f) (digit_of b y)
  where
    go : ((d : ℕ) → value_from b (n * b + d) l ≡ Some m → value_from b (n * b + d) (l ++ (x ∷ [])) ≡ value_from b m (x ∷ [])) → Digit b y → value_from b n (y ∷ (l ++ (x ∷ []))) ≡ value_from b m (x ∷ [])
    go r (no_digit f) = absurd (not_some (sym (f n l) ∙ e))
    go r (digit d _ _ f) = f n (l ++ (x ∷ [])) ∙ r d (sym (f n l) ∙ e)

-- ---- what is written is read

module _ (b s : ℕ) (some : 0 < b) (hex : b ≤ 16) (low : s ≤ b) where
  value_glyph : (n d : ℕ) → d < b → value_from b n (glyph d ∷ []) ≡ Some (n * b + d)
  value_glyph n d h = value_next b n (glyph d) [] (worth_glyph d (omega arith)) h ∙ value_none b (n * b + d)

  value_spelled : (k n : ℕ) → n < b ^ k → value_of b (spelled b s k n) ≡ Some n
  value_spelled zero n h =
      let z : n ≡ 0 = omega (arith, pow-zero b) in
      rw (spell_none b s n, z) (value_none b 0)
  value_spelled (suc k) n h = go (value_spelled k (n / b) below) (ltb n s) refl
    where
      below : n / b < b ^ k
      below = (div-lt_iff_lt-mul some).1 (rw (pow-suc b k) at h)

      go : value_of b (spelled b s k (n / b)) ≡ Some (n / b) → (t : Bool) → ltb n s ≡ t → value_of b (spelled b s (suc k) n) ≡ Some n
      go r true e =
          let l = ltb-true n s e in
          let z : 0 * b + n ≡ n = omega arith in
          rw (spell_short b s k n l) (value_glyph 0 n (omega arith) ∙ ap Some z)
      go r false e =
          rw (spell_more b s k n (ltb-false n s e))
          (value_snoc b (spelled b s k (n / b)) 0 (n / b) (glyph (n % b)) r ∙ value_glyph (n / b) (n % b) (mod-lt n some) ∙ ap Some (div-add-mod' n b))

-- ---- what is read is written

-- p is how m is written, l follows, and m with a digit more is not below `short`
module _ (b s : ℕ) (some : 0 < b) (hex : b ≤ 16) where
  spelled_value : (l p : List ℕ) (k m n : ℕ) → p ≡ spelled b s k m → s ≤ m * b → value_from b m l ≡ Some n → p ++ l ≡ spelled b s (k + length l) n
  spelled_value [] p k m n e h v =
      let q : m ≡ n = is_same (sym (value_none b m) ∙ v) in
      rw (append-nil p, add-zero k, ← q) e
  spelled_value (x ∷ l) p k m n e h v = go (λ d f g w. spelled_value l (p ++ (x ∷ [])) (suc k) (m * b + d) n f g w) (digit_of b x)
    where
      go : ((d : ℕ) → p ++ (x ∷ []) ≡ spelled b s (suc k) (m * b + d) → s ≤ (m * b + d) * b → value_from b (m * b + d) l ≡ Some n → p ++ (x ∷ []) ++ l ≡ spelled b s (suc k + length l) n) → Digit b x → p ++ (x ∷ l) ≡ spelled b s (k + suc (length l)) n
      go r (no_digit f) = absurd (not_some (sym (f m l) ∙ v))
      go r (digit d w low f) =
          let z : k + suc (length l) ≡ suc k + length l = omega arith in
          let g : x ≡ glyph d = glyph_worth x d w in
          let y : spelled b s (suc k) (m * b + d) ≡ spelled b s k m ++ (glyph d ∷ []) = spell_more b s k (m * b + d) (omega arith) ∙ rw (digits_div m low, digits_mod m low) in
          let u : p ++ (x ∷ []) ≡ spelled b s (suc k) (m * b + d) = sym (y ∙ rw (← e, ← g)) in
          let o : s ≤ (m * b + d) * b = le_trans (omega arith) (le-mul_of_pos_right (m * b + d) some) in
          rw z (sym (append_assoc p (x ∷ []) l) ∙ r d u o (sym (f m l) ∙ v))

-- ---- 16 hex digits

length_spelled : (b k n : ℕ) → length (spelled b 0 k n) ≡ k
length_spelled b zero n = rw (spell_none b 0 n)
length_spelled b (suc k) n = rw (spell_more b 0 k n (omega arith)) (length-append (spelled b 0 k (n / b)) (glyph (n % b) ∷ []) ∙ omega (arith, length_spelled b k (n / b)))

pub length_sixteen : (n : ℕ) → length (sixteen n) ≡ 16
length_sixteen n = length_spelled 16 16 n

pub hex_sixteen : (n : ℕ) → n < 18446744073709551616 → hex_of (sixteen n) ≡ Some n
hex_sixteen n h = sym (hex_spelled (sixteen n) (length_sixteen n) (sym (value_spelled 16 0 (omega arith) (omega arith) (omega arith) 16 n h)))

hex_value : (l : List ℕ) (n : ℕ) → hex_of l ≡ Some n → (length l ≡ 16) × (value_of 16 l ≡ Some n)
hex_value l n e = go (eqb (length l) 16) refl
  where
    go : (t : Bool) → eqb (length l) 16 ≡ t → (length l ≡ 16) × (value_of 16 l ≡ Some n)
    go true f = let k = eqb-true (length l) 16 f in (k, hex_spelled l k refl ∙ e)
    go false f = absurd (not_some (hex_not l (eqb-false (length l) 16 f) ∙ e))

pub sixteen_hex : (l : List ℕ) (n : ℕ) → hex_of l ≡ Some n → l ≡ sixteen n
sixteen_hex l n e =
    let v = hex_value l n e in
    let z : 0 + length l ≡ 16 = omega (arith, v.0) in
    rw z at (spelled_value 16 0 (omega arith) (omega arith) l [] 0 0 n (sym (spell_none 16 0 0)) (omega arith) v.1)

pub hex_below : (l : List ℕ) (n : ℕ) → hex_of l ≡ Some n → n < 18446744073709551616
hex_below l n e =
    let v = hex_value l n e in
    let k : n < 16 ^ (0 + length l) = value_below 16 l 0 0 n (rw (pow-zero 16) (omega arith)) v.1 in
    let z : 0 + length l ≡ 16 = omega (arith, v.0) in
    rw z at k

-- ---- decimal digits

-- a text that begins with no zero
data Led : List ℕ → Type 0 where
  led : {x : ℕ} {l : List ℕ} → (x ≡ 48 → ⊥) → Led (x ∷ l)

led_snoc : {l : List ℕ} → Led l → (y : ℕ) → Led (l ++ (y ∷ []))
led_snoc (led f) y = led f

led_some : {l : List ℕ} → Led l → length l ≡ 0 → ⊥
led_some (led f) e = omega (arith, e)

led_first : {l : List ℕ} → Led l → get_or l 0 0 ≡ 48 → ⊥
led_first (led f) e = f e

decimal_led : (k n : ℕ) → 0 < n → n < 10 ^ k → Led (spelled 10 10 k n)
decimal_led zero n a h = absurd (omega arith)
decimal_led (suc k) n a h = go (λ b c. decimal_led k (n / 10) b c) (ltb n 10) refl
  where
    go : (0 < n / 10 → n / 10 < 10 ^ k → Led (spelled 10 10 k (n / 10))) → (t : Bool) → ltb n 10 ≡ t → Led (spelled 10 10 (suc k) n)
    go r true e =
        let l = ltb-true n 10 e in
        let g = glyph_low n l in
        let o : glyph n ≡ 48 → ⊥ = λ q. omega (arith, g, q) in
        rw (spell_short 10 10 k n l) (led o)
    go r false e =
        let l = ltb-false n 10 e in
        rw (spell_more 10 10 k n l) (led_snoc (r (omega arith) (omega arith)) (glyph (n % 10)))

decimal_short : (k j n : ℕ) → n < 10 ^ suc j → length (spelled 10 10 k n) ≤ suc j
decimal_short zero j n h = rw (spell_none 10 10 n) (omega arith)
decimal_short (suc k) j n h = go j h (λ i f. decimal_short k i (n / 10) f) (ltb n 10) refl
  where
    go : (j : ℕ) → n < 10 ^ suc j → ((i : ℕ) → n / 10 < 10 ^ suc i → length (spelled 10 10 k (n / 10)) ≤ suc i) → (t : Bool) → ltb n 10 ≡ t → length (spelled 10 10 (suc k) n) ≤ suc j
    go j h r true e = rw (spell_short 10 10 k n (ltb-true n 10 e)) (omega arith)
    go zero h r false e = let l = ltb-false n 10 e in absurd (omega arith)
    go (suc i) h r false e =
        let l = ltb-false n 10 e in
        let s : length (spelled 10 10 k (n / 10)) ≤ suc i = r i (omega arith) in
        rw (spell_more 10 10 k n l, length-append (spelled 10 10 k (n / 10)) (glyph (n % 10) ∷ [])) (omega arith)

pub decimal_length : (n : ℕ) → n < 100000 → length (decimal n) ≤ 5
decimal_length n h = decimal_short 20 4 n h

number_decimal_zero : number_of (decimal 0) ≡ Some 0
unfolding number_of spelled glyph
number_decimal_zero = refl

pub number_decimal : (n : ℕ) → n < 100000 → number_of (decimal n) ≡ Some n
number_decimal n h = go (ltb 0 n) refl
  where
    go : (t : Bool) → ltb 0 n ≡ t → number_of (decimal n) ≡ Some n
    go true e =
        let f : Led (decimal n) = decimal_led 20 n (ltb-true 0 n e) (omega arith) in
        let v = value_spelled 10 10 (omega arith) (omega arith) (omega arith) 20 n (omega arith) in
        sym (number_spelled (decimal n) (led_some f) (decimal_length n h) (led_first f) (sym v))
    go false e =
        let z : n ≡ 0 = omega (arith, ltb-false 0 n e) in
        rw z number_decimal_zero

decimal_zero : decimal 0 ≡ 48 ∷ []
unfolding spelled glyph
decimal_zero = refl

pub decimal_number : (l : List ℕ) (n : ℕ) → number_of l ≡ Some n → l ≡ decimal n
decimal_number [] n e = absurd (not_some (number_empty [] refl ∙ e))
decimal_number (x ∷ l) n e = first (ltb 4 (length l)) refl
  where
    some : suc (length l) ≡ 0 → ⊥
    some q = omega (arith, q)

    -- the first digit, and the rest behind it
    plain : length l ≤ 4 → (x ≡ 48 → ⊥) → x ∷ l ≡ decimal n
    plain a c = go (digit_of 10 x)
      where
        v : value_of 10 (x ∷ l) ≡ Some n
        v = number_spelled (x ∷ l) some (omega (arith, a)) c refl ∙ e

        go : Digit 10 x → x ∷ l ≡ decimal n
        go (no_digit f) = absurd (not_some (sym (f 0 l) ∙ v))
        go (digit d w low f) =
            let g : x ≡ glyph d = glyph_worth x d w in
            let s = glyph_low d low in
            let z : 0 * 10 + d ≡ d = omega arith in
            let r : value_from 10 d l ≡ Some n = rw z at (sym (f 0 l) ∙ v) in
            let p : x ∷ [] ≡ spelled 10 10 (suc (19 - length l)) d = sym (spell_short 10 10 (19 - length l) d low ∙ rw (← g)) in
            let o : d ≡ 0 → ⊥ = λ q. c (omega (arith, g, s, q)) in
            let k : suc (19 - length l) + length l ≡ 20 = omega arith in
            rw k at (spelled_value 10 10 (omega arith) (omega arith) l (x ∷ []) (suc (19 - length l)) d n p (omega (arith, o)) r)

    alone : x ≡ 48 → length l ≤ 4 → (t : Bool) → ltb 0 (length l) ≡ t → x ∷ l ≡ decimal n
    alone q a true f = absurd (not_some (number_led (x ∷ l) some (omega (arith, a)) q (omega (arith, ltb-true 0 (length l) f)) ∙ e))
    alone q a false f =
        let k = ltb-false 0 (length l) f in
        let z : 0 ≡ n = is_same (number_zero (x ∷ l) some (omega (arith, a)) q (omega (arith, k)) ∙ e) in
        rw (← z, decimal_zero, q) (bare l k)
      where
        bare : (r : List ℕ) → length r ≤ 0 → 48 ∷ r ≡ 48 ∷ []
        bare [] h = refl
        bare (y ∷ r) h = absurd (omega (arith, h))

    second : length l ≤ 4 → (t : Bool) → eqb x 48 ≡ t → x ∷ l ≡ decimal n
    second a true f = alone (eqb-true x 48 f) a (ltb 0 (length l)) refl
    second a false f = plain a (eqb-false x 48 f)

    first : (t : Bool) → ltb 4 (length l) ≡ t → x ∷ l ≡ decimal n
    first true f = absurd (not_some (number_long (x ∷ l) some (omega (arith, ltb-true 4 (length l) f)) ∙ e))
    first false f = second (ltb-false 4 (length l) f) (eqb x 48) refl

number_below : (l : List ℕ) (n : ℕ) → number_of l ≡ Some n → n < 100000
number_below l n e = first (eqb (length l) 0) refl
  where
    led : (length l ≡ 0 → ⊥) → length l ≤ 5 → get_or l 0 0 ≡ 48 → (t : Bool) → ltb 1 (length l) ≡ t → n < 100000
    led a b c true f = absurd (not_some (number_led l a b c (ltb-true 1 (length l) f) ∙ e))
    led a b c false f = let z : 0 ≡ n = is_same (number_zero l a b c (ltb-false 1 (length l) f) ∙ e) in omega (arith, z)

    third : (length l ≡ 0 → ⊥) → length l ≤ 5 → (t : Bool) → eqb (get_or l 0 0) 48 ≡ t → n < 100000
    third a b true f = led a b (eqb-true (get_or l 0 0) 48 f) (ltb 1 (length l)) refl
    third a b false f = spelled_below l (number_spelled l a b (eqb-false (get_or l 0 0) 48 f) refl ∙ e) b

    second : (length l ≡ 0 → ⊥) → (t : Bool) → ltb 5 (length l) ≡ t → n < 100000
    second a true f = absurd (not_some (number_long l a (ltb-true 5 (length l) f) ∙ e))
    second a false f = third a (ltb-false 5 (length l) f) (eqb (get_or l 0 0) 48) refl

    first : (t : Bool) → eqb (length l) 0 ≡ t → n < 100000
    first true f = absurd (not_some (number_empty l (eqb-true (length l) 0 f) ∙ e))
    first false f = second (eqb-false (length l) 0 f) (ltb 5 (length l)) refl

-- ---- parts and what they are joined to

-- a text without the separator
pub data Free (s : ℕ) : List ℕ → Type 0 where
  bare : Free s []
  more : {x : ℕ} {l : List ℕ} → (x ≡ s → ⊥) → Free s l → Free s (x ∷ l)

pub parts_free : {s : ℕ} {l : List ℕ} → Free s l → parts s l ≡ l ∷ []
parts_free {s} bare = parts_none s
parts_free {s} (more {x = x} {l = l} f r) = parts_later s x l f ∙ ap (onto_first x) (parts_free r)

pub parts_split : {s : ℕ} {p : List ℕ} → Free s p → (r : List ℕ) → parts s (p ++ (s ∷ r)) ≡ p ∷ parts s r
parts_split {s} bare r = parts_here s s r refl
parts_split {s} (more {x = x} {l = l} f q) r = parts_later s x (l ++ (s ∷ r)) f ∙ ap (onto_first x) (parts_split q r)

-- there is always a part
pub data HasPart : List (List ℕ) → Type 0 where
  some : (q : List ℕ) (qs : List (List ℕ)) → HasPart (q ∷ qs)

some_onto : (x : ℕ) (ps : List (List ℕ)) → HasPart (onto_first x ps)
some_onto x [] = some (x ∷ []) []
some_onto x (p ∷ ps) = some (x ∷ p) ps

pub some_parts : (s : ℕ) (l : List ℕ) → HasPart (parts s l)
some_parts s [] = rw (parts_none s) (some [] [])
some_parts s (x ∷ l) = go (eqb x s) refl
  where
    go : (t : Bool) → eqb x s ≡ t → HasPart (parts s (x ∷ l))
    go true e = rw (parts_here s x l (eqb-true x s e)) (some [] (parts s l))
    go false e = rw (parts_later s x l (eqb-false x s e)) (some_onto x (parts s l))

abbrev joined : List (List ℕ) → List ℕ
joined [] = []
joined (p ∷ ps) = p ++ tabbed ps

joined_onto : (x : ℕ) (ps : List (List ℕ)) → joined (onto_first x ps) ≡ x ∷ joined ps
unfolding tabbed
joined_onto x [] = refl
joined_onto x (p ∷ ps) = refl

tabbed_some : {ps : List (List ℕ)} → HasPart ps → tabbed ps ≡ 9 ∷ joined ps
unfolding tabbed
tabbed_some (some q qs) = refl

joined_parts : (l : List ℕ) → joined (parts 9 l) ≡ l
unfolding tabbed
joined_parts [] = rw (parts_none 9)
joined_parts (x ∷ l) = go (joined_parts l) (eqb x 9) refl
  where
    go : joined (parts 9 l) ≡ l → (t : Bool) → eqb x 9 ≡ t → joined (parts 9 (x ∷ l)) ≡ x ∷ l
    go r true e = let q = eqb-true x 9 e in rw (parts_here 9 x l q, q) (tabbed_some (some_parts 9 l) ∙ rw r)
    go r false e = rw (parts_later 9 x l (eqb-false x 9 e)) (joined_onto x (parts 9 l) ∙ rw r)

-- fields without tabs
data Plain : List (List ℕ) → Type 0 where
  none : Plain []
  field : {f : List ℕ} {fs : List (List ℕ)} → Free 9 f → Plain fs → Plain (f ∷ fs)

parts_tabbed : {p : List ℕ} {fs : List (List ℕ)} → Free 9 p → Plain fs → parts 9 (p ++ tabbed fs) ≡ p ∷ fs
unfolding tabbed
parts_tabbed {p} f none = rw (append-nil p) (parts_free f)
parts_tabbed {p} f (field {f = g} {fs = fs} h r) = parts_split f (g ++ tabbed fs) ∙ ap (λ (ps : List (List ℕ)). p ∷ ps) (parts_tabbed h r)

glyph_free : (d : ℕ) → glyph d ≡ 9 → ⊥
glyph_free d q = go (ltb d 10) refl
  where
    go : (t : Bool) → ltb d 10 ≡ t → ⊥
    go true e = omega (arith, glyph_low d (ltb-true d 10 e), q)
    go false e = omega (arith, glyph_high d (ltb-false d 10 e), q)

free_snoc : {s : ℕ} {l : List ℕ} → Free s l → (y : ℕ) → (y ≡ s → ⊥) → Free s (l ++ (y ∷ []))
free_snoc bare y f = more f bare
free_snoc (more g r) y f = more g (free_snoc r y f)

pub free_spelled : (b s k n : ℕ) → Free 9 (spelled b s k n)
free_spelled b s zero n = rw (spell_none b s n) bare
free_spelled b s (suc k) n = go (free_spelled b s k (n / b)) (ltb n s) refl
  where
    go : Free 9 (spelled b s k (n / b)) → (t : Bool) → ltb n s ≡ t → Free 9 (spelled b s (suc k) n)
    go r true e = rw (spell_short b s k n (ltb-true n s e)) (more (glyph_free n) bare)
    go r false e = rw (spell_more b s k n (ltb-false n s e)) (free_snoc r (glyph (n % b)) (glyph_free (n % b)))

-- ---- a line by its parts

module _ (l : List ℕ) where
  vertex_line : (f g h : List ℕ) → parts 9 l ≡ (86 ∷ []) ∷ f ∷ g ∷ h ∷ [] → record_of l ≡ vertex_of (hex_of f) (hex_of g) (hex_of h)
  unfolding record_of shaped_as field_of
  vertex_line f g h e = rw e

  element_line : (f g h i : List ℕ) → parts 9 l ≡ (84 ∷ []) ∷ f ∷ g ∷ h ∷ i ∷ [] → record_of l ≡ element_of (number_of f) (number_of g) (number_of h) (number_of i)
  unfolding record_of shaped_as field_of
  element_line f g h i e = rw e

  mark_line : (f : List ℕ) → parts 9 l ≡ (77 ∷ []) ∷ f ∷ [] → record_of l ≡ mark_of (number_of f)
  unfolding record_of shaped_as field_of
  mark_line f e = rw e

-- ---- written lines are read

module _ (c : ℕ) (f : c ≡ 9 → ⊥) {fs : List (List ℕ)} where
  parts_line : Plain fs → parts 9 (c ∷ tabbed fs) ≡ (c ∷ []) ∷ fs
  parts_line h = parts_tabbed (more f bare) h

pub vertex_read : (a b c p : ℕ) → a < 18446744073709551616 → b < 18446744073709551616 → c < 18446744073709551616 → line_of (86 ∷ tabbed (sixteen a ∷ sixteen b ∷ sixteen c ∷ [])) p ≡ Vertex (of_bits binary64 a) (of_bits binary64 b) (of_bits binary64 c)
unfolding vertex_of
vertex_read a b c p ha hb hc =
    let w = free_spelled 16 0 16 in
    line_record (86 ∷ tabbed (sixteen a ∷ sixteen b ∷ sixteen c ∷ [])) p
    (vertex_line (86 ∷ tabbed (sixteen a ∷ sixteen b ∷ sixteen c ∷ [])) (sixteen a) (sixteen b) (sixteen c) (parts_line 86 (λ q. omega (arith, q)) (field (w a) (field (w b) (field (w c) none))))
    ∙ rw (hex_sixteen a ha, hex_sixteen b hb, hex_sixteen c hc))

pub element_read : (a b c d p : ℕ) → a < 100000 → b < 100000 → c < 100000 → d < 100000 → line_of (84 ∷ tabbed (decimal a ∷ decimal b ∷ decimal c ∷ decimal d ∷ [])) p ≡ Element a b c d
unfolding element_of
element_read a b c d p ha hb hc hd =
    let w = free_spelled 10 10 20 in
    line_record (84 ∷ tabbed (decimal a ∷ decimal b ∷ decimal c ∷ decimal d ∷ [])) p
    (element_line (84 ∷ tabbed (decimal a ∷ decimal b ∷ decimal c ∷ decimal d ∷ [])) (decimal a) (decimal b) (decimal c) (decimal d) (parts_line 84 (λ q. omega (arith, q)) (field (w a) (field (w b) (field (w c) (field (w d) none)))))
    ∙ rw (number_decimal a ha, number_decimal b hb, number_decimal c hc, number_decimal d hd))

pub mark_read : (a p : ℕ) → a < 100000 → line_of (77 ∷ tabbed (decimal a ∷ [])) p ≡ Mark a
unfolding mark_of
mark_read a p ha =
    line_record (77 ∷ tabbed (decimal a ∷ [])) p
    (mark_line (77 ∷ tabbed (decimal a ∷ [])) (decimal a) (parts_line 77 (λ q. omega (arith, q)) (field (free_spelled 10 10 20 a) none)) ∙ rw (number_decimal a ha))

-- ---- read lines are written

-- the letter is a part of its own, and the fields are so many
shaped_parts : (l : List ℕ) (c n : ℕ) → shaped_as l c n ≡ true → (fs : List (List ℕ)) × (length fs ≡ n) × (parts 9 l ≡ (c ∷ []) ∷ fs)
unfolding shaped_as field_of
shaped_parts l c n = go (parts 9 l) refl
  where
    first : (f : List ℕ) (fs : List (List ℕ)) → parts 9 l ≡ f ∷ fs → (t : Bool) → bytes_eq f (c ∷ []) ≡ t → (t && eqb (suc (length fs)) (n + 1)) ≡ true → (fs : List (List ℕ)) × (length fs ≡ n) × (parts 9 l ≡ (c ∷ []) ∷ fs)
    first f fs e true q h =
        let k = eqb-true (suc (length fs)) (n + 1) h in
        (fs, omega (arith, k), e ∙ rw ((bytes_eq-Decides f (c ∷ [])).0 q))
    first f fs e false q h = absurd (true≢false (sym h))

    go : (ps : List (List ℕ)) → parts 9 l ≡ ps → (bytes_eq (get_or ps 0 []) (c ∷ []) && eqb (length ps) (n + 1)) ≡ true → (fs : List (List ℕ)) × (length fs ≡ n) × (parts 9 l ≡ (c ∷ []) ∷ fs)
    go [] e h = absurd (true≢false (sym h))
    go (f ∷ fs) e h = first f fs e (bytes_eq f (c ∷ [])) refl h

-- what a line gives, and how that is written
pub data Written (l : List ℕ) (p : ℕ) : Line → Type 0 where
  vertex : (a b c : ℕ) → a < 18446744073709551616 → b < 18446744073709551616 → c < 18446744073709551616 → l ≡ 86 ∷ tabbed (sixteen a ∷ sixteen b ∷ sixteen c ∷ []) → Written l p (Vertex (of_bits binary64 a) (of_bits binary64 b) (of_bits binary64 c))
  element : (a b c d : ℕ) → a < 100000 → b < 100000 → c < 100000 → d < 100000 → l ≡ 84 ∷ tabbed (decimal a ∷ decimal b ∷ decimal c ∷ decimal d ∷ []) → Written l p (Element a b c d)
  mark : (a : ℕ) → a < 100000 → l ≡ 77 ∷ tabbed (decimal a ∷ []) → Written l p (Mark a)
  refused : Written l p (Refused p)

module _ (l : List ℕ) (p : ℕ) where
  joined_line : (c : ℕ) (fs : List (List ℕ)) → parts 9 l ≡ (c ∷ []) ∷ fs → l ≡ c ∷ tabbed fs
  joined_line c fs e = sym (joined_parts l) ∙ rw e

  vertex_value : (f g h : List ℕ) → l ≡ 86 ∷ tabbed (f ∷ g ∷ h ∷ []) → (u v w : Option ℕ) → hex_of f ≡ u → hex_of g ≡ v → hex_of h ≡ w → Written l p (unwrap_or (vertex_of u v w) (Refused p))
  unfolding vertex_of
  vertex_value f g h e None v w i j k = refused
  vertex_value f g h e (Some a) None w i j k = refused
  vertex_value f g h e (Some a) (Some b) None i j k = refused
  vertex_value f g h e (Some a) (Some b) (Some c) i j k =
      vertex a b c (hex_below f a i) (hex_below g b j) (hex_below h c k) (e ∙ rw (sixteen_hex f a i, sixteen_hex g b j, sixteen_hex h c k))

  element_value : (f g h i : List ℕ) → l ≡ 84 ∷ tabbed (f ∷ g ∷ h ∷ i ∷ []) → (u v w x : Option ℕ) → number_of f ≡ u → number_of g ≡ v → number_of h ≡ w → number_of i ≡ x → Written l p (unwrap_or (element_of u v w x) (Refused p))
  unfolding element_of
  element_value f g h i e None v w x j k m n = refused
  element_value f g h i e (Some a) None w x j k m n = refused
  element_value f g h i e (Some a) (Some b) None x j k m n = refused
  element_value f g h i e (Some a) (Some b) (Some c) None j k m n = refused
  element_value f g h i e (Some a) (Some b) (Some c) (Some d) j k m n =
      element a b c d (number_below f a j) (number_below g b k) (number_below h c m) (number_below i d n) (e ∙ rw (decimal_number f a j, decimal_number g b k, decimal_number h c m, decimal_number i d n))

  mark_value : (f : List ℕ) → l ≡ 77 ∷ tabbed (f ∷ []) → (u : Option ℕ) → number_of f ≡ u → Written l p (unwrap_or (mark_of u) (Refused p))
  unfolding mark_of
  mark_value f e None j = refused
  mark_value f e (Some a) j = mark a (number_below f a j) (e ∙ rw (decimal_number f a j))

  written_vertex : (fs : List (List ℕ)) → length fs ≡ 3 → parts 9 l ≡ (86 ∷ []) ∷ fs → Written l p (line_of l p)
  unfolding line_of
  written_vertex [] n e = absurd (omega (arith, n))
  written_vertex (f ∷ []) n e = absurd (omega (arith, n))
  written_vertex (f ∷ g ∷ []) n e = absurd (omega (arith, n))
  written_vertex (f ∷ g ∷ h ∷ []) n e = rw (vertex_line l f g h e) (vertex_value f g h (joined_line 86 (f ∷ g ∷ h ∷ []) e) (hex_of f) (hex_of g) (hex_of h) refl refl refl)
  written_vertex (f ∷ g ∷ h ∷ i ∷ fs) n e = absurd (omega (arith, n))

  written_element : (fs : List (List ℕ)) → length fs ≡ 4 → parts 9 l ≡ (84 ∷ []) ∷ fs → Written l p (line_of l p)
  unfolding line_of
  written_element [] n e = absurd (omega (arith, n))
  written_element (f ∷ []) n e = absurd (omega (arith, n))
  written_element (f ∷ g ∷ []) n e = absurd (omega (arith, n))
  written_element (f ∷ g ∷ h ∷ []) n e = absurd (omega (arith, n))
  written_element (f ∷ g ∷ h ∷ i ∷ []) n e =
      rw (element_line l f g h i e) (element_value f g h i (joined_line 84 (f ∷ g ∷ h ∷ i ∷ []) e) (number_of f) (number_of g) (number_of h) (number_of i) refl refl refl refl)
  written_element (f ∷ g ∷ h ∷ i ∷ j ∷ fs) n e = absurd (omega (arith, n))

  written_mark : (fs : List (List ℕ)) → length fs ≡ 1 → parts 9 l ≡ (77 ∷ []) ∷ fs → Written l p (line_of l p)
  unfolding line_of
  written_mark [] n e = absurd (omega (arith, n))
  written_mark (f ∷ []) n e = rw (mark_line l f e) (mark_value f (joined_line 77 (f ∷ []) e) (number_of f) refl)
  written_mark (f ∷ g ∷ fs) n e = absurd (omega (arith, n))

  pub line_written : Written l p (line_of l p)
  unfolding record_of
  line_written = first (shaped_as l 86 3) refl
    where
      third : shaped_as l 86 3 ≡ false → shaped_as l 84 4 ≡ false → (t : Bool) → shaped_as l 77 1 ≡ t → Written l p (line_of l p)
      third a b true e = let s = shaped_parts l 77 1 e in written_mark s.0 s.1 s.2
      third a b false e = rw (line_refused l p (rw (a, b, e))) refused

      second : shaped_as l 86 3 ≡ false → (t : Bool) → shaped_as l 84 4 ≡ t → Written l p (line_of l p)
      second a true e = let s = shaped_parts l 84 4 e in written_element s.0 s.1 s.2
      second a false e = third a e (shaped_as l 77 1) refl

      first : (t : Bool) → shaped_as l 86 3 ≡ t → Written l p (line_of l p)
      first true e = let s = shaped_parts l 86 3 e in written_vertex s.0 s.1 s.2
      first false e = second e (shaped_as l 84 4) refl

pub vertex_written : (l : List ℕ) (p : ℕ) (x y z : Float) → line_of l p ≡ Vertex x y z → (a b c : ℕ) × (l ≡ 86 ∷ tabbed (sixteen a ∷ sixteen b ∷ sixteen c ∷ [])) × (x ≡ of_bits binary64 a) × (y ≡ of_bits binary64 b) × (z ≡ of_bits binary64 c)
vertex_written l p x y z e = go (line_written l p) e
  where
    go : {v : Line} → Written l p v → v ≡ Vertex x y z → (a b c : ℕ) × (l ≡ 86 ∷ tabbed (sixteen a ∷ sixteen b ∷ sixteen c ∷ [])) × (x ≡ of_bits binary64 a) × (y ≡ of_bits binary64 b) × (z ≡ of_bits binary64 c)
    go (vertex a b c i j k w) q = (a, b, c, w, cc, cc, cc)
    go (element a b c d i j k m w) q = let n : ◌≡◌ {A = ℕ} 0 1 = cc in absurd (omega (arith, n))
    go (mark a i w) q = let n : ◌≡◌ {A = ℕ} 0 1 = cc in absurd (omega (arith, n))
    go refused q = let n : ◌≡◌ {A = ℕ} 0 1 = cc in absurd (omega (arith, n))

pub element_written : (l : List ℕ) (p a b c d : ℕ) → line_of l p ≡ Element a b c d → l ≡ 84 ∷ tabbed (decimal a ∷ decimal b ∷ decimal c ∷ decimal d ∷ [])
element_written l p a b c d e = go (line_written l p) e
  where
    go : {v : Line} → Written l p v → v ≡ Element a b c d → l ≡ 84 ∷ tabbed (decimal a ∷ decimal b ∷ decimal c ∷ decimal d ∷ [])
    go (vertex x y z i j k w) q = let n : ◌≡◌ {A = ℕ} 0 1 = cc in absurd (omega (arith, n))
    go (element s t u v i j k m w) q =
        let f : s ≡ a = cc in
        let g : t ≡ b = cc in
        let h : u ≡ c = cc in
        let o : v ≡ d = cc in
        rw (← f, ← g, ← h, ← o) w
    go (mark r i w) q = let n : ◌≡◌ {A = ℕ} 0 1 = cc in absurd (omega (arith, n))
    go refused q = let n : ◌≡◌ {A = ℕ} 0 1 = cc in absurd (omega (arith, n))

pub mark_written : (l : List ℕ) (p r : ℕ) → line_of l p ≡ Mark r → l ≡ 77 ∷ tabbed (decimal r ∷ [])
mark_written l p r e = go (line_written l p) e
  where
    go : {v : Line} → Written l p v → v ≡ Mark r → l ≡ 77 ∷ tabbed (decimal r ∷ [])
    go (vertex x y z i j k w) q = let n : ◌≡◌ {A = ℕ} 0 1 = cc in absurd (omega (arith, n))
    go (element s t u v i j k m w) q = let n : ◌≡◌ {A = ℕ} 0 1 = cc in absurd (omega (arith, n))
    go (mark a i w) q = let f : a ≡ r = cc in rw (← f) w
    go refused q = let n : ◌≡◌ {A = ℕ} 0 1 = cc in absurd (omega (arith, n))
