-- Reading digits, numbers and floats.
use mathlib.Core.Path.{◌≡◌, refl, sym, ap, ◌∙◌, subst}
use mathlib.Core.Bool.{Bool, true, false, not, true≢false}
use mathlib.Core.List.{List, [], ◌∷◌}
use Prim.Native.Nat.{ℕ, suc, ◌+◌, ◌-◌, ◌*◌, ◌%◌, ◌^◌, ◌≤◌, ◌<◌}
use native.Mathlib.Nat.{pow-succ', le_trans, mul_comm, pow-le-pow_right, pow-zero, add-zero}
use native.Mathlib.Numerals.{add-one}
use native.Mathlib.Omega.{arith}
use borrow.Author.Tests.{le-leb, lt-leb, lt-ltb, le-ltb, eq-eqb, ne_eqb, ltb-true, ltb-false, leb-true, leb-false}
use lib.Arith.{digits_lt}
use lib.Dec.{T, ltb, leb}
use lib.Ieee.{Float, nan, inf, fin, binary64, of_bits, to_bits, nan_bits, is_nan, div, ne}
use lib.Ieee.Compare.{differs_from_itself}
use lib.Ieee.Bits.{nan_bits_above, nan_bits_is}
use Rattle.std.specs.Prelude.{Option, None, Some}
use lib.ListN.{length, get_or, drop}
use lib.Seq.{drop-cons, drop-length}
use Rattle.split.proofs.laws.Nan.{not_nan}
use Rattle.fields.specs.Digits.{worth_of, value_from, value_of, number_of, hex_of, Narrow}

-- ---- one digit

-- what a byte is worth
pub data Worth (x : ℕ) : Type 0 where
  worthless : worth_of x ≡ None → Worth x
  figure : 48 ≤ x → x < 58 → worth_of x ≡ Some (x - 48) → Worth x
  letter : 97 ≤ x → x < 103 → worth_of x ≡ Some (x - 87) → Worth x

pub worth : (x : ℕ) → Worth x
unfolding worth_of
worth x = first (ltb x 48) refl
  where
    fourth : 48 ≤ x → 58 ≤ x → 97 ≤ x → (t : Bool) → ltb x 103 ≡ t → Worth x
    fourth a b c true e = letter c (ltb-true x 103 e) (rw (le-ltb x 48 a, le-ltb x 58 b, le-ltb x 97 c, e))
    fourth a b c false e = worthless (rw (le-ltb x 48 a, le-ltb x 58 b, le-ltb x 97 c, e))

    third : 48 ≤ x → 58 ≤ x → (t : Bool) → ltb x 97 ≡ t → Worth x
    third a b true e = worthless (rw (le-ltb x 48 a, le-ltb x 58 b, e))
    third a b false e = fourth a b (ltb-false x 97 e) (ltb x 103) refl

    second : 48 ≤ x → (t : Bool) → ltb x 58 ≡ t → Worth x
    second a true e = figure a (ltb-true x 58 e) (rw (le-ltb x 48 a, e))
    second a false e = third a (ltb-false x 58 e) (ltb x 97) refl

    first : (t : Bool) → ltb x 48 ≡ t → Worth x
    first true e = worthless (rw e)
    first false e = second (ltb-false x 48 e) (ltb x 58) refl

-- ---- all digits

-- what stands between 9 and a is no digit
pub worth_between : (x : ℕ) → 58 ≤ x → x < 97 → worth_of x ≡ None
unfolding worth_of
worth_between x b h = rw (le-ltb x 48 (omega (arith, b)), le-ltb x 58 b, lt-ltb x 97 h)

module _ (b n : ℕ) where
  pub value_none : value_from b n [] ≡ Some n
  unfolding value_from
  value_none = refl

  module _ (x : ℕ) (l : List ℕ) where
    pub value_no : worth_of x ≡ None → value_from b n (x ∷ l) ≡ None
    unfolding value_from
    value_no e = rw (value_from, e)

    module _ {d : ℕ} (e : worth_of x ≡ Some d) where
      pub value_not : b ≤ d → value_from b n (x ∷ l) ≡ None
      unfolding value_from
      value_not h = rw (value_from, e, le-leb b d h)

      pub value_next : d < b → value_from b n (x ∷ l) ≡ value_from b (n * b + d) l
      unfolding value_from
      value_next h = rw (value_from, e, lt-leb b d h)

-- a byte is a digit of the base, or none
pub data Digit (b x : ℕ) : Type 0 where
  no_digit : ((n : ℕ) (l : List ℕ) → value_from b n (x ∷ l) ≡ None) → Digit b x
  digit : (d : ℕ) → worth_of x ≡ Some d → d < b → ((n : ℕ) (l : List ℕ) → value_from b n (x ∷ l) ≡ value_from b (n * b + d) l) → Digit b x

pub digit_of : (b x : ℕ) → Digit b x
digit_of b x = go (worth_of x) refl
  where
    some : (d : ℕ) → worth_of x ≡ Some d → (t : Bool) → leb b d ≡ t → Digit b x
    some d e true f = no_digit (λ n l. value_not b n x l e (leb-true b d f))
    some d e false f = let h = leb-false b d f in digit d e h (λ n l. value_next b n x l e h)

    go : (o : Option ℕ) → worth_of x ≡ o → Digit b x
    go None e = no_digit (λ n l. value_no b n x l e)
    go (Some d) e = some d e (leb b d) refl

pub not_some : {n : ℕ} → None ≡ Some n → ⊥
not_some q = let z : ◌≡◌ {A = ℕ} 0 1 = cc in omega (arith, z)

pub is_same : {m n : ℕ} → Some m ≡ Some n → m ≡ n
is_same q = cc

pub value_below : (b : ℕ) (l : List ℕ) (n i m : ℕ) → n < b ^ i → value_from b n l ≡ Some m → m < b ^ (i + length l)
value_below b [] n i m h e =
    let q : Some n ≡ Some m = sym (value_none b n) ∙ e in
    let r : n ≡ m = cc in
    rw (add-zero i, ← r) h
value_below b (x ∷ l) n i m h e = go (λ d k f. value_below b l (n * b + d) (suc i) m k f) (digit_of b x)
  where
    go : ((d : ℕ) → n * b + d < b ^ suc i → value_from b (n * b + d) l ≡ Some m → m < b ^ (suc i + length l)) → Digit b x → m < b ^ (i + suc (length l))
    go r (no_digit f) = absurd (not_some (sym (f n l) ∙ e))
    go r (digit d _ h' f) =
        let k : n * b + d < b ^ i * b = digits_lt h h' in
        let s : i + suc (length l) ≡ suc i + length l = omega arith in
        rw s (r d (rw (pow-succ' b i, mul_comm b (b ^ i)) k) (sym (f n l) ∙ e))

-- the first i digits spell n
pub record Spelling (b : ℕ) (l : List ℕ) (i n : ℕ) : Type 0 where
  pub narrow : Narrow b l
  pub within : i ≤ length l
  pub left : value_of b l ≡ value_from b n (drop i l)
  pub low : n < b ^ i

pub spelling_start : {b : ℕ} {l : List ℕ} → Narrow b l → Spelling b l 0 0
spelling_start {b} h = record { narrow = h; within = omega arith; left = refl; low = rw (pow-zero b) (omega arith) }

module _ {b i n : ℕ} {l : List ℕ} (s : Spelling b l i n) where
  module _ (h : i < length l) {o : Option ℕ} (q : o ≡ worth_of (get_or l i 0)) where
    here : drop i l ≡ get_or l i 0 ∷ drop (suc i) l
    here = drop-cons l i 0 h

    pub spelling_no : o ≡ None → None ≡ value_of b l
    spelling_no e = sym (s.left ∙ rw (here, value_no b n (get_or l i 0) (drop (suc i) l) (sym q ∙ e)))

    module _ {d : ℕ} (e : o ≡ Some d) where
      pub spelling_not : b ≤ d → None ≡ value_of b l
      spelling_not m = sym (s.left ∙ rw (here, value_not b n (get_or l i 0) (drop (suc i) l) (sym q ∙ e) m))

      module _ (m : d < b) where
        below : n * b + d < b ^ suc i
        below = let q : n * b + d < b ^ i * b = digits_lt s.low m in rw (pow-succ' b i, mul_comm b (b ^ i)) q

        top : b ^ suc i ≤ 18446744073709551616
        top = le_trans (pow-le-pow_right (omega arith) h) s.narrow.fits

        pub spelling_next : Spelling b l (i + 1) (n * b + d)
        spelling_next = rw (add-one i) record {
          narrow = s.narrow;
          within = h;
          left = s.left ∙ rw (here, value_next b n (get_or l i 0) (drop (suc i) l) (sym q ∙ e) m);
          low = below;
        }

        pub spelling_fits : n * b + d < 18446744073709551616
        spelling_fits = omega (arith, below, top)

        pub spelling_fits_first : n * b < 18446744073709551616
        spelling_fits_first = omega (arith, below, top)

  pub spelling_all : length l ≤ i → Some n ≡ value_of b l
  spelling_all h = let e : i ≡ length l = omega (arith, s.within) in sym (s.left ∙ rw (e, drop-length l, value_none b n))

pub ruleset spelling = (spelling_start, spelling_no, spelling_not, spelling_next, spelling_fits, spelling_fits_first, spelling_all)

-- ---- numbers

module _ (l : List ℕ) where
  pub number_empty : length l ≡ 0 → None ≡ number_of l
  unfolding number_of
  number_empty e = rw (eq-eqb (length l) 0 e)

  module _ (a : length l ≡ 0 → ⊥) where
    pub number_long : 5 < length l → None ≡ number_of l
    unfolding number_of
    number_long h = rw (ne_eqb (length l) 0 a, lt-ltb 5 (length l) h)

    module _ (b : length l ≤ 5) where
      pub number_led : get_or l 0 0 ≡ 48 → 1 < length l → None ≡ number_of l
      unfolding number_of
      number_led e h = rw (ne_eqb (length l) 0 a, le-ltb 5 (length l) b, eq-eqb (get_or l 0 0) 48 e, lt-ltb 1 (length l) h)

      pub number_zero : get_or l 0 0 ≡ 48 → length l ≤ 1 → Some 0 ≡ number_of l
      unfolding number_of
      number_zero e h = rw (ne_eqb (length l) 0 a, le-ltb 5 (length l) b, eq-eqb (get_or l 0 0) 48 e, le-ltb 1 (length l) h)

      pub number_spelled : (get_or l 0 0 ≡ 48 → ⊥) → {v : Option ℕ} → v ≡ value_of 10 l → v ≡ number_of l
      unfolding number_of
      number_spelled e q = rw (ne_eqb (length l) 0 a, le-ltb 5 (length l) b, ne_eqb (get_or l 0 0) 48 e) q

  pub spelled_below : {n : ℕ} → value_of 10 l ≡ Some n → length l ≤ 5 → n < 100000
  spelled_below {n} e h =
      let k : n < 10 ^ (0 + length l) = value_below 10 l 0 0 n (rw (pow-zero 10) (omega arith)) e in
      let s : 0 + length l ≤ 5 = omega (arith, h) in
      let m : 10 ^ (0 + length l) ≤ 10 ^ 5 = pow-le-pow_right (omega arith) s in
      omega (arith, k, m)

  pub hex_spelled : length l ≡ 16 → {v : Option ℕ} → v ≡ value_of 16 l → v ≡ hex_of l
  unfolding hex_of
  hex_spelled e q = rw (eq-eqb (length l) 16 e) q

  pub hex_not : (length l ≡ 16 → ⊥) → None ≡ hex_of l
  unfolding hex_of
  hex_not e = rw (ne_eqb (length l) 16 e)

-- ---- floats

nan_only : (x : Float) → is_nan x ≡ true → x ≡ nan
unfolding is_nan
nan_only nan e = refl
nan_only (inf s) e = absurd (true≢false (sym e))
nan_only (fin s m z) e = absurd (true≢false (sym e))

zero_by_zero : div binary64 (of_bits binary64 0) (of_bits binary64 0) ≡ nan
unfolding div of_bits
zero_by_zero = refl

-- what is not a number has a pattern above the infinity's, with the sign's bit taken off
pub float_nan : (n : ℕ) → 9218868437227405312 < n % 9223372036854775808 → div binary64 (of_bits binary64 0) (of_bits binary64 0) ≡ of_bits binary64 n
float_nan n h = zero_by_zero ∙ sym (nan_only (of_bits binary64 n) (sym (nan_bits_is binary64 n) ∙ nan_bits_above binary64 n ∙ lt-ltb 9218868437227405312 (n % 9223372036854775808) h))

pub float_some : (n : ℕ) → n % 9223372036854775808 ≤ 9218868437227405312 → T (not (nan_bits binary64 n))
float_some n h = subst (λ (t : Bool). T (not t)) (sym (nan_bits_above binary64 n ∙ le-ltb 9218868437227405312 (n % 9223372036854775808) h)) tt

pub bits_nan : (x : Float) → ne x x ≡ true → 9221120237041090560 ≡ to_bits binary64 x
unfolding to_bits
bits_nan x e = sym (ap (to_bits binary64) (differs_from_itself x (subst T (sym e) tt)))

pub ruleset floats = (float_nan, float_some, bits_nan, not_nan)
