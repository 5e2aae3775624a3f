-- Numbers as text (01, "The program"): what a text spells, and how a number is written.
use Rattle.std.specs.Prelude.{true, false, cond, List, [], ◌∷◌, ◌++◌, ℕ, zero, suc, ◌+◌, ◌-◌, ◌*◌, ◌/◌, ◌%◌, ◌^◌, ◌≤◌, ltb, leb, eqb, length, get_or, Option, None, Some}

-- what a byte is worth as a digit, `0` to `9`, then `a` to `f`, if it is one
unfoldable pub worth_of : ℕ → Option ℕ
worth_of x = cond (ltb x 48) None (cond (ltb x 58) (Some (x - 48)) (cond (ltb x 97) None (cond (ltb x 103) (Some (x - 87)) None)))

-- the number that digits of the base spell after those that spell n, the most significant first
unfoldable pub value_from : ℕ → ℕ → List ℕ → Option ℕ
value_from b n [] = Some n
value_from b n (x ∷ l) = elim (worth_of x) [ None ↦ None | Some d ↦ elim (leb b d) [ true ↦ None | false ↦ value_from b (n * b + d) l ] ]

abbrev pub value_of : ℕ → List ℕ → Option ℕ
value_of b l = value_from b 0 l

-- one to five decimal digits without leading zeros; zero is the single digit 0 (01, "The program")
unfoldable pub number_of : List ℕ → Option ℕ
number_of l = cond (eqb (length l) 0) None (cond (ltb 5 (length l)) None (cond (eqb (get_or l 0 0) 48) (cond (ltb 1 (length l)) None (Some 0)) (value_of 10 l)))

-- 16 lower-case hex digits (01, "The program")
unfoldable pub hex_of : List ℕ → Option ℕ
hex_of l = cond (eqb (length l) 16) (value_of 16 l) None

-- the text's digits spell a number of 64 bits
pub record Narrow (b : ℕ) (l : List ℕ) : Type 0 where
  pub fits : b ^ length l ≤ 18446744073709551616

-- ---- writing

-- the digit worth d
unfoldable pub glyph : ℕ → ℕ
glyph d = cond (ltb d 10) (48 + d) (87 + d)

-- the last digits of n, as many as given, in the base; fewer where what is left is below `short`
unfoldable pub spelled : ℕ → ℕ → ℕ → ℕ → List ℕ
spelled b short zero n = []
spelled b short (suc k) n = elim (ltb n short) [ true ↦ glyph n ∷ [] | false ↦ spelled b short k (n / b) ++ (glyph (n % b) ∷ []) ]

-- a number in decimal digits without leading zeros; zero is the single digit 0
abbrev pub decimal : ℕ → List ℕ
decimal n = spelled 10 10 20 n

-- 16 lower-case hex digits
abbrev pub sixteen : ℕ → List ℕ
sixteen n = spelled 16 0 16 n
