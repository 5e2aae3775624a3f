-- Lines and fields (01, "The program"): the parts of a text between separators.
use Rattle.std.specs.Prelude.{Bool, cond, List, [], ◌∷◌, ◌++◌, ◌&&◌, ℕ, suc, ◌+◌, eqb, length, get_or, drop}
use Rattle.std.specs.List.{slice_split}
use Rattle.std.specs.Str.{bytes_eq}

-- the parts between separators: one more than there are separators
unfoldable pub parts : ℕ → List ℕ → List (List ℕ)
parts s l = slice_split (λ x. eqb x s) l

-- a tab before each field
unfoldable pub tabbed : List (List ℕ) → List ℕ
tabbed [] = []
tabbed (f ∷ fs) = (9 ∷ f) ++ tabbed fs

-- field k of a line: fields are parted by one tab; empty where there are fewer
unfoldable pub field_of : List ℕ → ℕ → List ℕ
field_of l k = get_or (parts 9 l) k []

-- the line is this letter and this many fields more
unfoldable pub shaped_as : List ℕ → ℕ → ℕ → Bool
shaped_as l c n = bytes_eq (field_of l 0) (c ∷ []) && eqb (length (parts 9 l)) (n + 1)

-- how many bytes stand before the first separator
unfoldable pub before : ℕ → List ℕ → ℕ
before s [] = 0
before s (x ∷ l) = cond (eqb x s) 0 (suc (before s l))

-- where the first separator at or after `from` stands, or the text's length; past the end `from` itself
unfoldable pub stop_of : ℕ → List ℕ → ℕ → ℕ
stop_of s l from = from + before s (drop from l)
