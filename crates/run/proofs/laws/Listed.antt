-- The rows of a list in which one leaf is split, by number.
use mathlib.Core.Path.{◌≡◌, sym, ap, ◌∙◌}
use mathlib.Core.List.{List, ◌∷◌, ◌++◌, map}
use mathlib.Core.Logic.{◌⊎◌, inl, inr}
use Prim.Native.Nat.{ℕ, ◌+◌, ◌≤◌, ◌<◌}
use native.Mathlib.Omega.{arith}
use lib.ListN.{length, get_or, take, set, length-append, length-set, get_or-append}
use lib.Seq.{get_or-append-add, get_or-set_same, get_or-set_other, take-append-le, map-set_same, take-set-le, take-set-lt, get_or-take}
use Rattle.split.specs.declared.row.Row.{Row}
use Rattle.split.specs.Row.{with_child, first_of, second_of}
use Rattle.split.proofs.laws.Places.{le_or_lt}
use Rattle.tables.specs.Layout.{no_row}
use Rattle.sound.specs.Sound.{childless}
use Rattle.run.specs.Skeleton.{row_in}
use Rattle.run.specs.Run.{cut}

-- what is appended to a list, by number
pub append_first : {A : Type 0} (l : List A) (n : ℕ) (x d : A) (xs : List A) → length l ≡ n → get_or (l ++ x ∷ xs) n d ≡ x
append_first l n x d xs e = ap (λ (k : ℕ). get_or (l ++ x ∷ xs) k d) (omega (arith, e)) ∙ get_or-append-add l (x ∷ xs) 0 d

pub append_second : {A : Type 0} (l : List A) (n : ℕ) (x y d : A) (xs : List A) → length l ≡ n → get_or (l ++ x ∷ y ∷ xs) (n + 1) d ≡ y
append_second l n x y d xs e = ap (λ (k : ℕ). get_or (l ++ x ∷ y ∷ xs) k d) (omega (arith, e)) ∙ get_or-append-add l (x ∷ y ∷ xs) 1 d

module _ (v : ℕ) (W : List Row) (s : ℕ) where
  abbrev parent : Row
  parent = with_child (row_in W s) (length W)

  set_length : length (set W s parent) ≡ length W
  set_length = length-set W s parent

  pub cut_length : length (cut v W s) ≡ length W + 2
  unfolding cut
  cut_length = length-append (set W s parent) _ ∙ ap (λ (n : ℕ). n + 2) set_length

  pub cut_old : (r : ℕ) → r < length W → (r ≡ s → ⊥) → row_in (cut v W s) r ≡ row_in W r
  unfolding cut
  cut_old r h d = get_or-append (set W s parent) _ no_row r (omega (arith, set_length)) ∙ get_or-set_other W s r parent no_row d

  pub cut_own : s < length W → row_in (cut v W s) s ≡ with_child (row_in W s) (length W)
  unfolding cut
  cut_own h = get_or-append (set W s parent) _ no_row s (omega (arith, set_length)) ∙ get_or-set_same W s parent no_row h

  pub cut_first : row_in (cut v W s) (length W) ≡ first_of (row_in W s) s v
  unfolding cut
  cut_first = append_first (set W s parent) (length W) _ no_row _ set_length

  pub cut_second : row_in (cut v W s) (length W + 1) ≡ second_of (row_in W s) s v
  unfolding cut
  cut_second = append_second (set W s parent) (length W) _ _ no_row _ set_length

  -- rows but for their first children stay
  pub cut_kept : (t : ℕ) → t ≤ length W → map childless (take t (cut v W s)) ≡ map childless (take t W)
  unfolding cut
  cut_kept t h = ap (map childless) (take-append-le t (set W s parent) _ (omega (arith, set_length))) ∙ go (le_or_lt t s)
    where
      go : (t ≤ s) ⊎ (s < t) → map childless (take t (set W s parent)) ≡ map childless (take t W)
      go (inl l) = ap (map childless) (take-set-le t W s parent l)
      go (inr l) = ap (map childless) (take-set-lt t W s parent l) ∙ map-set_same childless (take t W) s parent no_row (sym (ap childless (get_or-take t W s no_row l)))
