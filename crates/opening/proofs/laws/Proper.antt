-- Algorithm 2's result (000): a colour for each vertex, no two alike in an element, and no other list is made by its rule; N is the largest colour.
use mathlib.Core.Path.{◌≡◌, refl, sym, ◌∙◌}
use mathlib.Core.Bool.{true≢false}
use mathlib.Core.List.{List, [], ◌∷◌}
use Prim.Native.Nat.{ℕ, zero, suc, ◌≤◌, ◌<◌}
use native.Mathlib.Decide.{dec_le}
use native.Mathlib.Omega.{arith}
use lib.ListN.{length, get_or, take}
use lib.Seq.{take-suc, take_all}
use Rattle.intake.specs.Cells.{Cells}
use Rattle.intake.specs.Search.{free}
use Rattle.intake.specs.Causes.{vertex}
use Rattle.opening.specs.Colours.{taken, colours, colour_of, largest}
use Rattle.opening.proofs.laws.Free.{free_not}
pub use Rattle.opening.proofs.laws.Colours.{colours_length, colours_at}
use Rattle.opening.proofs.laws.Colours.{Neighbour, colour_most, taken_has, has_place}

module _ (E : Cells) where
  -- the larger of two vertices of an element looked at the smaller
  apart : (j p q : ℕ) → j < E.count → p < 4 → q < 4 → vertex E j p < vertex E j q → colour_of E (vertex E j p) ≡ colour_of E (vertex E j q) → ⊥
  apart j p q l hp hq less same = true≢false (sym (taken_has E (colours E w) w (colour_of E w) met) ∙ free_not (taken E (colours E w) w) w (omega (arith, colour_most E (vertex E j p))))
    where
      w : ℕ
      w = vertex E j q

      met : Neighbour E (colours E w) w (colour_of E w)
      met = record { element = j; place = p; there = l; four = hp; holds = has_place E j q hq; less = less; colour = colours_at E w (vertex E j p) less ∙ same }

  pub colours_proper : (n j p q : ℕ) → j < E.count → p < 4 → q < 4 → vertex E j p < vertex E j q → vertex E j q < n → get_or (colours E n) (vertex E j p) 0 ≡ get_or (colours E n) (vertex E j q) 0 → ⊥
  colours_proper n j p q l hp hq less h e = apart j p q l hp hq less (sym (colours_at E n (vertex E j p) (omega arith)) ∙ e ∙ colours_at E n (vertex E j q) h)

  -- a list in which each entry is the smallest colour free among the entries before it is the list of colours
  only_upto : (cs : List ℕ) → ((v : ℕ) → v < length cs → get_or cs v 0 ≡ free (taken E (take v cs) v) v) → (m : ℕ) → m ≤ length cs → take m cs ≡ colours E m
  unfolding colours
  only_upto cs rule zero h = refl
  only_upto cs rule (suc m) h = rw (colours, take-suc cs m 0 h, rule m (omega arith), only_upto cs rule m (omega arith))

  pub colours_only : (n : ℕ) (cs : List ℕ) → length cs ≡ n → ((v : ℕ) → v < n → get_or cs v 0 ≡ free (taken E (take v cs) v) v) → cs ≡ colours E n
  colours_only n cs s rule = sym (take_all n cs (omega arith)) ∙ only_upto cs (λ v h. rule v (omega arith)) n (omega arith)

-- ---- the largest

largest_most : (cs : List ℕ) (v : ℕ) → get_or cs v 0 ≤ largest cs
unfolding largest
largest_most [] v = omega arith
largest_most (c ∷ cs) zero = omega arith
largest_most (c ∷ cs) (suc v) = omega (arith, largest_most cs v)

largest_some : (cs : List ℕ) → 0 < length cs → (v : ℕ) × (v < length cs) × (get_or cs v 0 ≡ largest cs)
unfolding largest
largest_some [] h = absurd (omega arith)
largest_some (c ∷ []) h = (0, omega arith, omega arith)
largest_some (c ∷ (d ∷ cs)) h = go (dec_le (largest (d ∷ cs)) c) (largest_some (d ∷ cs) (omega arith))
  where
    go : Dec (largest (d ∷ cs) ≤ c) → (v : ℕ) × (v < length (d ∷ cs)) × (get_or (d ∷ cs) v 0 ≡ largest (d ∷ cs)) → (v : ℕ) × (v < length (c ∷ (d ∷ cs))) × (get_or (c ∷ (d ∷ cs)) v 0 ≡ largest (c ∷ (d ∷ cs)))
    go (yes l) r = (0, omega arith, omega arith)
    go (no l) (v, b, e) = (suc v, omega arith, omega arith)

-- N is the largest colour, and some vertex has it
pub colours_most : (E : Cells) (n v : ℕ) → get_or (colours E n) v 0 ≤ largest (colours E n)
colours_most E n v = largest_most (colours E n) v

pub colours_reached : (E : Cells) (n : ℕ) → 0 < n → (v : ℕ) × (v < n) × (get_or (colours E n) v 0 ≡ largest (colours E n))
colours_reached E n h = rw colours_length at (largest_some (colours E n) (rw colours_length h))
