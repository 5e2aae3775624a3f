-- The table of colours while the vertices are coloured, one after the other.
use mathlib.Core.Path.{◌≡◌, refl, sym, ◌∙◌}
use mathlib.Core.Bool.{true}
use mathlib.Core.List.{List}
use Prim.Native.Nat.{ℕ, zero, suc, ◌+◌, ◌≤◌, ◌<◌, min, max}
use native.Mathlib.Decide.{dec_lt, ℕ_discrete}
use native.Mathlib.Numerals.{add-one}
use native.Mathlib.Omega.{arith}
use borrow.Author.Tests.{lt-ltb, le-ltb}
use lib.ListN.{length, get_or, set}
use lib.Seq.{get_or-set_same, get_or-set_other}
use Rattle.std.specs.Prelude.{Bool, false, not, Option, Some, None, cond, position}
use Rattle.std.specs.List.{position_or_len}
use Rattle.tables.specs.Layout.{most_vertices}
use Rattle.intake.specs.Cells.{Cells}
use Rattle.intake.specs.Search.{first}
use Rattle.opening.specs.Colours.{taken, colours, colour_of, garish, largest}
use Rattle.opening.specs.Scratch.{colour_in, Plain, Clear, Painted, Marks, most_of, Coloured}
use Rattle.intake.proofs.laws.Search.{first_start, first_passed, first_stopped}
use Rattle.opening.proofs.laws.Free.{free_flag, free_min}
use Rattle.opening.proofs.laws.Colours.{colours_at, colours_out, taken_last, largest_none, largest_step}

-- the flags of the smaller neighbours give the colour, where it is not over 63
pub position_colour : {E : Cells} {v : ℕ} {flags : List Bool} → Marks E v flags → position not flags ≡ cond (garish E v) None (Some (colour_of E v))
position_colour {E} {v} {flags} m = go (dec_lt 63 (colour_of E v))
  where
    first : position_or_len not flags ≡ min 64 (colour_of E v)
    first = sym (free_flag flags) ∙ rw m.size (free_min (taken E (colours E v) v) (λ c. get_or flags c false) 64 v (λ c h. sym (m.set c h)) (taken_last E v))

    go : Dec (63 < colour_of E v) → position not flags ≡ cond (garish E v) None (Some (colour_of E v))
    go (yes h) =
        let e : position_or_len not flags ≡ 64 = first ∙ omega arith in
        rw (e, m.size, lt-ltb 63 (colour_of E v) h)
    go (no h) =
        let e : position_or_len not flags ≡ colour_of E v = first ∙ omega arith in
        rw (e, m.size, le-ltb 63 (colour_of E v) (omega arith), lt-ltb (colour_of E v) 64 (omega arith))

module _ (E : Cells) (v : ℕ) where
  colour_shown : {c : ℕ} → Some c ≡ cond (garish E v) None (Some (colour_of E v)) → (c ≡ colour_of E v) × (colour_of E v ≤ 63)
  colour_shown {c} e = go (dec_lt 63 (colour_of E v))
    where
      go : Dec (63 < colour_of E v) → (c ≡ colour_of E v) × (colour_of E v ≤ 63)
      go (yes h) = let z = rw (lt-ltb 63 (colour_of E v) h) at e in absurd (cc)
      go (no h) = let z = rw (le-ltb 63 (colour_of E v) (omega arith)) at e in (cc, omega arith)

  colour_hidden : None ≡ cond (garish E v) None (Some (colour_of E v)) → garish E v ≡ true
  colour_hidden e = go (dec_lt 63 (colour_of E v))
    where
      go : Dec (63 < colour_of E v) → garish E v ≡ true
      go (yes h) = lt-ltb 63 (colour_of E v) h
      go (no h) = let z = rw (le-ltb 63 (colour_of E v) (omega arith)) at e in absurd (cc)

-- the colours that are there
painted_at : {E : Cells} {paint : List ℕ} {n : ℕ} → Painted E n paint → (v : ℕ) → v < n → colour_in paint v ≡ colour_of E v
painted_at {E} {n = n} p v h = p.colour v ∙ colours_at E n v h

pub most_none : (paint : List ℕ) → most_of paint 0 ≡ 0
unfolding most_of
most_none paint = refl

pub most_next : (paint : List ℕ) (v : ℕ) → most_of paint (v + 1) ≡ max (most_of paint v) (colour_in paint v)
unfolding most_of
most_next paint v = rw add-one

-- the largest of the colours that are there is N
pub most_largest : {E : Cells} {paint : List ℕ} {n : ℕ} → Painted E n paint → most_of paint n ≡ largest (colours E n)
most_largest {E} {paint} {n} p = go n (omega arith)
  where
    go : (v : ℕ) → v ≤ n → most_of paint v ≡ largest (colours E v)
    go zero h = most_none paint ∙ sym (largest_none E)
    go (suc v) h = rw (← add-one v) (most_next paint v ∙ rw (go v (omega arith), painted_at p v h) (sym (largest_step E v)))

-- what holds of the table when the first v vertices are coloured
pub record Colouring (E : Cells) (v : ℕ) (paint : List ℕ) : Type 0 where
  pub painted : Painted E v paint
  pub plain : first (garish E) v ≡ None

module _ (E : Cells) (paint : List ℕ) (v c : ℕ) where
  painted_set : v < length paint → Painted E v paint → c ≡ colour_of E v → c ≤ 63 → Painted E (v + 1) (set paint v c)
  painted_set room p e small = record { colour = λ u. at u (ℕ_discrete u v); small = λ u h. under u h (ℕ_discrete u v) }
    where
      new : get_or (colours E (v + 1)) v 0 ≡ c
      new = colours_at E (v + 1) v (omega arith) ∙ sym e

      old : (u : ℕ) → (u ≡ v → ⊥) → Dec (u < v) → get_or (colours E v) u 0 ≡ get_or (colours E (v + 1)) u 0
      old u d (yes l) = colours_at E v u l ∙ sym (colours_at E (v + 1) u (omega arith))
      old u d (no l) = colours_out E v u (omega arith) ∙ sym (colours_out E (v + 1) u (omega arith))

      at : (u : ℕ) → Dec (u ≡ v) → get_or (set paint v c) (u) 0 ≡ get_or (colours E (v + 1)) u 0
      at u (yes q) = rw q (get_or-set_same paint v c 0 room ∙ sym new)
      at u (no d) = get_or-set_other paint v (u) c 0 (omega arith) ∙ p.colour u ∙ old u d (dec_lt u v)

      under : (u : ℕ) → u < v + 1 → Dec (u ≡ v) → get_or (colours E (v + 1)) u 0 ≤ 63
      under u h (yes q) = rw (q, new) small
      under u h (no d) = rw (← old u d (dec_lt u v)) (p.small u (omega arith))

module _ {E : Cells} {paint : List ℕ} where
  pub colouring_start : Clear paint → Colouring E 0 paint
  unfolding colours
  colouring_start c = record { painted = record { colour = c.zeros; small = λ u h. absurd (omega arith) }; plain = first_start (garish E) }

  module _ {vertices v : ℕ} {r : Option ℕ} (w : Colouring E v paint) (more : v < vertices) (e : r ≡ cond (garish E v) None (Some (colour_of E v))) where
    pub colouring_step : {c : ℕ} → Plain vertices E → length paint ≡ most_vertices → r ≡ Some c → Colouring E (v + 1) (set paint v c)
    colouring_step {c} p n q =
        let (i, h) = colour_shown E v (sym q ∙ e) in
        record { painted = painted_set E paint v c (omega (arith, p.most)) w.painted i (omega arith); plain = first_passed (garish E) v w.plain (le-ltb 63 (colour_of E v) h) }

    pub colouring_stop : r ≡ None → Coloured vertices E (Some v) paint
    colouring_stop q = record { answer = sym (first_stopped (garish E) v vertices w.plain (colour_hidden E v (sym q ∙ e)) more); painted = λ q. absurd (found q) }
      where
        found : Some v ≡ None → ⊥
        found q = let z : ◌≡◌ {A = ℕ} 0 1 = cc in omega arith

  pub colouring_done : {vertices v : ℕ} → Colouring E v paint → v ≡ vertices → Coloured vertices E None paint
  colouring_done w e = record { answer = sym (rw e at w.plain); painted = λ q. rw e at w.painted }
