-- Two vertices brought into order, and a row made of four: what each step of the code adds.
use mathlib.Core.Path.{◌≡◌, refl, ap, ◌∙◌}
use mathlib.Core.Bool.{Bool, true, false, cond}
use Prim.Native.Nat.{ℕ, ◌≤◌, ◌<◌}
use native.Mathlib.Omega.{arith}
use borrow.Author.Tests.{ltb-true, ltb-false}
use lib.Dec.{ltb}
use Rattle.tables.specs.Layout.{most_vertices}
use Rattle.split.specs.Split.{three, number, corners}
use Rattle.split.specs.Row.{root}
use Rattle.forest.specs.Start.{arranged}
use Rattle.intake.specs.Cells.{Cells, four_of}
use Rattle.opening.specs.declared.order.Two.{Two}
use Rattle.intake.specs.declared.grid.Four.{Four}
use Rattle.opening.specs.Order.{lower, upper, sorted, root_of}
use Rattle.opening.specs.Scratch.{Plain}
use Rattle.opening.specs.Sorting.{four, in_order, Low}

abbrev two : ℕ → ℕ → Two
two a b = record { low = a; high = b }

module _ (f : ℕ → ℕ) (a b : ℕ) where
  -- what holds of both, as they stand or the other way round, holds of the two in order
  pub either : (P : ℕ → ℕ → Type 0) → (f a ≤ f b → P a b) → (f b < f a → P b a) → P (lower f a b) (upper f a b)
  either P kept swapped = go (ltb (f b) (f a)) refl
    where
      go : (t : Bool) → ltb (f b) (f a) ≡ t → P (cond t b a) (cond t a b)
      go true e = swapped (ltb-true (f b) (f a) e)
      go false e = kept (ltb-false (f b) (f a) e)

-- two vertices that have colours
pub record Known (r : Two) : Type 0 where
  pub low : r.low < most_vertices
  pub high : r.high < most_vertices

pub in_order_known : (f : ℕ → ℕ) (a b : ℕ) (r : Two) → r ≡ in_order f a b → a < most_vertices → b < most_vertices → Known r
in_order_known f a b r e h k = rw e (either f a b (λ x y. Known (two x y)) (λ _. record { low = h; high = k }) (λ _. record { low = k; high = h }))

-- the comparisons of four vertices: 0 with 1 and 2 with 3, then the lower two and the upper two, then the two between
pub record Both (p q : Two) : Type 0 where
  pub first : Known p
  pub second : Known q

module _ (f : ℕ → ℕ) where
  pub first_known : (w : Four) (p q : Two) → Low w → p ≡ in_order f w.a w.b → q ≡ in_order f w.c w.d → Both p q
  first_known w p q l e g = record { first = in_order_known f w.a w.b p e l.a l.b; second = in_order_known f w.c w.d q g l.c l.d }

  pub second_known : (p q r s : Two) → Both p q → r ≡ in_order f p.low q.low → s ≡ in_order f p.high q.high → Both r s
  second_known p q r s b e g = record {
    first = in_order_known f p.low q.low r e b.first.low b.second.low;
    second = in_order_known f p.high q.high s g b.first.high b.second.high;
  }

  pub sorted_is : (w : Four) (p q r s t : Two) → p ≡ in_order f w.a w.b → q ≡ in_order f w.c w.d → r ≡ in_order f p.low q.low → s ≡ in_order f p.high q.high → t ≡ in_order f s.low r.high → corners r.low t.low t.high s.high ≡ sorted f (four w)
  unfolding sorted
  sorted_is w p q r s t ep eq er es et = rw (et, es, er, ep, eq)

-- an element as it is read
module _ (E : Cells) (k : ℕ) {w : Four} (e : w ≡ four_of E k) where
  pub read_low : {vertices : ℕ} → Plain vertices E → k < E.count → Low w
  unfolding four_of
  read_low x h = rw e (record {
    a = omega (arith, x.there k 0 h (omega arith), x.most);
    b = omega (arith, x.there k 1 h (omega arith), x.most);
    c = omega (arith, x.there k 2 h (omega arith), x.most);
    d = omega (arith, x.there k 3 h (omega arith), x.most);
  })

  pub root_is : (N : ℕ) (f : ℕ → ℕ) (u v : Four) → four u ≡ sorted f (four w) → four v ≡ arranged three N f (four u) → root (number three) k (four v) ≡ root_of N f E k
  unfolding root_of four_of
  root_is N f u v p q = ap (root (number three) k) (q ∙ rw (p, e))
