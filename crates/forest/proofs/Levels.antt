-- The level of an element by its depth, and what a split does to it.
use mathlib.Core.Path.{◌≡◌}
use mathlib.Core.Logic.{◌⊎◌, inl, inr}
use mathlib.Core.List.{List, ◌∷◌}
use Prim.Native.Nat.{ℕ, suc, ◌+◌, ◌*◌, ◌≤◌, ◌<◌}
use native.Mathlib.Nat.{le_refl, mul-suc}
use native.Mathlib.Omega.{arith}
use lib.ListN.{length}
use Rattle.split.specs.Split.{number, Side}
use Rattle.split.proofs.laws.Places.{le_or_lt}
use Rattle.split.proofs.laws.Tags.{tag_range}
use Rattle.forest.specs.Element.{Forest, dimension, Shape, shape_at}
use Rattle.forest.specs.Invariant.{Fits}
use Rattle.forest.specs.Level.{LevelOf}
use Rattle.forest.proofs.First.{level_low, level_most}
use Rattle.forest.proofs.Blocking.{factor_le}

-- l is 1 + d / n, the quotient rounded up (000, after equation (10); levels here are one greater)
pub record Ceiling (n d l : ℕ) : Type 0 where
  pub least : d + n ≤ n * l
  pub most : n * l < d + n + n

-- an element has no two levels
pub one_level : {N n l m : ℕ} {colour : ℕ → ℕ} {x : Shape} → LevelOf N colour n x l → LevelOf N colour n x m → l ≡ m
one_level a b = omega (arith, a.most b.place b.inside, b.most a.place a.inside)

-- an element whose tag is the dimension n has the level L of its invariant, one with a smaller tag has L + 1
pub levelled : {N n d : ℕ} {colour : ℕ → ℕ} {x : Shape} → Fits N colour n d x → (l : ℕ) × LevelOf N colour n x l × Ceiling n d l
levelled {N} {n} {d} {colour} {x} f = go (le_or_lt n (number x.tag))
  where
    one : 1 ≤ number x.tag
    one = (tag_range x.tag).0

    go : (n ≤ number x.tag) ⊎ (number x.tag < n) → (l : ℕ) × LevelOf N colour n x l × Ceiling n d l
    go (inl h) =
        let low = level_low one f.tagged f.row in
        (f.level, record { most = λ p k. low p (omega arith); place = n; inside = le_refl n; is = f.row.low n (omega (arith, one)) h }, omega (arith, one))
    go (inr h) =
        (suc f.level, record { most = level_most one f.tagged f.row; place = n; inside = le_refl n; is = f.row.high n h (le_refl n) }, omega (arith, one, mul-suc n f.level))

pub level_depth : {N n d l : ℕ} {colour : ℕ → ℕ} {x : Shape} → Fits N colour n d x → LevelOf N colour n x l → Ceiling n d l
level_depth {N} {n} {d} f a = let (l, b, c) = levelled f in rw (one_level a b) c

next : (n d l m : ℕ) → Ceiling n d l → Ceiling n (suc d) m → (l ≤ m) × (m ≤ l + 1)
next n d l m a b = let k : m ≤ suc l = factor_le n m (suc l) (omega (arith, mul-suc n l)) in (factor_le n l m (omega arith), omega arith)

-- A child's level is its parent's or one more. Inequality (11) of 000 is to be read lvl(T') ≤ lvl(T) + 1: it is printed with the + 1 on the other side.
pub child_level : (F : Forest) (N : ℕ) (colour : ℕ → ℕ) (k : ℕ) (s : Side) (p : List Side) {l m : ℕ}
    → Fits N colour (dimension F) (length p) (shape_at F k p) → Fits N colour (dimension F) (length (s ∷ p)) (shape_at F k (s ∷ p))
    → LevelOf N colour (dimension F) (shape_at F k p) l → LevelOf N colour (dimension F) (shape_at F k (s ∷ p)) m → (l ≤ m) × (m ≤ l + 1)
child_level F N colour k s p {l} {m} f g a b = next (dimension F) (length p) l m (level_depth f a) (level_depth g b)
