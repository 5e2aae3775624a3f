-- The level of a depth is rounded up, and is the level of document 000: in any dimension.
use mathlib.Core.Path.{◌≡◌}
use mathlib.Core.Logic.{◌↔◌}
use Prim.Native.Nat.{ℕ, zero, suc, ◌+◌, ◌-◌, ◌*◌, ◌/◌, ◌%◌, ◌≤◌, ◌<◌, min}
use native.Mathlib.Nat.{le_refl, mul_comm, mul-suc, mul-zero, div-lt_iff_lt-mul}
use native.Mathlib.Omega.{arith}
use Rattle.std.proofs.lemmas.Grind.{div_ceil_times}
use Rattle.split.proofs.laws.Tags.{tag_range}
use Rattle.forest.specs.Element.{Forest, dimension, Element, Shape, depth, shape}
use Rattle.forest.specs.Invariant as invariant
use Rattle.forest.specs.Level.{LevelOf}
use Rattle.forest.specs.Shallow.{root_of}
use Rattle.forest.specs.Start.{Coloured}
use Rattle.forest.proofs.Blocking.{factor_le}
use Rattle.forest.proofs.Levels.{Ceiling, levelled}
use Rattle.forest.proofs.Theory.{fits}
use Rattle.leaves.specs.Listing.{level_of}

module _ {n : ℕ} (some : 1 ≤ n) where
  -- rounded up: the level is at most k exactly if the depth is at most n k
  pub rounded_up : (d k : ℕ) → (level_of n d ≤ k) ↔ (d ≤ n * k)
  unfolding level_of
  rounded_up d k = (λ h. omega (arith, some, product, test.0 (omega arith)), λ h. omega (arith, test.1 (omega (arith, some, product))))
    where
      test : ((d + (n - 1)) / n < suc k) ↔ (d + (n - 1) < suc k * n)
      test = div-lt_iff_lt-mul some

      product : suc k * n ≡ n * k + n
      product = rw (mul_comm (suc k) n) (mul-suc n k)

  -- what the library's division gives
  pub level_ceil : (d : ℕ) → d / n + min 1 (d % n) ≡ level_of n d
  level_ceil d =
      let up : d ≤ n * level_of n d = (rounded_up d (level_of n d)).0 (le_refl (level_of n d)) in
      let (least, most) = div_ceil_times d n some in
      let low : level_of n d ≤ ceil = (rounded_up d ceil).1 (omega (arith, least, mul_comm ceil n)) in
      let high : ceil ≤ level_of n d = factor_le n ceil (level_of n d) (omega (arith, up, most, mul_comm ceil n)) in
      omega arith
    where
      ceil : ℕ
      ceil = d / n + min 1 (d % n)

-- forest's level by the depth is this level, one higher
ceiling_level : {n d : ℕ} → 1 ≤ n → (l : ℕ) → Ceiling n d l → l ≡ suc (level_of n d)
ceiling_level {n} {d} some zero c = absurd (omega (arith, some, c.least, mul-zero n))
ceiling_level {n} {d} some (suc k) c =
    let up : d ≤ n * level_of n d = (rounded_up some d (level_of n d)).0 (le_refl (level_of n d)) in
    let low : level_of n d ≤ k = (rounded_up some d k).1 (omega (arith, c.least, mul-suc n k)) in
    let high : k ≤ level_of n d = factor_le n k (level_of n d) (omega (arith, up, c.most, mul-suc n k)) in
    omega arith

pub fits_level : {N n d : ℕ} {colour : ℕ → ℕ} {x : Shape} → invariant.Fits N colour n d x → LevelOf N colour n x (suc (level_of n d))
fits_level {x = x} f = let (l, a, c) = levelled f in rw (ceiling_level (omega (arith, f.tagged, (tag_range x.tag).0)) l c) at a

-- The level of an element is the number of its splits divided by the dimension, rounded up (000, after equation (10); levels of crate forest are one higher).
pub element_level : (F : Forest) (N : ℕ) (colour : ℕ → ℕ) → Coloured F N colour → (e : Element) → root_of e < F.count → LevelOf N colour (dimension F) (shape F e) (suc (level_of (dimension F) (depth e)))
element_level F N colour c e valid = fits_level (fits F N colour c e valid)
