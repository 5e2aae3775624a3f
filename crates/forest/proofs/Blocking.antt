-- Elements with the row invariant against one another: an element that holds both ends of another's refinement edge has that edge too, or one of smaller generation.
use mathlib.Core.Path.{◌≡◌, sym, ap, ◌∙◌}
use mathlib.Core.Logic.{◌⊎◌, inl, inr}
use Prim.Native.Nat.{ℕ, suc, ◌+◌, ◌*◌, ◌≤◌, ◌<◌}
use native.Mathlib.Nat.{mul-suc, lt_of_mul-lt-mul_left}
use native.Mathlib.Decide.{ℕ_discrete}
use native.Mathlib.Omega.{arith}
use Rattle.split.specs.Split.{number, at, Holds, Distinct}
use Rattle.split.proofs.laws.Places.{Against, less, equal, more, against}
use Rattle.split.proofs.laws.Children.{far_at}
use Rattle.split.proofs.laws.Tags.{tag_range}
use Rattle.forest.specs.Element.{Shape, near, away}
use Rattle.forest.specs.Generation.{Gen, rank, join, gen, edge_gen}
use Rattle.forest.specs.Invariant.{Fits}
use Rattle.forest.proofs.Join.{join_commutes}
use Rattle.forest.proofs.First.{Oriented, oriented_once, edge_bound, edge_first, ends_apart, oriented}

-- x and y have the same refinement edge, with the same end first
pub record SameEdge (x y : Shape) : Type 0 where
  pub near : near x ≡ near y
  pub away : away x ≡ away y

-- the generation of the edge between two places
abbrev between : ℕ → (ℕ → ℕ) → Shape → ℕ → ℕ → Gen
between N colour x p q = join N (gen N colour (at x.corners p)) (gen N colour (at x.corners q))

-- the edge between two places is the refinement edge or comes later
data Later (N : ℕ) (colour : ℕ → ℕ) (x : Shape) (p q : ℕ) : Type 0 where
  own : near x ≡ at x.corners p → away x ≡ at x.corners q → Later N colour x p q
  after : rank (edge_gen N colour x) < rank (between N colour x p q) → Later N colour x p q

-- the far end by its place
pub tip : (x : Shape) → at x.corners (number x.tag) ≡ away x
tip x = far_at x.corners x.tag

-- a factor taken out of a bound
pub factor_le : (n l k : ℕ) → n * l < n * k + n → l ≤ k
factor_le n l k h = let m : l < suc k = lt_of_mul-lt-mul_left n (rw mul-suc h) in omega arith

-- ---- one element

module _ {N n d : ℕ} {colour : ℕ → ℕ} {x : Shape} (f : Fits N colour n d x) where
  pub distinct : Distinct n x.corners
  distinct = record { apart = λ p q h k e. ends_apart (tag_range x.tag).0 f.tagged f.row p q h k (ap (gen N colour) e) }

  pub ends_differ : near x ≡ away x → ⊥
  ends_differ e = omega (arith, (tag_range x.tag).0, distinct.apart 0 (number x.tag) (omega arith) f.tagged (e ∙ sym (tip x)))

  ends_oriented : Oriented (gen N colour (near x)) (gen N colour (away x))
  ends_oriented = rw (← tip x) (oriented (tag_range x.tag).0 f.tagged f.row)

  later : N ≤ 63 → (p q : ℕ) → p < q → q ≤ n → Later N colour x p q
  later small p q l k = go (ℕ_discrete p 0) (ℕ_discrete q (number x.tag))
    where
      other : (p ≡ 0 → q ≡ number x.tag → ⊥) → Later N colour x p q
      other o = after (rw (← tip x) (edge_first (tag_range x.tag).0 f.tagged f.row small p q l k o))

      go : Dec (p ≡ 0) → Dec (q ≡ number x.tag) → Later N colour x p q
      go (yes e) (yes i) = own (rw e) (rw (i, tip x))
      go (yes e) (no o) = other (λ _ i. o i)
      go (no o) i = other (λ e _. o e)

  -- bounds of the level and of the edge's generation, by the depth
  pub level_within : (k : ℕ) → d < n * k → f.level ≤ k
  level_within k h = factor_le n f.level k (omega arith)

  pub level_beyond : (k : ℕ) → n * k ≤ d → k < f.level
  level_beyond k h = lt_of_mul-lt-mul_left n (omega (arith, (tag_range x.tag).0))

  pub edge_within : N ≤ 63 → rank (edge_gen N colour x) < 64 * (f.level + 2)
  edge_within small = rw (← tip x) (edge_bound (tag_range x.tag).0 f.tagged f.row small)

  -- depth 60 is level 31 in the plane and 21 in space
  pub generation_bound : N ≤ 63 → d ≤ 60 → 2 ≤ n → rank (edge_gen N colour x) < 64 * 33
  generation_bound small h p = omega (arith, edge_within small, level_within 31 (omega arith))

  pub space_bound : N ≤ 63 → d ≤ 60 → 3 ≤ n → rank (edge_gen N colour x) < 64 * 23
  space_bound small h p = omega (arith, edge_within small, level_within 21 (omega arith))

-- ---- two elements

-- no element has the ends of another's refinement edge the other way round, so the ordered pair names the midpoint
pub one_name : {N n d e : ℕ} {colour : ℕ → ℕ} {x y : Shape} → Fits N colour n d x → Fits N colour n e y → near x ≡ away y → away x ≡ near y → ⊥
one_name f h a b = oriented_once (ends_oriented f) (rw (b, a) (ends_oriented h))

-- an element that holds both ends of another's refinement edge has that edge, or one of strictly smaller generation (000, Corollary 19)
pub blocking : {N n d e : ℕ} {colour : ℕ → ℕ} {x y : Shape} → N ≤ 63 → Fits N colour n d x → Fits N colour n e y
    → Holds n x.corners (near y) → Holds n x.corners (away y) → SameEdge x y ⊎ (rank (edge_gen N colour x) < rank (edge_gen N colour y))
blocking {N} {n} {d} {e} {colour} {x} {y} small f h a b = go (against a.place b.place)
  where
    forward : Later N colour x a.place b.place → SameEdge x y ⊎ (rank (edge_gen N colour x) < rank (edge_gen N colour y))
    forward (own i j) = inl (record { near = i ∙ a.is; away = j ∙ b.is })
    forward (after l) = inr (rw (a.is, b.is) at l)

    backward : Later N colour x b.place a.place → SameEdge x y ⊎ (rank (edge_gen N colour x) < rank (edge_gen N colour y))
    backward (own i j) = absurd (one_name f h (i ∙ b.is) (j ∙ a.is))
    backward (after l) = inr (rw (b.is, a.is, join_commutes N (gen N colour (away y))) at l)

    go : Against a.place b.place → SameEdge x y ⊎ (rank (edge_gen N colour x) < rank (edge_gen N colour y))
    go (less l) = forward (later f small a.place b.place l b.inside)
    go (equal i) = absurd (ends_differ h (sym a.is ∙ ap (at x.corners) i ∙ b.is))
    go (more l) = backward (later f small b.place a.place l a.inside)
