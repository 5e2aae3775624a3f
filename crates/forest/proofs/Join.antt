-- The generation of an edge by its ends: of equal levels, or of different ones. The order of the ends does not matter.
use mathlib.Core.Path.{◌≡◌, refl, subst}
use mathlib.Core.Bool.{not}
use Prim.Native.Nat.{ℕ, suc, ◌+◌, ◌≤◌, ◌<◌, compare, Ordering}
use native.Mathlib.Nat.{max_comm, min_comm}
use native.Mathlib.Omega.{arith}
use lib.Dec.{T, is_le, compare_is_eq, eqb, leb→le, nleb→lt, eqb→eq, eqb_refl}
use Rattle.forest.specs.Generation.{Gen, joined, join}

-- what `compare` answers, with what it tells
pub data Compared (a b : ℕ) : Ordering → Type 0 where
  below : a < b → Compared a b Ordering.lt
  level : a ≡ b → Compared a b Ordering.eq
  above : b < a → Compared a b Ordering.gt

pub compared : (a b : ℕ) → Compared a b (compare a b)
compared a b = go (compare a b) (leb→le a b) (nleb→lt a b) (eqb→eq a b) (λ (e : a ≡ b). subst (λ (x : ℕ). T (eqb a x)) e (eqb_refl a))
  where
    go : (o : Ordering) → (T (is_le o) → a ≤ b) → (T (not (is_le o)) → b < a) → (T (compare_is_eq o) → a ≡ b) → (a ≡ b → T (compare_is_eq o)) → Compared a b o
    go Ordering.lt h k e n = below (strict (h tt) n)
      where
        strict : a ≤ b → (a ≡ b → ⊥) → a < b
        strict l ne = omega arith
    go Ordering.eq h k e n = level (e tt)
    go Ordering.gt h k e n = above (k tt)

-- ends of equal levels, a's type being the greater
pub record Even (N : ℕ) (a b c : Gen) : Type 0 where
  pub level : c.level ≡ suc a.level
  pub type : c.type + a.type ≡ N + 1 + b.type

-- ends of which b has the greater level
pub record Older (b c : Gen) : Type 0 where
  pub level : c.level ≡ suc b.level
  pub type : c.type ≡ b.type

-- the ends are symmetric in each case
swap : (N : ℕ) (a b : Gen) → a.level ≡ b.level → joined N Ordering.eq a b ≡ joined N Ordering.eq b a
swap N a b e = rw (e, max_comm a.type b.type, min_comm a.type b.type)

pub join_commutes : (N : ℕ) (a b : Gen) → join N a b ≡ join N b a
unfolding join
join_commutes N a b = go (compare a.level b.level) (compare b.level a.level) (compared a.level b.level) (compared b.level a.level)
  where
    go : (o o' : Ordering) → Compared a.level b.level o → Compared b.level a.level o' → joined N o a b ≡ joined N o' b a
    go Ordering.lt Ordering.lt (below h) (below k) = absurd (omega arith)
    go Ordering.lt Ordering.eq (below h) (level k) = absurd (omega arith)
    go Ordering.lt Ordering.gt (below h) (above k) = refl
    go Ordering.eq Ordering.lt (level h) (below k) = absurd (omega arith)
    go Ordering.eq Ordering.eq (level h) (level k) = swap N a b h
    go Ordering.eq Ordering.gt (level h) (above k) = absurd (omega arith)
    go Ordering.gt Ordering.lt (above h) (below k) = refl
    go Ordering.gt Ordering.eq (above h) (level k) = absurd (omega arith)
    go Ordering.gt Ordering.gt (above h) (above k) = absurd (omega arith)

pub join_even : (N : ℕ) (a b : Gen) → a.level ≡ b.level → b.type ≤ a.type → a.type ≤ N → Even N a b (join N a b)
unfolding join
join_even N a b e h k = go (compare a.level b.level) (compared a.level b.level)
  where
    go : (o : Ordering) → Compared a.level b.level o → Even N a b (joined N o a b)
    go Ordering.lt (below l) = absurd (omega arith)
    go Ordering.eq (level l) = record { level = refl; type = omega arith }
    go Ordering.gt (above l) = absurd (omega arith)

pub join_older : (N : ℕ) (a b : Gen) → a.level < b.level → Older b (join N a b)
unfolding join
join_older N a b e = go (compare a.level b.level) (compared a.level b.level)
  where
    go : (o : Ordering) → Compared a.level b.level o → Older b (joined N o a b)
    go Ordering.lt (below l) = record { level = refl; type = refl }
    go Ordering.eq (level l) = absurd (omega arith)
    go Ordering.gt (above l) = absurd (omega arith)
