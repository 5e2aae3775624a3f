-- Both children keep the row invariant (000, Lemma 17 and Theorem 10), over generations alone and for any dimension n.
use mathlib.Core.Path.{◌≡◌}
use mathlib.Core.Logic.{inl, inr}
use Prim.Native.Nat.{ℕ, zero, suc, ◌+◌, ◌≤◌, ◌<◌}
use native.Mathlib.Nat.{eq-or-lt_of_le, le_refl}
use native.Mathlib.Omega.{arith}
use Rattle.split.specs.Split.{Side, left, right}
use Rattle.split.proofs.laws.Children.{source}
use Rattle.split.proofs.laws.Places.{less, equal, more, against}
use Rattle.forest.specs.Generation.{Gen, join}
use Rattle.forest.specs.Invariant.{Front, even, older, Invariant}
use Rattle.forest.proofs.Join.{Even, Older, join_even, join_older}

-- a child's generations γ' by the parent's γ, where g is the parent's tag and μ the midpoint's generation (000, Algorithm 1)
pub record Inherits (s : Side) (n g : ℕ) (γ γ' : ℕ → Gen) (μ : Gen) : Type 0 where
  pub low : (p : ℕ) → p < g → γ' p ≡ γ (source s p)
  pub new : γ' g ≡ μ
  pub high : (p : ℕ) → g < p → p ≤ n → γ' p ≡ γ p

-- a place below the tag comes from itself or from the next, the same on one side for all places
record Shift (s : Side) (p : ℕ) : Type 0 where
  is : source s p ≡ p + source s 0
  small : source s 0 ≤ 1

shift : (s : Side) (p : ℕ) → Shift s p
shift left p = omega arith
shift right p = omega arith

-- ---- the midpoint

-- the last condition is the second child's, whose v0 is the parent's v1
record Midpoint (N g L : ℕ) (γ : ℕ → Gen) (μ : Gen) : Type 0 where
  level : μ.level ≡ suc L
  least : 1 ≤ μ.type
  most : μ.type ≤ N
  second : μ.type + (γ 1).type < N + 1 + (γ g).type

module _ {N n g L : ℕ} {γ : ℕ → Gen} (some : 1 ≤ g) (fits : g ≤ n) (i : Invariant N n g L γ) where
  -- how v0 to vg compare: levels are at most L, and vg's type is at most v1's
  front_level : (p : ℕ) → p ≤ g → (γ p).level ≤ L
  front_level zero h = elim i.front [ even e f m ↦ omega arith | older e m ↦ omega arith ]
  front_level (suc p) h = omega (arith, i.low (suc p) (omega arith) h)

  under_first : (γ g).type ≤ (γ 1).type
  under_first = elim (eq-or-lt_of_le some) [ inl e ↦ rw (← e) (le_refl (γ 1).type) | inr l ↦ omega (arith, i.falls_low 1 g (le_refl 1) l (le_refl g)) ]

  -- the midpoint by the two cases of `Front` (000, Algorithm 4)
  middle_even : (γ 0).level ≡ L → (γ 1).type < (γ 0).type → Even N (γ 0) (γ g) (join N (γ 0) (γ g))
  middle_even e f = join_even N (γ 0) (γ g) (omega (arith, i.low g some (le_refl g))) (omega (arith, under_first)) (i.most 0 (omega arith))

  middle_older : (γ 0).level < L → Older (γ g) (join N (γ 0) (γ g))
  middle_older e = join_older N (γ 0) (γ g) (omega (arith, i.low g some (le_refl g)))

  midpoint : Midpoint N g L γ (join N (γ 0) (γ g))
  midpoint =
      let l : (γ g).level ≡ L = i.low g some (le_refl g) in
      let a : 1 ≤ (γ g).type = i.least g fits in
      let b : (γ 1).type ≤ N = i.most 1 (omega arith) in
      let c : (γ 0).type ≤ N = i.most 0 (omega arith) in
      elim i.front [ even e f m ↦ omega (arith, under_first, middle_even e f) | older e m ↦ omega (arith, under_first, middle_older e) ]

  -- it comes before v(g+1), and so before all that follow
  next : g < n → (γ (suc g)).type < (join N (γ 0) (γ g)).type
  next h = elim i.front [ even e f m ↦ omega (arith, m h, middle_even e f) | older e m ↦ omega (arith, m h, middle_older e) ]

  following : (p : ℕ) → g < p → p ≤ n → (γ p).type < (join N (γ 0) (γ g)).type
  following p h k = elim (eq-or-lt_of_le h)
      [ inl e ↦ rw (← e) (next (omega arith)) | inr l ↦ omega (arith, next (omega arith), i.falls_high (suc g) p (le_refl (suc g)) l k) ]

-- ---- what both steps share: a child's vertices from the parent's tag g on, and the bounds of all types

record Back (N n g L : ℕ) (γ' : ℕ → Gen) : Type 0 where
  level : (p : ℕ) → g ≤ p → p ≤ n → (γ' p).level ≡ suc L
  falls : (p q : ℕ) → g ≤ p → p < q → q ≤ n → (γ' q).type < (γ' p).type
  least : (p : ℕ) → p ≤ n → 1 ≤ (γ' p).type
  most : (p : ℕ) → p ≤ n → (γ' p).type ≤ N

-- what the parent's vertices and the midpoint have, the child's have
every : {s : Side} {n g : ℕ} {γ γ' : ℕ → Gen} {μ : Gen} → g ≤ n → Inherits s n g γ γ' μ
    → (P : Gen → Type 0) → ((p : ℕ) → p ≤ n → P (γ p)) → P μ → (p : ℕ) → p ≤ n → P (γ' p)
every {s} {g = g} h c P old new p k = elim (against p g)
    [ less l ↦ rw (c.low p l) (old (source s p) (omega (arith, shift s p))) | equal e ↦ rw (e, c.new) new | more l ↦ rw (c.high p l k) (old p k) ]

back : {s : Side} {N n g L : ℕ} {γ γ' : ℕ → Gen} → 1 ≤ g → g ≤ n → Invariant N n g L γ → Inherits s n g γ γ' (join N (γ 0) (γ g)) → Back N n g L γ'
back {N = N} a b i c =
    let m = midpoint a b i in
    record {
      level = λ p h k. elim (eq-or-lt_of_le h) [ inl e ↦ rw (← e, c.new) m.level | inr l ↦ rw (c.high p l k) (i.high p l k) ];
      falls = λ p q h l k. elim (eq-or-lt_of_le h) [
        | inl e ↦ rw (← e, c.new, c.high q (omega arith) k) (following a b i q (omega arith) k)
        | inr m ↦ rw (c.high p m (omega arith), c.high q (omega arith) k) (i.falls_high p q m l k)
      ];
      least = every b c (λ x. 1 ≤ x.type) i.least m.least;
      most = every b c (λ x. x.type ≤ N) i.most m.most;
    }

-- ---- the two steps

-- of a tag from 2 on, the first child keeps its case and the second is in case `even`
module _ {N n g L : ℕ} {γ : ℕ → Gen} (fits : suc g ≤ n) (some : 1 ≤ g) (i : Invariant N n (suc g) L γ) where
  falls_last : (γ (suc g)).type < (γ g).type
  falls_last = i.falls_low g (suc g) some (le_refl (suc g)) (le_refl (suc g))

  front_down : (s : Side) {γ' : ℕ → Gen} → γ' 0 ≡ γ (source s 0) → γ' 1 ≡ γ (source s 1) → γ' g ≡ γ (source s g)
      → γ' (suc g) ≡ join N (γ 0) (γ (suc g)) → Front N n (suc g) L γ → Front N n g L γ'
  front_down left a b l m (even e f h) =
      even (rw a e) (rw (a, b) f) (λ _. rw (a, l, m) (omega (arith, middle_even (omega arith) fits i e f, falls_last)))
  front_down left a b l m (older e h) =
      older (rw a e) (λ _. rw (l, m) (omega (arith, middle_older (omega arith) fits i e, falls_last)))
  front_down right a b l m f =
      even (rw a (i.low 1 (le_refl 1) (omega arith))) (rw (a, b) (i.falls_low 1 2 (le_refl 1) (le_refl 2) (omega arith)))
      (λ _. rw (a, l, m) (midpoint (omega arith) fits i).second)

pub step_down : (s : Side) (N n g L : ℕ) (γ γ' : ℕ → Gen) → suc g ≤ n → 1 ≤ g → Invariant N n (suc g) L γ
    → Inherits s n (suc g) γ γ' (join N (γ 0) (γ (suc g))) → Invariant N n g L γ'
step_down s N n g L γ γ' h k i c =
    let b = back (omega arith) h i c in
    record {
      low = λ p l m. rw (c.low p (omega arith)) (i.low (source s p) (omega (arith, shift s p)) (omega (arith, shift s p)));
      high = b.level;
      falls_low = λ p q l m r. rw (c.low p (omega arith), c.low q (omega arith))
          (i.falls_low (source s p) (source s q) (omega (arith, shift s p)) (omega (arith, shift s p, shift s q)) (omega (arith, shift s q)));
      falls_high = b.falls;
      least = b.least;
      most = b.most;
      front = front_down h k i s (c.low 0 (omega arith)) (c.low 1 (omega arith)) (c.low g (omega arith)) c.new i.front;
    }

-- of tag 1, both children are in case `older` one level up
pub step_over : (s : Side) (N n L : ℕ) (γ γ' : ℕ → Gen) → 1 ≤ n → Invariant N n 1 L γ → Inherits s n 1 γ γ' (join N (γ 0) (γ 1)) → Invariant N n n (suc L) γ'
step_over s N n L γ γ' h i c =
    let b = back (le_refl 1) h i c in
    record {
      low = b.level;
      high = λ p l m. absurd (omega arith);
      falls_low = b.falls;
      falls_high = λ p q l m r. absurd (omega arith);
      least = b.least;
      most = b.most;
      front = older (rw (c.low 0 (le_refl 1)) (omega (arith, front_level (le_refl 1) h i (source s 0) (shift s 0).small))) (λ l. absurd (omega arith));
    }
