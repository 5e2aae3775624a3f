-- The five comparisons sort four vertices by colour: the colours rise, and the vertices are the same.
use mathlib.Core.Path.{◌≡◌, refl, sym, subst}
use Prim.Native.Nat.{ℕ, zero, suc, ◌≤◌, ◌<◌, min, max}
use native.Mathlib.Omega.{arith}
use Rattle.split.specs.Split.{three, Corners, at, Holds}
use Rattle.split.proofs.laws.Places.{under}
use Rattle.forest.specs.Start.{arranged, Rising, Started}
use Rattle.opening.specs.Order.{lower, upper, outer, inner, sorted}
use Rattle.opening.proofs.laws.Sorting.{either}

-- ---- what does not depend on the order of four vertices survives the comparisons

-- exchanging two places next to each other makes every order
record Unordered (Q : ℕ → ℕ → ℕ → ℕ → Type 0) : Type 0 where
  front : (a b c d : ℕ) → Q a b c d → Q b a c d
  middle : (a b c d : ℕ) → Q a b c d → Q a c b d
  back : (a b c d : ℕ) → Q a b c d → Q a b d c

module _ (Q : ℕ → ℕ → ℕ → ℕ → Type 0) (u : Unordered Q) (f : ℕ → ℕ) (a b c d : ℕ) where
  -- after one comparison of two places
  first_two : Q a b c d → Q (lower f a b) (upper f a b) c d
  first_two q = either f a b (λ x y. Q x y c d) (λ _. q) (λ _. u.front a b c d q)

  last_two : Q a b c d → Q a b (lower f c d) (upper f c d)
  last_two q = either f c d (λ x y. Q a b x y) (λ _. q) (λ _. u.back a b c d q)

  middle_two : Q a b c d → Q a (lower f b c) (upper f b c) d
  middle_two q = either f b c (λ x y. Q a x y d) (λ _. q) (λ _. u.middle a b c d q)

  lower_two : Q a b c d → Q (lower f a c) b (upper f a c) d
  lower_two q = either f a c (λ x y. Q x b y d) (λ _. q) (λ _. u.front b c a d (u.middle b a c d (u.front a b c d q)))

  upper_two : Q a b c d → Q a (lower f b d) c (upper f b d)
  upper_two q = either f b d (λ x y. Q a x c y) (λ _. q) (λ _. u.back a d b c (u.middle a b d c (u.back a b c d q)))

sorted_keeps : (Q : ℕ → ℕ → ℕ → ℕ → Type 0) → Unordered Q → (f : ℕ → ℕ) (w : Corners ℕ) → Q w.v0 w.v1 w.v2 w.v3 → Q (sorted f w).v0 (sorted f w).v1 (sorted f w).v2 (sorted f w).v3
unfolding sorted
sorted_keeps Q u f w q =
    middle_two Q u f _ _ _ _ (upper_two Q u f _ _ _ _ (lower_two Q u f _ _ _ _ (last_two Q u f _ _ _ _ (first_two Q u f w.v0 w.v1 w.v2 w.v3 q))))

-- ---- the same vertices

-- a property of each of four vertices
record Every (P : ℕ → Type 0) (a b c d : ℕ) : Type 0 where
  v0 : P a
  v1 : P b
  v2 : P c
  v3 : P d

abbrev Each : (ℕ → Type 0) → Corners ℕ → Type 0
Each P c = Every P c.v0 c.v1 c.v2 c.v3

module _ (P : ℕ → Type 0) where
  every_unordered : Unordered (Every P)
  every_unordered = record {
    front = λ a b c d e. record { v0 = e.v1; v1 = e.v0; v2 = e.v2; v3 = e.v3 };
    middle = λ a b c d e. record { v0 = e.v0; v1 = e.v2; v2 = e.v1; v3 = e.v3 };
    back = λ a b c d e. record { v0 = e.v0; v1 = e.v1; v2 = e.v3; v3 = e.v2 };
  }

  each_at : (c : Corners ℕ) → Each P c → (p : ℕ) → P (at c p)
  each_at c e zero = e.v0
  each_at c e (suc zero) = e.v1
  each_at c e (suc (suc zero)) = e.v2
  each_at c e (suc (suc (suc p))) = e.v3

  each_held : (c : Corners ℕ) → Each P c → (x : ℕ) → Holds 3 c x → P x
  each_held c e x h = subst P h.is (each_at c e h.place)

-- what follows from such a property does not depend on the order either
follows : (Q : ℕ → ℕ → ℕ → ℕ → Type 0) → Unordered Q → (R : Type 0) → Unordered (λ a b c d. Q a b c d → R)
follows Q u R = record {
  front = λ a b c d k q. k (u.front b a c d q);
  middle = λ a b c d k q. k (u.middle a c b d q);
  back = λ a b c d k q. k (u.back a b d c q);
}

own : (c : Corners ℕ) → Each (Holds 3 c) c
own c = record {
  v0 = record { place = 0; inside = omega arith; is = refl };
  v1 = record { place = 1; inside = omega arith; is = refl };
  v2 = record { place = 2; inside = omega arith; is = refl };
  v3 = record { place = 3; inside = omega arith; is = refl };
}

-- each vertex sorted is one given, and each one given is sorted
module _ (f : ℕ → ℕ) (w : Corners ℕ) where
  each_sorted : (P : ℕ → Type 0) → Each P w → Each P (sorted f w)
  each_sorted P = sorted_keeps (Every P) (every_unordered P) f w

  each_given : (P : ℕ → Type 0) → Each P (sorted f w) → Each P w
  each_given P = sorted_keeps (λ a b c d. Every P a b c d → Each P w) (follows (Every P) (every_unordered P) (Each P w)) f w (λ e. e)

  pub sorted_of : (x : ℕ) → Holds 3 (sorted f w) x → Holds 3 w x
  sorted_of = each_held (Holds 3 w) (sorted f w) (each_sorted (Holds 3 w) (own w))

  pub sorted_has : (x : ℕ) → Holds 3 w x → Holds 3 (sorted f w) x
  sorted_has = each_held (Holds 3 (sorted f w)) w (each_given (Holds 3 (sorted f w)) (own (sorted f w)))

-- ---- the colours rise

-- different colours stay different, so that what rises weakly rises strictly
record Apart (a b c d : ℕ) : Type 0 where
  ab : a ≡ b → ⊥
  ac : a ≡ c → ⊥
  ad : a ≡ d → ⊥
  bc : b ≡ c → ⊥
  bd : b ≡ d → ⊥
  cd : c ≡ d → ⊥

apart_unordered : (f : ℕ → ℕ) → Unordered (λ a b c d. Apart (f a) (f b) (f c) (f d))
apart_unordered f = record {
  front = λ a b c d q. record { ab = λ e. q.ab (sym e); ac = q.bc; ad = q.bd; bc = q.ac; bd = q.ad; cd = q.cd };
  middle = λ a b c d q. record { ab = q.ac; ac = q.ab; ad = q.ad; bc = λ e. q.bc (sym e); bd = q.cd; cd = q.bd };
  back = λ a b c d q. record { ab = q.ab; ac = q.ad; ad = q.ac; bc = q.bd; bd = q.bc; cd = λ e. q.cd (sym e) };
}

abbrev Weakly : (ℕ → ℕ) → Corners ℕ → Type 0
Weakly f w = (f w.v0 ≤ f w.v1) × (f w.v1 ≤ f w.v2) × (f w.v2 ≤ f w.v3)

-- two pairs in order are merged by the other three comparisons
module _ (f : ℕ → ℕ) where
  lower_is : (a b : ℕ) → f (lower f a b) ≡ min (f a) (f b)
  lower_is a b = either f a b (λ x y. f x ≡ min (f a) (f b)) (λ h. omega arith) (λ h. omega arith)

  upper_is : (a b : ℕ) → f (upper f a b) ≡ max (f a) (f b)
  upper_is a b = either f a b (λ x y. f y ≡ max (f a) (f b)) (λ h. omega arith) (λ h. omega arith)

  merged : (a b c d : ℕ) → f a ≤ f b → f c ≤ f d → (w : Corners ℕ) → w ≡ inner f (outer f a b c d) → Weakly f w
  merged a b c d h k w e = rw e (
    omega (arith, lower_is a c, lower_is b d, upper_is a c, lower_is (lower f b d) (upper f a c)),
    omega (arith, lower_is (lower f b d) (upper f a c), upper_is (lower f b d) (upper f a c)),
    omega (arith, lower_is b d, upper_is a c, upper_is b d, upper_is (lower f b d) (upper f a c)),
  )

  ordered : (a b : ℕ) → f (lower f a b) ≤ f (upper f a b)
  ordered a b = omega (arith, lower_is a b, upper_is a b)

module _ (f : ℕ → ℕ) (w : Corners ℕ) where
  weakly : Weakly f (sorted f w)
  unfolding sorted
  weakly = merged f _ _ _ _ (ordered f w.v0 w.v1) (ordered f w.v2 w.v3) (sorted f w) refl

  module _ (different : (p q : ℕ) → p ≤ 3 → q ≤ 3 → f (at w p) ≡ f (at w q) → p ≡ q) where
    apart : Apart (f w.v0) (f w.v1) (f w.v2) (f w.v3)
    apart = record {
      ab = λ e. omega (arith, different 0 1 (omega arith) (omega arith) e);
      ac = λ e. omega (arith, different 0 2 (omega arith) (omega arith) e);
      ad = λ e. omega (arith, different 0 3 (omega arith) (omega arith) e);
      bc = λ e. omega (arith, different 1 2 (omega arith) (omega arith) e);
      bd = λ e. omega (arith, different 1 3 (omega arith) (omega arith) e);
      cd = λ e. omega (arith, different 2 3 (omega arith) (omega arith) e);
    }

    pub sorted_climbs : (f (sorted f w).v0 < f (sorted f w).v1) × (f (sorted f w).v1 < f (sorted f w).v2) × (f (sorted f w).v2 < f (sorted f w).v3)
    sorted_climbs =
        let far = sorted_keeps (λ a b c d. Apart (f a) (f b) (f c) (f d)) (apart_unordered f) f w apart in
        (omega (arith, weakly.0, far.ab), omega (arith, weakly.1, far.bc), omega (arith, weakly.2, far.cd))

    pub sorted_rises : (p : ℕ) → p < 3 → f (at (sorted f w) p) < f (at (sorted f w) (suc p))
    sorted_rises = under three (λ p. f (at (sorted f w) p) < f (at (sorted f w) (suc p))) sorted_climbs

    -- in the order of Definition 2
    module _ (N : ℕ) (most : (p : ℕ) → p ≤ 3 → f (at w p) ≤ N) where
      pub sorted_rising : Rising three N f (sorted f w)
      sorted_rising = record { rises = sorted_rises; most = (each_sorted f w (λ x. f x ≤ N) colours).v3 }
        where
          colours : Each (λ x. f x ≤ N) w
          colours = record { v0 = most 0 (omega arith); v1 = most 1 (omega arith); v2 = most 2 (omega arith); v3 = most 3 (omega arith) }

      pub sorted_started : Started three N f (arranged three N f (sorted f w))
      sorted_started = record { sorted = sorted f w; rising = sorted_rising; is = refl }
