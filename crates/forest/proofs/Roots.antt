-- The roots in the order of Definition 2 have the row invariant (000, Definition 2 and Theorem 10).
use mathlib.Core.Path.{◌≡◌, refl}
use mathlib.Core.Bool.{Bool, true, false, cond}
use mathlib.Core.Logic.{◌⊎◌, inl, inr}
use Prim.Native.Nat.{ℕ, zero, suc, pred, ◌+◌, ◌-◌, ◌≤◌, ◌<◌}
use native.Mathlib.Nat.{eq-or-lt_of_le, le_refl}
use native.Mathlib.Omega.{arith}
use lib.Dec.{T, eqb, eqb→eq, eqb_refl}
use Rattle.split.specs.Split.{Tag, one, two, three, number, Corners, at, far}
use Rattle.split.proofs.laws.Children.{far_at}
use Rattle.split.proofs.laws.Tags.{tag_range}
use Rattle.split.proofs.laws.Places.{under}
use Rattle.forest.specs.Element.{init, initial}
use Rattle.forest.specs.Generation.{Gen, start, gen}
use Rattle.forest.specs.Start.{moved, arranged, Rising, Started}
use Rattle.forest.specs.Invariant.{Front, even, older, Invariant}

-- ---- the generation of one initial vertex (000, section 3.3)

-- of a colour c below N
record Lower (N c : ℕ) (a : Gen) : Type 0 where
  level : a.level ≡ 1
  type : a.type + c ≡ N

-- of colour N
record Top (N : ℕ) (a : Gen) : Type 0 where
  level : a.level ≡ 0
  type : a.type ≡ N

start_lower : (N c : ℕ) → c < N → Lower N c (start N c)
unfolding start
start_lower N c h = go (eqb c N) (eqb→eq c N)
  where
    go : (b : Bool) → (T b → c ≡ N) → Lower N c (cond b (record { level = 0; type = N }) (record { level = 1; type = N - c }))
    go true e = let z : c ≡ N = e tt in absurd (omega arith)
    go false e = omega arith

start_top : (N c : ℕ) → c ≡ N → Top N (start N c)
unfolding start
start_top N c e = go (eqb c N) (rw e (eqb_refl N))
  where
    go : (b : Bool) → T b → Top N (cond b (record { level = 0; type = N }) (record { level = 1; type = N - c }))
    go true h = omega arith
    go false h = absurd h

-- of any colour up to N
record Bounded (N : ℕ) (a : Gen) : Type 0 where
  least : 1 ≤ a.type
  most : a.type ≤ N

start_bounded : (N c : ℕ) → 1 ≤ N → c ≤ N → Bounded N (start N c)
start_bounded N c h k = elim (eq-or-lt_of_le k) [ inl e ↦ omega (arith, start_top N c e) | inr l ↦ omega (arith, start_lower N c l) ]

-- ---- a row of colours: v1 to vn rise and are below N, and v0 is below v1 or N itself

record Row (N n : ℕ) (κ : ℕ → ℕ) : Type 0 where
  rises : (p q : ℕ) → 1 ≤ p → p < q → q ≤ n → κ p < κ q
  lower : (p : ℕ) → 1 ≤ p → p ≤ n → κ p < N
  lead : (κ 0 < κ 1) ⊎ (κ 0 ≡ N)

module _ (N n : ℕ) (κ : ℕ → ℕ) (some : 1 ≤ n) (r : Row N n κ) where
  -- no colour is over N, and N is over a colour
  first : κ 1 < N
  first = r.lower 1 (le_refl 1) some

  below : (κ 0 < κ 1) ⊎ (κ 0 ≡ N) → (p : ℕ) → p ≤ n → κ p ≤ N
  below (inl l) zero h = omega (arith, first)
  below (inr e) zero h = omega arith
  below l (suc p) h = omega (arith, r.lower (suc p) (omega arith) h)

  bounded : (p : ℕ) → p ≤ n → Bounded N (start N (κ p))
  bounded p h = start_bounded N (κ p) (omega (arith, first)) (below r.lead p h)

  -- colours that rise are types that fall; v0 is in case `older` exactly if its colour is N
  row_front : (κ 0 < κ 1) ⊎ (κ 0 ≡ N) → Front N n n 1 (λ p. start N (κ p))
  row_front (inl l) =
      let b = start_lower N (κ 0) (omega (arith, first)) in
      even b.level (omega (arith, start_lower N (κ 1) first)) (λ k. absurd (omega arith))
  row_front (inr e) = older (omega (arith, start_top N (κ 0) e)) (λ k. absurd (omega arith))

  row_fits : Invariant N n n 1 (λ p. start N (κ p))
  row_fits = record {
    low = λ p a b. (start_lower N (κ p) (r.lower p a b)).level;
    high = λ p a b. absurd (omega arith);
    falls_low = λ p q a l b. omega (arith, r.rises p q a l b, start_lower N (κ p) (r.lower p a (omega arith)), start_lower N (κ q) (r.lower q (omega arith) b));
    falls_high = λ p q a l b. absurd (omega arith);
    least = λ p h. (bounded p h).least;
    most = λ p h. (bounded p h).most;
    front = row_front r.lead;
  }

-- ---- a root's row: the sorted vertices, with the last moved to the front or not (000, equation (1))

module _ {A : Type 0} (w : Corners A) where
  moved_first : (top : Tag) → at (moved top w) 0 ≡ far top w
  moved_first one = refl
  moved_first two = refl
  moved_first three = refl

  moved_later : (top : Tag) (p : ℕ) → p < number top → at (moved top w) (suc p) ≡ at w p
  moved_later one = under one (λ p. at (moved one w) (suc p) ≡ at w p) refl
  moved_later two = under two (λ p. at (moved two w) (suc p) ≡ at w p) (refl, refl)
  moved_later three = under three (λ p. at (moved three w) (suc p) ≡ at w p) (refl, refl, refl)

  moved_at : (top : Tag) (p : ℕ) → 1 ≤ p → p ≤ number top → at (moved top w) p ≡ at w (pred p)
  moved_at top zero h k = absurd (omega arith)
  moved_at top (suc p) h k = moved_later top p k

module _ (top : Tag) (N : ℕ) (colour : ℕ → ℕ) (w : Corners ℕ) (r : Rising top N colour w) where
  -- Definition 2's steps put together
  rise : (p q : ℕ) → p < q → q ≤ number top → colour (at w p) < colour (at w q)
  rise p zero l h = absurd (omega arith)
  rise p (suc q) l h = elim (eq-or-lt_of_le l)
      [ inl e ↦ let i : p ≡ q = omega arith in rw i (r.rises q h) | inr m ↦ omega (arith, rise p q (omega arith) (omega arith), r.rises q h) ]

  under_last : (p : ℕ) → p < number top → colour (at w p) < colour (far top w)
  under_last p l = rw (← far_at w top) (rise p (number top) l (le_refl (number top)))

  -- the test of the last colour, with what it tells
  row : (b : Bool) → (T b → colour (far top w) ≡ N) → (colour (far top w) ≡ N → T b) → Row N (number top) (λ p. colour (at (cond b (moved top w) w) p))
  row true told back = record {
    rises = λ p q a l b. rw (moved_at w top p a (omega arith), moved_at w top q (omega arith) b) (rise (pred p) (pred q) (omega arith) (omega arith));
    lower = λ p a b. rw (moved_at w top p a b) (omega (arith, under_last (pred p) (omega arith), told tt));
    lead = inr (rw (moved_first w top) (told tt));
  }
  row false told back =
      let last : colour (far top w) < N = omega (arith, r.most, back) in
      record {
        rises = λ p q a l b. rise p q l b;
        lower = λ p a b. elim (eq-or-lt_of_le b) [ inl e ↦ rw (e, far_at w top) last | inr l ↦ omega (arith, under_last p l) ];
        lead = inl (r.rises 0 (tag_range top).0);
      }

-- ---- the row of names

initial_at : (c : Corners ℕ) (p : ℕ) → at (initial c) p ≡ init (at c p)
initial_at c zero = refl
initial_at c (suc zero) = refl
initial_at c (suc (suc zero)) = refl
initial_at c (suc (suc (suc p))) = refl

initial_gen : (N : ℕ) (colour : ℕ → ℕ) (c : Corners ℕ) (p : ℕ) → gen N colour (at (initial c) p) ≡ start N (colour (at c p))
unfolding gen
initial_gen N colour c p = rw (initial_at c p)

started_row : (top : Tag) (N : ℕ) (colour : ℕ → ℕ) (c : Corners ℕ) → Started top N colour c → Row N (number top) (λ p. colour (at c p))
unfolding arranged
started_row top N colour c s = rw s.is (row top N colour s.sorted s.rising (eqb (colour (far top s.sorted)) N) (eqb→eq (colour (far top s.sorted)) N) (λ e. rw e (eqb_refl N)))

pub root_fits : (top : Tag) (N : ℕ) (colour : ℕ → ℕ) (c : Corners ℕ) → Started top N colour c → Invariant N (number top) (number top) 1 (λ p. gen N colour (at (initial c) p))
root_fits top N colour c s = simp initial_gen (row_fits N (number top) (λ p. colour (at c p)) (tag_range top).0 (started_row top N colour c s))
