-- Every split adds two rows.
use mathlib.Core.Path.{◌≡◌, refl, sym, ap, ◌∙◌}
use mathlib.Core.Logic.{◌⊎◌, inl, inr}
use mathlib.Core.Bool.{Bool, true, false, not, cond}
use Prim.Native.Nat.{ℕ, zero, suc, ◌+◌, ◌-◌, ◌*◌, ◌≤◌, ◌<◌}
use native.Mathlib.Nat.{add-zero}
use native.Mathlib.Omega.{arith}
use borrow.Author.Tests.{lt-ltb, le-ltb, eqb-true, eqb-false, not-true, not-false}
use lib.Dec.{eqb, ltb}
use Rattle.split.specs.Split.{Side, left, right}
use Rattle.split.proofs.laws.Places.{less, equal, more, against}
use Rattle.tables.specs.Mesh.{Mesh}
use Rattle.intake.specs.Search.{count}
use Rattle.opening.proofs.laws.Counting.{count_same, count_add, count_zero}
use Rattle.sound.specs.Sound.{rows, row_of, place, Grown}
use Rattle.sound.specs.Forest.{splits_in}
use Rattle.sound.proofs.laws.Searches.{count_full}

-- ---- two tests that differ at two places

count_pair : (test : ℕ → Bool) (b : Bool) → test 0 ≡ b → test 1 ≡ b → count test 2 ≡ 2 * cond b 1 0
unfolding count
count_pair test true e f = rw (e, f)
count_pair test false e f = rw (e, f)

module _ (test test' : ℕ → Bool) (c e : ℕ) (old : (j : ℕ) → (j ≡ c) ⊎ (j ≡ c + 1) → test j ≡ false) (new : (j : ℕ) → (j ≡ c) ⊎ (j ≡ c + 1) → test' j ≡ true)
    (same : (j : ℕ) → j < c + (2 + e) → (j ≡ c → ⊥) → (j ≡ c + 1 → ⊥) → test j ≡ test' j) where
  count_two : count test' (c + (2 + e)) ≡ count test (c + (2 + e)) + 2
  count_two =
      omega (
        arith,
        count_add test c (2 + e),
        count_add test' c (2 + e),
        count_add (λ j. test (c + j)) 2 e,
        count_add (λ j. test' (c + j)) 2 e,
        count_same test test' c (λ j h. same j (omega arith) (omega arith) (omega arith)),
        count_same (λ j. test (c + (2 + j))) (λ j. test' (c + (2 + j))) e (λ j h. same (c + (2 + j)) (omega arith) (omega arith) (omega arith)),
        count_pair (λ j. test (c + j)) false (old (c + 0) (inl (omega arith))) (old (c + 1) (inr refl)),
        count_pair (λ j. test' (c + j)) true (new (c + 0) (inl (omega arith))) (new (c + 1) (inr refl)),
      )

-- ---- d places, each with a parent below n

-- the places of one parent: none, or two
data Litter (d : ℕ) (parent : ℕ → ℕ) (q : ℕ) : Bool → Type 0 where
  none : ((j : ℕ) → j < d → parent j ≡ q → ⊥) → Litter d parent q false
  both : (c : ℕ) → c + 1 < d → parent c ≡ q → parent (c + 1) ≡ q → ((j : ℕ) → j < d → parent j ≡ q → (j ≡ c) ⊎ (j ≡ c + 1)) → Litter d parent q true

-- one parent more is counted
later : (a q : ℕ) → (a ≡ q → ⊥) → ltb a q ≡ ltb a (suc q)
later a q o = elim (against a q) [ less h ↦ rw (lt-ltb a q h, lt-ltb a (suc q) (omega arith)) | equal e ↦ absurd (o e) | more h ↦ rw (le-ltb a q (omega arith), le-ltb a (suc q) h) ]

module _ (d : ℕ) (parent : ℕ → ℕ) where
  abbrev up : ℕ → ℕ → Bool
  up q j = ltb (parent j) q

  one_more : (q : ℕ) {b : Bool} → Litter d parent q b → count (up (suc q)) d ≡ count (up q) d + 2 * cond b 1 0
  one_more q (none h) = sym (count_same (up q) (up (suc q)) d (λ j l. later (parent j) q (h j l))) ∙ sym (add-zero (count (up q) d))
  one_more q (both c l e f only) = rw size at (count_two (up q) (up (suc q)) c (d - (c + 2)) (λ j p. le-ltb (parent j) q (omega (arith, own j p))) (λ j p. lt-ltb (parent j) (suc q) (omega (arith, own j p))) (λ j h x y. later (parent j) q (λ z. apart j x y (only j (omega arith) z))))
    where
      size : c + (2 + (d - (c + 2))) ≡ d
      size = omega arith

      own : (j : ℕ) → (j ≡ c) ⊎ (j ≡ c + 1) → parent j ≡ q
      own j (inl i) = rw i e
      own j (inr i) = rw i f

      apart : (j : ℕ) → (j ≡ c → ⊥) → (j ≡ c + 1 → ⊥) → (j ≡ c) ⊎ (j ≡ c + 1) → ⊥
      apart j x y (inl i) = x i
      apart j x y (inr i) = y i

  all_upto : (split : ℕ → Bool) (n : ℕ) → ((q : ℕ) → q < n → Litter d parent q (split q)) → count (up n) d ≡ 2 * count split n
  unfolding count
  all_upto split zero l = count_zero (up 0) d (λ j h. le-ltb (parent j) 0 (omega arith))
  all_upto split (suc n) l = omega (arith, one_more n (l n (omega arith)), all_upto split n (λ q h. l q (omega arith)))

-- ---- the rows past the roots

-- a row's place past the roots by its side
by_side : (s : Side) (t j c : ℕ) → t ≤ c → t + j ≡ place s c → (j ≡ c - t) ⊎ (j ≡ c - t + 1)
by_side left t j c h e = inl (omega arith)
by_side right t j c h e = inr (omega arith)

module _ {m : Mesh} {i t : ℕ} (g : Grown m i t) where
  litter : (q : ℕ) → q < rows m → (b : Bool) → not (eqb (row_of m q).child 0) ≡ b → Litter (rows m - t) (λ j. (row_of m (t + j)).parent) q b
  litter q l false e = none (λ j h p. (g.child (t + j) (omega arith) (omega arith)).split (rw p (eqb-true _ _ (not-false _ e))))
  litter q l true e =
      let w = g.parent q l (eqb-false _ _ (not-true _ e)) in
      let c = (row_of m q).child in
      let at : t + (c - t) ≡ c = omega arith in
      let next : t + (c - t + 1) ≡ c + 1 = omega arith in
      both (c - t) (omega arith) (rw at w.first) (rw next w.second)
      (λ j h p. let k = g.child (t + j) (omega arith) (omega arith) in by_side k.side t j c w.past (k.here ∙ ap (λ (r : ℕ). place k.side (row_of m r).child) p))

  pub rows_count : rows m ≡ t + 2 * splits_in m
  unfolding splits_in
  rows_count =
      let up : ℕ → ℕ = λ j. (row_of m (t + j)).parent in
      omega (
        arith,
        g.parted.rows_in,
        count_full (λ j. ltb (up j) (rows m)) (rows m - t) (λ j h. lt-ltb (up j) (rows m) (omega (arith, (g.child (t + j) (omega arith) (omega arith)).older))),
        all_upto (rows m - t) up (λ q. not (eqb (row_of m q).child 0)) (rows m) (λ q h. litter q h _ refl),
      )
