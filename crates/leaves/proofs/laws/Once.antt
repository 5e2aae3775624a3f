-- A list of numbers without repetition that has exactly the numbers below n with a property is as long as there are such numbers.
use mathlib.Core.Path.{◌≡◌, refl, sym, ap, ◌∙◌}
use mathlib.Core.Bool.{Bool, true, false, not, ◌&&◌, cond, true≢false}
use mathlib.Core.Logic.{◌⊎◌, inl, inr}
use mathlib.Core.List.Memᴰ
use mathlib.Core.List.{List, [], ◌∷◌, Memᴰ, Mem, Nodup, Nodup-cons}
use Prim.Native.Nat.{ℕ, zero, suc, ◌+◌, ◌<◌}
use native.Mathlib.Omega.{arith}
use borrow.Author.Tests.{eqb-false, eq-eqb, ne_eqb}
use lib.Dec.{eqb}
use lib.ListN.{length}
use Rattle.split.proofs.laws.Places.{less, equal, more, Against, against}
use Rattle.intake.specs.Search.{count}
use Rattle.opening.proofs.laws.Counting.{count_same, count_zero}

-- the property without the number x
abbrev without : (ℕ → Bool) → ℕ → ℕ → Bool
without test x q = test q && not (eqb q x)

module _ (test : ℕ → Bool) (x : ℕ) where
  without_other : (q : ℕ) → (q ≡ x → ⊥) → without test x q ≡ test q
  without_other q d = rw (ne_eqb q x d) (go (test q))
    where
      go : (b : Bool) → b && true ≡ b
      go true = refl
      go false = refl

  without_self : without test x x ≡ false
  without_self = rw (eq-eqb x x refl) (go (test x))
    where
      go : (b : Bool) → b && false ≡ false
      go true = refl
      go false = refl

  without_from : (q : ℕ) → without test x q ≡ true → (test q ≡ true) × (q ≡ x → ⊥)
  without_from q e = go (test q) (eqb q x) refl refl
    where
      go : (b d : Bool) → test q ≡ b → eqb q x ≡ d → (test q ≡ true) × (q ≡ x → ⊥)
      go true false f g = (f, eqb-false q x g)
      go true true f g = let z : false ≡ true = rw (f, g) at e in absurd (true≢false (sym z))
      go false d f g = let z : false ≡ true = rw f at e in absurd (true≢false (sym z))

  count_without : (n : ℕ) → x < n → test x ≡ true → count test n ≡ suc (count (without test x) n)
  unfolding count
  count_without zero h e = absurd (omega arith)
  count_without (suc n) h e = go (against x n) (λ l. count_without n l e)
    where
      number : {a b : Bool} → a ≡ b → ◌≡◌ {A = ℕ} (cond a 1 0) (cond b 1 0)
      number z = rw z

      go : Against x n → (x < n → count test n ≡ suc (count (without test x) n)) → count test n + cond (test n) 1 0 ≡ suc (count (without test x) n + cond (without test x n) 1 0)
      go (less l) ih = omega (arith, ih l, number (without_other n (λ z. omega arith)))
      go (equal q) ih =
          let held : test n ≡ true = rw (← q) e in
          let left : without test x n ≡ false = rw (← q) without_self in
          omega (arith, count_same (without test x) test n (λ j k. without_other j (λ z. omega arith)), number held, number left)
      go (more l) ih = absurd (omega arith)

pub once_count : (l : List ℕ) (test : ℕ → Bool) (n : ℕ) → Nodup l → ((q : ℕ) → Memᴰ q l → (q < n) × (test q ≡ true)) → ((q : ℕ) → q < n → test q ≡ true → Memᴰ q l) → length l ≡ count test n
once_count [] test n o in-l has = sym (count_zero test n (λ q h. none (test q) (λ e. Memᴰ.not-nil (has q h e))))
  where
    none : (b : Bool) → (b ≡ true → ⊥) → b ≡ false
    none true f = absurd (f refl)
    none false f = refl
once_count (x ∷ l) test n o in-l has =
    let here = in-l x (Memᴰ.head refl) in
    let apart = Nodup-cons.0 o in
    ap suc (once_count l (without test x) n apart.1
    (λ q k. let w = in-l q (Memᴰ.tail k) in (w.0, without_other test x q (λ z. apart.0 (mem (sym z) k)) ∙ w.1))
    (λ q h e. let w = without_from test x q e in rest q w.1 (Memᴰ.cases_cons (has q h w.0))))
    ∙ sym (count_without test x n here.0 here.1)
  where
    mem : {a b : ℕ} → a ≡ b → Memᴰ b l → Mem a l
    mem z k = ∣ Memᴰ.cast z k ∣₁

    rest : (q : ℕ) → (q ≡ x → ⊥) → (q ≡ x) ⊎ Memᴰ q l → Memᴰ q l
    rest q d (inl z) = absurd (d z)
    rest q d (inr k) = k
