-- A chain over a range of places: `all` decides what its closure decides of each, and `find` gives the first that its closure takes.
use mathlib.Core.Path.{◌≡◌, refl}
use mathlib.Core.Bool.{Bool, true, false}
use Prim.Native.Nat.{ℕ, ◌+◌, ◌-◌, ◌≤◌, ◌<◌, zero-le}
use native.Mathlib.Omega.{arith}
use lib.ListN.{length, get_or}
use mathlib.Core.List.{List}
use denote.Param.Members.{Mut}
use Rattle.std.specs.declared.option.Option.{Option}
use Rattle.std.specs.declared.option.Option.TheVariants.{None, Some}
use Rattle.std.specs.declared.ops.Range.{Range}
use Rattle.std.specs.Iterator.{YieldsThen}
use Rattle.std.specs.List.{FoldsTo, range_with_len, AllWithin, HoldsAt}
use Rattle.std.specs.Fn.{Called}
use Rattle.std.specs.Option.{MatchOption, unwrap_or}
use Rattle.std.specs.Bool.{MatchBool}
use Rattle.std.proofs.iter.Yields.{nat_range_steps}
use Rattle.std.proofs.lemmas.Iterator.{cases_from_all, YieldsList-from_range}
use Rattle.std.proofs.lemmas.List.FromFn.{length-range_with_len, get_or-range_with_len}
use Rattle.sound.specs.Check.{Decides}
use Rattle.shape.specs.Shape.{Leading}
use Rattle.sound.proofs.laws.Deciding.{All, decides_true, decides_false}

-- the numbers of a range, as the list that it yields
module _ (a b : ℕ) (P : ℕ → Type 0) where
  abbrev numbers : List ℕ
  numbers = range_with_len a (b - a)

  long : length numbers ≡ b - a
  long = length-range_with_len a (b - a)

  all_numbers : AllWithin P numbers 0 (length numbers) → All P a b
  all_numbers h k f l = rw at at (h (k - a) 0 (omega arith) (omega (arith, long)))
    where
      at : get_or numbers (k - a) 0 ≡ k
      at = omega (arith, get_or-range_with_len a (b - a) (k - a) 0 (omega arith))

  one_number : (k : ℕ) × (k < length numbers) × HoldsAt P numbers k → (k : ℕ) × (a ≤ k) × (k < b) × P k
  one_number (k, l, h) = (a + k, omega arith, omega (arith, inside), rw at at (h 0))
    where
      inside : k < b - a
      inside = omega (arith, long, l)

      at : get_or numbers k 0 ≡ a + k
      at = get_or-range_with_len a (b - a) k 0 inside

module _ {F : Type 0} {g : Mut F (ℕ × Unit {0}) Bool} (P : ℕ → Type 0) {s u : Range ℕ} {f : F} {r : Bool}
    (ran : (xs : List ℕ) × (o : Option ℕ) × (j : F) × YieldsThen nat_range_steps s xs o u × FoldsTo (λ p x q. Called g p (x, tt) true q) f xs j × MatchOption o (r ≡ true) (λ x. (r ≡ false) × ((h : F) × Called g j (x, tt) false h))) where
  -- the closure is asked of the places of the range alone
  pub decides_within : ((x : ℕ) (q : F) → Called g f (x, tt) true q → (q ≡ f) × (s.start ≤ x → x < s.end → P x)) → ((x : ℕ) (q : F) → Called g f (x, tt) false q → s.start ≤ x → x < s.end → P x → ⊥) → Decides (All P s.start s.end) r
  decides_within held failed = go r (cases_from_all u f r Held Failed ran (YieldsList-from_range s.start s.end _ refl refl) held failed)
    where
      Held : ℕ → Type 0
      Held x = s.start ≤ x → x < s.end → P x

      Failed : ℕ → Type 0
      Failed x = s.start ≤ x → x < s.end → P x → ⊥

      all : List ℕ
      all = range_with_len s.start (s.end - s.start)

      go : (b : Bool) → MatchBool b (AllWithin Held all 0 (length all)) ((k : ℕ) × (k < length all) × HoldsAt Failed all k) → Decides (All P s.start s.end) b
      go true h = decides_true (λ k f l. all_numbers s.start s.end Held h k f l f l)
      go false h = let (k, a, b, n) = one_number s.start s.end Failed h in decides_false (λ f. n a b (f k a b))

  pub decides_range : ((x : ℕ) (q : F) → Called g f (x, tt) true q → (q ≡ f) × P x) → ((x : ℕ) (q : F) → Called g f (x, tt) false q → P x → ⊥) → Decides (All P s.start s.end) r
  decides_range held failed = decides_within (λ x q k. let h = held x q k in (h.0, λ a b. h.1)) (λ x q k a b. failed x q k)

-- what `find` gives where its closure takes the places without P, and the end of the range where it takes none
pub leading_run : (P : ℕ → Type 0) {n i : ℕ} (o : Option ℕ) → MatchOption o ((k : ℕ) → 0 ≤ k → k < n → P k) (λ j. (0 ≤ j) × (j < n) × (P j → ⊥) × ((k : ℕ) → 0 ≤ k → k < j → P k)) → i ≡ unwrap_or o n → Leading P n i
leading_run P None h e = rw e (record { within = omega arith; before = λ k l. h k zero-le l; ends = λ l. absurd (omega arith) })
leading_run P (Some j) h e = rw e (record { within = omega (arith, h.1); before = λ k l. h.3 k zero-le l; ends = λ l. h.2 })
