-- The lowest ripe row by flags (02, L10): a flag for each row, and above it one for each 64 of these, which may be set where none of the 64 is.
use Rattle.std.proofs.Common.{None, Some}
use mathlib.Core.Path.{◌≡◌}
use mathlib.Core.Bool.{Bool, true, false}
use mathlib.Core.Logic.{inl, inr}
use Prim.Native.Nat.{ℕ, ◌+◌, ◌-◌, ◌*◌, ◌/◌, ◌<◌}
use native.Mathlib.Omega.{arith}
use Rattle.split.proofs.laws.Places.{le_or_lt}
use Rattle.intake.specs.Search.{first}
use Rattle.intake.proofs.laws.Search.{first_none, first_stopped}
use Rattle.sound.proofs.laws.Searches.{refuted, first_nowhere}

-- where a flag is set, so is the one above it
pub record Covers (flag above : ℕ → Bool) : Type 0 where
  pub set : (r : ℕ) → flag r ≡ true → above (r / 64) ≡ true

-- none above is set below b, so no flag is set below 64 b
pub none_below : {flag above : ℕ → Bool} → Covers flag above → (b : ℕ) → first above b ≡ None → first flag (64 * b) ≡ None
none_below {flag} {above} c b h = first_nowhere flag (64 * b) (λ k l. refuted (flag k) (above (k / 64)) (c.set k) (first_none above b h (k / 64) (omega arith)))

-- and none of the 64 at b: go on with b + 1
pub none_more : (flag : ℕ → Bool) (b : ℕ) → first flag (64 * b) ≡ None → ((j : ℕ) → j < 64 → flag (64 * b + j) ≡ false) → first flag (64 * (b + 1)) ≡ None
none_more flag b h k = first_nowhere flag (64 * (b + 1)) (λ r l. elim (le_or_lt (64 * b) r) [
  | inr m ↦ first_none flag (64 * b) h r m
  | inl m ↦ let e : 64 * b + (r - 64 * b) ≡ r = omega arith in rw e at (k (r - 64 * b) (omega arith))
])

-- the first of the 64 that is set is the lowest of all
pub first_here : (flag : ℕ → Bool) (b j n : ℕ) → first flag (64 * b) ≡ None → ((l : ℕ) → l < j → flag (64 * b + l) ≡ false) → flag (64 * b + j) ≡ true → 64 * b + j < n → first flag n ≡ Some (64 * b + j)
first_here flag b j n h k t l = first_stopped flag (64 * b + j) n (first_nowhere flag (64 * b + j) (λ r x. elim (le_or_lt (64 * b) r) [
  | inr m ↦ first_none flag (64 * b) h r m
  | inl m ↦ let e : 64 * b + (r - 64 * b) ≡ r = omega arith in rw e at (k (r - 64 * b) (omega arith))
])) t l
