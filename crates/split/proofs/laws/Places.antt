-- Case splits on the place of a vertex.
use mathlib.Core.Path.{◌≡◌}
use mathlib.Core.Logic.{◌⊎◌, inl, inr}
use Prim.Native.Nat.{ℕ, zero, suc, ◌≤◌, ◌<◌, zero-le, suc-le-suc}
use native.Mathlib.Nat.{eq-or-lt_of_le}
use native.Mathlib.Omega.{arith}
use Rattle.split.specs.Split.{Tag, one, two, three, number}

pub le_or_lt : (a b : ℕ) → (a ≤ b) ⊎ (b < a)
le_or_lt zero b = inl zero-le
le_or_lt (suc a) zero = inr (suc-le-suc zero-le)
le_or_lt (suc a) (suc b) = elim (le_or_lt a b) [ inl h ↦ inl (suc-le-suc h) | inr h ↦ inr (suc-le-suc h) ]

-- where a stands against b
pub data Against (a b : ℕ) : Type 0 where
  less : a < b → Against a b
  equal : a ≡ b → Against a b
  more : b < a → Against a b

pub against : (a b : ℕ) → Against a b
against a b = elim (le_or_lt a b) [ inl h ↦ elim (eq-or-lt_of_le h) [ inl e ↦ equal e | inr l ↦ less l ] | inr h ↦ more h ]

-- what is to be shown of the places below a tag
abbrev Below : Tag → (ℕ → Type 0) → Type 0
Below one P = P 0
Below two P = P 0 × P 1
Below three P = P 0 × P 1 × P 2

pub under : (g : Tag) (P : ℕ → Type 0) → Below g P → (p : ℕ) → p < number g → P p
under one P b zero h = b
under one P b (suc p) h = absurd (omega arith)
under two P b zero h = b.0
under two P b (suc zero) h = b.1
under two P b (suc (suc p)) h = absurd (omega arith)
under three P b zero h = b.0
under three P b (suc zero) h = b.1
under three P b (suc (suc zero)) h = b.2
under three P b (suc (suc (suc p))) h = absurd (omega arith)
