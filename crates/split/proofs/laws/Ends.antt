-- The two ends of an edge in order: which of them is the smaller, and that the order in which they are named does not matter.
use mathlib.Core.Path.{◌≡◌}
use Prim.Native.Nat.{ℕ, ◌≤◌, min, max}
use native.Mathlib.Omega.{arith}
use Rattle.split.specs.Row.{pair, ends}

same : (a b c d : ℕ) → a ≡ c → b ≡ d → pair a b ≡ pair c d
same a b c d p q = cc

pub ends_rising : {a b : ℕ} → a ≤ b → ends a b ≡ pair a b
ends_rising {a} {b} h = same (min a b) (max a b) a b (omega arith) (omega arith)

pub ends_falling : {a b : ℕ} → b ≤ a → ends a b ≡ pair b a
ends_falling {a} {b} h = same (min a b) (max a b) b a (omega arith) (omega arith)

pub ends_commute : (a b : ℕ) → ends a b ≡ ends b a
ends_commute a b = same (min a b) (max a b) (min b a) (max b a) (omega arith) (omega arith)
