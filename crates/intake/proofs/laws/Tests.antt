-- What a chain of tests returns, from the facts of the tests on the way: `search tests` at each return.
-- A chain of `||` returns true at the first test that holds, else the last test.
use mathlib.Core.Path.{◌≡◌}
use mathlib.Core.Bool.{Bool, true, false, not, ◌||◌, ◌&&◌}
use Prim.Native.Nat.{ℕ, ◌≤◌, ◌<◌}
use lib.Dec.{eqb, leb}
use borrow.Author.Tests.{eq-eqb, ne_eqb, lt-ltb, le-ltb, le-leb, lt-leb}

-- the first test holds
pub stopped : (a b : Bool) → a ≡ true → true ≡ (a || b)
stopped a b p = rw p

-- the first test does not hold: the others decide
pub passed : (a b r : Bool) → a ≡ false → r ≡ b → r ≡ (a || b)
passed a b r p q = rw (p, q)

-- a negated test
pub differs : (a b : ℕ) → (a ≡ b → ⊥) → not (eqb a b) ≡ true
differs a b h = rw (ne_eqb a b h)

pub agrees : (a b : ℕ) → a ≡ b → not (eqb a b) ≡ false
agrees a b h = rw (eq-eqb a b h)

-- a test on the answer r of a call, where the chain speaks of what r is equal to
pub reaches : {a r b : ℕ} → r ≡ b → a ≤ r → leb a b ≡ true
reaches {a} p h = rw (← p, le-leb a _ h)

pub ends_under : {a r b : ℕ} → r ≡ b → r < a → leb a b ≡ false
ends_under {a} p h = rw (← p, lt-leb a _ h)

pub same_test : (a : ℕ) {r b : ℕ} → r ≡ b → leb a r ≡ leb a b
same_test a p = rw p

-- a chain of `&&`, negated: it goes on while the answers of its calls are true
pub held : {p a r : Bool} (b : Bool) → p ≡ a → p ≡ true → r ≡ not b → r ≡ not (a && b)
held b e p q = rw (← e, p, q)

pub held_last : {p a : Bool} → p ≡ a → p ≡ true → false ≡ not a
held_last e p = rw (← e, p)

pub broken : {p a : Bool} (b : Bool) → p ≡ a → p ≡ false → true ≡ not (a && b)
broken b e p = rw (← e, p)

pub broken_last : {p a : Bool} → p ≡ a → p ≡ false → true ≡ not a
broken_last e p = rw (← e, p)

pub ruleset tests = (stopped, passed, differs, agrees, eq-eqb, ne_eqb, lt-ltb, le-ltb, reaches, ends_under, same_test, held, held_last, broken, broken_last)
