-- What the tests on one row answer.
use mathlib.Core.Path.{◌≡◌, refl, sym, ◌∙◌}
use mathlib.Core.Bool.{Bool, true, false, not, ◌&&◌, ◌||◌, cond}
use Prim.Native.Nat.{ℕ}
use native.Mathlib.Decide.{ℕ_discrete}
use lib.Dec.{eqb}
use borrow.Author.Tests.{eq-eqb, ne_eqb, not-true, not-false}
use Rattle.split.specs.declared.row.Row.{Row}
use Rattle.split.specs.declared.row.Ends.{Ends}
use Rattle.run.specs.Run.{has, holding}
use Rattle.closure.specs.State.{EndOf, small, large, leaf_with, other_end}

-- ---- a vertex of the row

or_right : (p q s t : Bool) → ((p || q) || s) || t ≡ p || q || s || t
or_right true q s t = refl
or_right false true s t = refl
or_right false false s t = refl

pub has_any : (r : Row) (v : ℕ) → ((eqb r.v0 v || eqb r.v1 v) || eqb r.v2 v) || eqb r.v3 v ≡ has r v
unfolding has
has_any r v = or_right (eqb r.v0 v) (eqb r.v1 v) (eqb r.v2 v) (eqb r.v3 v)

-- ---- a leaf with it

module _ (v : ℕ) {held r : Row} (is : held ≡ r) where
  pub leaf_split : (held.child ≡ 0 → ⊥) → eqb held.child 0 ≡ leaf_with v r
  unfolding leaf_with
  leaf_split d = rw (← is, ne_eqb held.child 0 d)

  pub leaf_has : held.child ≡ 0 → {b : Bool} → b ≡ has held v → b ≡ leaf_with v r
  unfolding leaf_with
  leaf_has leaf g = g ∙ rw (← is, eq-eqb held.child 0 leaf)

pub ruleset leaf_tests = (leaf_split, leaf_has)

-- ---- the other end of an edge

module _ (e : Ends) {a : ℕ} where
  pub other_large : e.small ≡ a → e.large ≡ other_end e a
  unfolding other_end
  other_large h = rw (eq-eqb e.small a h)

  pub other_small : (e.small ≡ a → ⊥) → e.small ≡ other_end e a
  unfolding other_end
  other_small d = rw (ne_eqb e.small a d)

pub ruleset other_tests = (other_large, other_small)

-- a row with one end is in the patch exactly if it is a leaf with the other
pub holding_other : {e : Ends} {a : ℕ} (r : Row) → EndOf e a → has r a ≡ true → leaf_with (other_end e a) r ≡ holding e r
unfolding holding leaf_with
holding_other {e} {a} r x h = go (ℕ_discrete e.small a) x
  where
    with_true : (p q : Bool) → p && q ≡ p && true && q
    with_true true q = refl
    with_true false q = refl

    true_last : (p : Bool) → p ≡ p && true
    true_last true = refl
    true_last false = refl

    go : Dec (e.small ≡ a) → EndOf e a → eqb r.child 0 && has r (other_end e a) ≡ eqb r.child 0 && has r e.small && has r e.large
    go (yes s) y = rw (← other_large e s, s, h) (with_true (eqb r.child 0) (has r e.large))
    go (no d) (small s) = absurd (d (sym s))
    go (no d) (large s) = rw (← other_small e d, ← s, h) (true_last (eqb r.child 0 && has r e.small))

-- what a branch on the answer b of a test t leaves
pub branch_no : {A : Type 0} {b t : Bool} (x y : A) → b ≡ t → not b ≡ true → y ≡ cond t x y
branch_no {b = b} x y e f = rw (← e, not-true b f)

pub branch_yes : {A : Type 0} {b t : Bool} (x y : A) → b ≡ t → not b ≡ false → x ≡ cond t x y
branch_yes {b = b} x y e f = rw (← e, not-false b f)

pub ruleset branches = (branch_no, branch_yes)
