-- The patch of an edge: which rows are in it, that each stands once, and when none has another edge.
use Rattle.std.proofs.Common.{None, Some}
use mathlib.Core.Path.{◌≡◌, refl, sym, ap, ◌∙◌}
use mathlib.Core.Bool.{Bool, true, false, ◌&&◌, ◌||◌, cond, or-true}
use mathlib.Core.List.Memᴰ
use mathlib.Core.List.{List, [], ◌∷◌, Memᴰ}
use mathlib.Core.Logic.{inl, inr}
use Prim.Native.Nat.{ℕ, zero, suc, ◌+◌, ◌≤◌, ◌<◌}
use native.Mathlib.Decide.{ℕ_discrete}
use native.Mathlib.Omega.{arith}
use lib.Dec.{eqb}
use lib.ListN.{length}
use borrow.Author.Tests.{eq-eqb, eqb-true}
use Rattle.split.specs.declared.row.Row.{Row}
use Rattle.split.specs.declared.row.Ends.{Ends}
use Rattle.split.specs.Split.{Corners, at, Holds}
use Rattle.split.specs.Row.{corners_of, edge_of}
use Rattle.sound.proofs.laws.Searches.{and_both}
use Rattle.run.specs.Skeleton.{row_in}
use Rattle.run.specs.Run.{has, holding, holders_from, holders, same_ends, other_in}

-- ---- tests as statements

one_of_four : {X : Type 0} (a b c d : Bool) → (a || b || c || d) ≡ true → (a ≡ true → X) → (b ≡ true → X) → (c ≡ true → X) → (d ≡ true → X) → X
one_of_four true b c d h x y z w = x refl
one_of_four false true c d h x y z w = y refl
one_of_four false false true d h x y z w = z refl
one_of_four false false false d h x y z w = w h

held_at : {c : Corners ℕ} {v : ℕ} (p : ℕ) → p ≤ 3 → at c p ≡ v → Holds 3 c v
held_at p h e = record { place = p; inside = h; is = e }

pub has_holds : (r : Row) (v : ℕ) → has r v ≡ true → Holds 3 (corners_of r) v
unfolding has
has_holds r v h =
    one_of_four (eqb r.v0 v) (eqb r.v1 v) (eqb r.v2 v) (eqb r.v3 v) h (λ a. held_at 0 (omega arith) (eqb-true _ _ a)) (λ a. held_at 1 (omega arith) (eqb-true _ _ a))
    (λ a. held_at 2 (omega arith) (eqb-true _ _ a)) (λ a. held_at 3 (omega arith) (eqb-true _ _ a))

pub holds_has : (r : Row) (v : ℕ) → Holds 3 (corners_of r) v → has r v ≡ true
unfolding has
holds_has r v h = go h.place h.is
  where
    go : (p : ℕ) → at (corners_of r) p ≡ v → (eqb r.v0 v || eqb r.v1 v || eqb r.v2 v || eqb r.v3 v) ≡ true
    go zero e = rw (eq-eqb r.v0 v e)
    go (suc zero) e = rw (eq-eqb r.v1 v e, or-true)
    go (suc (suc zero)) e = rw (eq-eqb r.v2 v e, or-true)
    go (suc (suc (suc p))) e = rw (eq-eqb r.v3 v e, or-true)

-- the row is a leaf holding both ends of e
pub record Holding (e : Ends) (r : Row) : Type 0 where
  pub leaf : r.child ≡ 0
  pub small : Holds 3 (corners_of r) e.small
  pub large : Holds 3 (corners_of r) e.large

pub holding_is : (e : Ends) (r : Row) → holding e r ≡ true → Holding e r
unfolding holding
holding_is e r h =
    let (both, large) = and_both (eqb r.child 0 && has r e.small) (has r e.large) h in
    let (leaf, small) = and_both (eqb r.child 0) (has r e.small) both in
    record { leaf = eqb-true _ _ leaf; small = has_holds r e.small small; large = has_holds r e.large large }

pub is_holding : (e : Ends) (r : Row) → Holding e r → holding e r ≡ true
unfolding holding
is_holding e r h = rw (eq-eqb r.child 0 h.leaf, holds_has r e.small h.small, holds_has r e.large h.large)

-- ---- the rows of a patch

-- q is a leaf holding both ends of e, and a row of W
pub record Held (W : List Row) (e : Ends) (q : ℕ) : Type 0 where
  pub there : q < length W
  pub holding : Holding e (row_in W q)

module _ (W : List Row) (e : Ends) where
  pub from_hit : (d r : ℕ) → holding e (row_in W r) ≡ true → holders_from W e (suc d) r ≡ r ∷ holders_from W e d (suc r)
  unfolding holders_from
  from_hit d r h = rw (holders_from, h)

  pub from_miss : (d r : ℕ) → holding e (row_in W r) ≡ false → holders_from W e (suc d) r ≡ holders_from W e d (suc r)
  unfolding holders_from
  from_miss d r h = rw (holders_from, h)

  -- what is in the list from row r on
  pub record Listed (d r q : ℕ) : Type 0 where
    pub above : r ≤ q
    pub below : q < r + d
    pub test : holding e (row_in W q) ≡ true

  from_only : (d r q : ℕ) → Memᴰ q (holders_from W e d r) → Listed d r q
  unfolding holders_from
  from_only zero r q k = absurd (Memᴰ.not-nil k)
  from_only (suc d) r q k = go (holding e (row_in W r)) refl (from_only d (suc r) q)
    where
      go : (b : Bool) → holding e (row_in W r) ≡ b → (Memᴰ q (holders_from W e d (suc r)) → Listed d (suc r) q) → Listed (suc d) r q
      go false h deeper = let w = deeper (rw (from_miss d r h) at k) in record { above = omega (arith, w.above); below = omega (arith, w.below); test = w.test }
      go true h deeper = elim (Memᴰ.cases_cons (rw (from_hit d r h) at k)) [
        | inl x ↦ record { above = omega (arith, x); below = omega (arith, x); test = rw x h }
        | inr j ↦ let w = deeper j in record { above = omega (arith, w.above); below = omega (arith, w.below); test = w.test }
      ]

  from_has : (d r q : ℕ) → Listed d r q → Memᴰ q (holders_from W e d r)
  unfolding holders_from
  from_has zero r q w = absurd (omega (arith, w.above, w.below))
  from_has (suc d) r q w = go (holding e (row_in W r)) refl (from_has d (suc r) q) (ℕ_discrete q r)
    where
      on : (q ≡ r → ⊥) → Listed d (suc r) q
      on n = record { above = omega (arith, w.above, n); below = omega (arith, w.below); test = w.test }

      go : (b : Bool) → holding e (row_in W r) ≡ b → (Listed d (suc r) q → Memᴰ q (holders_from W e d (suc r))) → Dec (q ≡ r) → Memᴰ q (holders_from W e (suc d) r)
      go true h deeper (yes x) = rw (from_hit d r h) (Memᴰ.head x)
      go true h deeper (no n) = rw (from_hit d r h) (Memᴰ.tail (deeper (on n)))
      go false h deeper (yes x) = let z : true ≡ false = sym w.test ∙ ap (λ (k : ℕ). holding e (row_in W k)) x ∙ h in let y : ◌≡◌ {A = ℕ} 0 1 = cc in absurd (omega arith)
      go false h deeper (no n) = rw (from_miss d r h) (deeper (on n))

  pub holders_only : (q : ℕ) → Memᴰ q (holders W e) → Held W e q
  holders_only q k = let w = from_only (length W) 0 q k in record { there = omega (arith, w.below); holding = holding_is e (row_in W q) w.test }

  pub holders_has : (q : ℕ) → Held W e q → Memᴰ q (holders W e)
  holders_has q h = from_has (length W) 0 q (record { above = omega arith; below = omega (arith, h.there); test = is_holding e (row_in W q) h.holding })

-- ---- each row once

-- no number stands twice in the list
pub data Once : List ℕ → Type 0 where
  nil : Once []
  one : {s : ℕ} {ss : List ℕ} → (Memᴰ s ss → ⊥) → Once ss → Once (s ∷ ss)

from_once : (W : List Row) (e : Ends) (d r : ℕ) → Once (holders_from W e d r)
unfolding holders_from
from_once W e zero r = nil
from_once W e (suc d) r = go (holding e (row_in W r)) refl (from_once W e d (suc r))
  where
    go : (b : Bool) → holding e (row_in W r) ≡ b → Once (holders_from W e d (suc r)) → Once (holders_from W e (suc d) r)
    go true h o = rw (from_hit W e d r h) (one (λ k. omega (arith, (from_only W e d (suc r) r k).above)) o)
    go false h o = rw (from_miss W e d r h) o

pub holders_once : (W : List Row) (e : Ends) → Once (holders W e)
holders_once W e = from_once W e (length W) 0

-- ---- the first with another edge

pub same_ends_lem : (e f : Ends) → same_ends e f ≡ true → e ≡ f
unfolding same_ends
same_ends_lem e f h =
    let (small, large) = and_both _ _ h in
    let x = eqb-true _ _ small in
    let y = eqb-true _ _ large in
    λ j. record { small = x j; large = y j }

pub ends_same : (e : Ends) → same_ends e e ≡ true
unfolding same_ends
ends_same e = rw (eq-eqb e.small e.small refl, eq-eqb e.large e.large refl)

module _ (W : List Row) (e : Ends) where
  -- where no leaf blocks, all have the edge e
  pub clear_edges : (ss : List ℕ) → other_in W e ss ≡ None → (q : ℕ) → Memᴰ q ss → edge_of (row_in W q) ≡ e
  unfolding other_in
  clear_edges [] h q k = absurd (Memᴰ.not-nil k)
  clear_edges (s ∷ ss) h q k = go (same_ends (edge_of (row_in W s)) e) refl h (clear_edges ss)
    where
      go : (b : Bool) → same_ends (edge_of (row_in W s)) e ≡ b → cond b (other_in W e ss) (Some s) ≡ None → (other_in W e ss ≡ None → (q : ℕ) → Memᴰ q ss → edge_of (row_in W q) ≡ e) → edge_of (row_in W q) ≡ e
      go true x y deeper = elim (Memᴰ.cases_cons k) [ inl z ↦ rw z (same_ends_lem _ e x) | inr j ↦ deeper y q j ]
      go false x y deeper = let z : ◌≡◌ {A = ℕ} 0 1 = cc in absurd (omega arith)

  -- the leaf that blocks is one of them, and has another edge
  pub other_listed : (ss : List ℕ) (b : ℕ) → other_in W e ss ≡ Some b → Memᴰ b ss × (edge_of (row_in W b) ≡ e → ⊥)
  unfolding other_in
  other_listed [] b h = let z : ◌≡◌ {A = ℕ} 0 1 = cc in absurd (omega arith)
  other_listed (s ∷ ss) b h = go (same_ends (edge_of (row_in W s)) e) refl h (other_listed ss b)
    where
      at_is : (p q : ℕ) → Some p ≡ Some q → p ≡ q
      at_is p q x = cc

      go : (a : Bool) → same_ends (edge_of (row_in W s)) e ≡ a → cond a (other_in W e ss) (Some s) ≡ Some b → (other_in W e ss ≡ Some b → Memᴰ b ss × (edge_of (row_in W b) ≡ e → ⊥)) → Memᴰ b (s ∷ ss) × (edge_of (row_in W b) ≡ e → ⊥)
      go true x y deeper = let (k, d) = deeper y in (Memᴰ.tail k, d)
      go false x y deeper =
          let q = at_is s b y in
          (Memᴰ.head (sym q), λ z. let w : true ≡ false = sym (ends_same e) ∙ ap (λ (f : Ends). same_ends f e) (sym z ∙ ap (λ (k : ℕ). edge_of (row_in W k)) (sym q)) ∙ x in let u : ◌≡◌ {A = ℕ} 0 1 = cc in absurd (omega arith))
