use mathlib.Core.Path.{refl, sym, ◌∙◌}
use native.Mathlib.Omega.{arith}
use Rattle.shape.proofs.laws.Family.{decides_true, decides_false, decides_test, pair_of, parent_of, leaf_passes, split_passes}
use Rattle.shape.proofs.family.Counted.parent_follows.Goals as goal

pub returns-then-held-eq0 : goal.returns-then-held-eq0
returns-then-held-eq0 c = decides_true (leaf_passes _ _ _ c.requires.q_lt_rows c.read-held.ensures c.if-held-eq0.true)

pub returns-then-first-q : goal.returns-then-first-q
returns-then-first-q c = decides_false (λ k. omega (arith, (pair_of _ _ _ c.requires.q_lt_rows c.read-held.ensures c.wide-first.ensures refl refl (split_passes _ _ _ c.requires.q_lt_rows c.read-held.ensures c.if-held-eq0.false k)).later))

pub returns-then-first-roots : goal.returns-then-first-roots
returns-then-first-roots c = decides_false (λ k. omega (arith, (pair_of _ _ _ c.requires.q_lt_rows c.read-held.ensures c.wide-first.ensures refl refl (split_passes _ _ _ c.requires.q_lt_rows c.read-held.ensures c.if-held-eq0.false k)).past))

pub returns-then-self-first : goal.returns-then-self-first
returns-then-self-first c = decides_false (λ k. omega (arith, (pair_of _ _ _ c.requires.q_lt_rows c.read-held.ensures c.wide-first.ensures refl refl (split_passes _ _ _ c.requires.q_lt_rows c.read-held.ensures c.if-held-eq0.false k)).both))

pub returns-then-wide-q : goal.returns-then-wide-q
returns-then-wide-q c = let pair = pair_of _ _ _ c.requires.q_lt_rows c.read-held.ensures c.wide-first.ensures c.read-a.ensures refl in
    decides_false (λ k. c.if-wide-q.true (c.wide.ensures ∙ (pair (split_passes _ _ _ c.requires.q_lt_rows c.read-held.ensures c.if-held-eq0.false k)).first))

pub returns : goal.returns
returns c = let inside = c.requires.q_lt_rows in
    let held = c.read-held.ensures in
    let a = c.read-a.ensures in
    let b = c.read-b.ensures in
    let its = sym c.wide.ensures ∙ c.if-wide-q.false in
    decides_test _ _
    (λ e split.
    parent_of _ _ _ inside held c.wide-first.ensures a b
    (record { later = omega arith; past = omega arith; both = omega arith; first = its; second = sym c.wide-2.ensures ∙ e }))
    (λ k. c.wide-2.ensures ∙ (pair_of _ _ _ inside held c.wide-first.ensures a b (split_passes _ _ _ inside held c.if-held-eq0.false k)).second)
