use mathlib.Core.Path.{refl}
use borrow.Author.Tests.{tests}
use native.Mathlib.Omega.{arith}
use Rattle.shape.proofs.laws.Family.{decides_false, decides_test, recorded, records}
use Rattle.shape.proofs.family.Counted.records_edge.Goals as goal

pub returns-then-not-contains : goal.returns-then-not-contains
returns-then-not-contains c = decides_false (λ k. let m = recorded _ _ _ refl k in grind (arith, tests, m.midpoint, m.there))

pub returns-then-held-e : goal.returns-then-held-e
returns-then-held-e c = let held = c.read-held.ensures in
    decides_test _ _
    (λ e. records _ _ _ held (record { midpoint = grind (arith, tests); there = grind (arith, tests); small = c.if-held-e.true; large = e }))
    (λ k. (recorded _ _ _ held k).large)

pub returns-else-held-e : goal.returns-else-held-e
returns-else-held-e c = decides_test _ _ (λ e. absurd (c.if-held-e.false e)) (λ k. (recorded _ _ _ c.read-held.ensures k).small)
