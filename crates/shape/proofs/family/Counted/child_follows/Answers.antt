use mathlib.Core.Path.{refl}
use native.Mathlib.Omega.{arith}
use Rattle.shape.proofs.laws.Family.{decides_false, decides_as, follows, child}
use Rattle.shape.proofs.family.Counted.child_follows.Goals as goal

pub returns-then-r-wide : goal.returns-then-r-wide
returns-then-r-wide c = decides_false (λ k. omega (arith, (follows _ _ _ c.requires.r_lt_rows c.read-held.ensures refl refl k).older))

pub returns-then-parent-eq0 : goal.returns-then-parent-eq0
returns-then-parent-eq0 c = let inside = c.requires.r_lt_rows in
    let up = rw c.wide-2.ensures at c.read-parent.ensures in
    decides_false (λ k. (follows _ _ _ inside c.read-held.ensures up refl k).split c.if-parent-eq0.true)

pub returns-then-not-records_edge : goal.returns-then-not-records_edge
returns-then-not-records_edge c = let inside = c.requires.r_lt_rows in
    let up = rw c.wide-2.ensures at c.read-parent.ensures in
    let tag = c.across-m.ensures in
    let same = rw (c.wide-3.ensures, c.edge.ensures) at c.records_edge.ensures in
    decides_false (λ k. same.no c.if-not-records_edge.true (follows _ _ _ inside c.read-held.ensures up tag k).middle)

pub returns-then-held-gt60 : goal.returns-then-held-gt60
returns-then-held-gt60 c = let inside = c.requires.r_lt_rows in
    let up = rw c.wide-2.ensures at c.read-parent.ensures in
    let tag = c.across-m.ensures in
    decides_false (λ k. omega (arith, (follows _ _ _ inside c.read-held.ensures up tag k).shallow))

pub returns : goal.returns
returns c = let inside = c.requires.r_lt_rows in
    let up = rw c.wide-2.ensures at c.read-parent.ensures in
    let tag = c.across-m.ensures in
    let same = rw (c.wide-3.ensures, c.edge.ensures) at c.records_edge.ensures in
    decides_as c.is_child.ensures
    (λ s.
    child _ _ _ inside c.read-held.ensures up tag
    (record { older = omega arith; split = c.if-parent-eq0.false; middle = same.yes c.if-not-records_edge.false; shallow = c.if-held-gt60.false; sided = s }))
    (λ k. (follows _ _ _ inside c.read-held.ensures up tag k).sided)
