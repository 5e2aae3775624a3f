-- The walk that counts earlier elements: down the slots of v before element k, with four counts.
use mathlib.Core.Path.{◌≡◌, ◌∙◌}
use mathlib.Core.Bool.{Bool, ◌&&◌}
use mathlib.Core.List.{List}
use Prim.Native.Nat.{ℕ, ◌+◌, ◌-◌, ◌*◌, ◌/◌, ◌<◌, ◌≤◌}
use native.Mathlib.Omega.{arith}
use lib.ListN.{get_or}
use Rattle.tables.specs.Layout.{most_rows}
use Rattle.chain.specs.Chain.{latest}
use Rattle.chain.proofs.laws.Index.{next_link}
use Rattle.chain.proofs.laws.Walk.{latest_below}
use Rattle.intake.specs.Cells.{Cells}
use Rattle.opening.specs.declared.faces.Seen.{Seen}
use Rattle.intake.specs.Search.{count}
use Rattle.intake.specs.Causes.{has}
use Rattle.opening.specs.Scratch.{links_at, slot, Plain, Filled, one, Few, noted, Counted}
use Rattle.opening.proofs.laws.Corners.{elements_visits}
use Rattle.opening.proofs.laws.Walking.{visits_below, Walking, walk_start, walk_key, walk_next, walk_end}

-- element j holds a and b, and c too
abbrev pub holds_two : Cells → ℕ → ℕ → ℕ → Bool
holds_two E a b j = has E j a && has E j b

abbrev pub holds_three : Cells → ℕ → ℕ → ℕ → ℕ → Bool
holds_three E a b c j = has E j a && (has E j b && has E j c)

-- the walk counted n elements that pass the test, and goes on at `at`
abbrev Counting : Cells → ℕ → ℕ → (ℕ → Bool) → ℕ → ℕ → Type 0
Counting E k v P n at = Walking (slot E) v (λ i. P (i / 4)) (4 * k) n at

pub record Tally (E : Cells) (k v a b c : ℕ) (s : Seen) (at : ℕ) : Type 0 where
  pub all : Counting E k v (holds_three E a b c) s.all at
  pub ab : Counting E k v (holds_two E a b) s.ab at
  pub ac : Counting E k v (holds_two E a c) s.ac at
  pub bc : Counting E k v (holds_two E b c) s.bc at

module _ {vertices : ℕ} {E : Cells} {index : List ℕ} (k v : ℕ) (x : Plain vertices E) (f : Filled E (4 * k) index) where
  link : (P : ℕ → Bool) {n at : ℕ} → Counting E k v P n at → 0 < at → get_or index (links_at + (at - 1)) 0 ≡ latest (slot E) v (at - 1)
  link P w l = next_link f.index (omega (arith, w.below)) (walk_key _ _ _ w l)

  next : (P : ℕ → Bool) {n at to : ℕ} → Counting E k v P n at → 0 < at → to ≡ get_or index (links_at + (at - 1)) 0 → Counting E k v P (n + one (P ((at - 1) / 4))) to
  next P w l e = rw (e, link P w l) (walk_next _ _ _ w l)

  few : (P : ℕ → Bool) {n at : ℕ} → k < E.count → Counting E k v P n at → n ≤ 4 * most_rows
  few P h w = omega (arith, w.left, visits_below (slot E) v (λ i. P (i / 4)) (4 * k), x.few)

  total : (P : ℕ → Bool) {n at : ℕ} → k < E.count → Counting E k v P n at → at ≤ 0 → n ≡ count (λ j. has E j v && P j) k
  total P h w z = walk_end _ _ _ w (omega arith) ∙ elements_visits x P v k (omega arith)

  -- from the head, along each link, to the end
  pub tally_start : {a b c u at : ℕ} → v < vertices → u ≡ v → at ≡ get_or index u 0 → Tally E k v a b c (record { all = 0; ab = 0; ac = 0; bc = 0 }) at
  tally_start h g e = rw (e, g, f.index.heads v (omega (arith, x.most))) (record { all = walk_start _ _ _ _; ab = walk_start _ _ _ _; ac = walk_start _ _ _ _; bc = walk_start _ _ _ _ })

  module _ {a b c at : ℕ} {s : Seen} (t : Tally E k v a b c s at) where
    pub tally_few : k < E.count → Few s
    tally_few h = record { all = few (holds_three E a b c) h t.all; ab = few (holds_two E a b) h t.ab; ac = few (holds_two E a c) h t.ac; bc = few (holds_two E b c) h t.bc }

    pub tally_next : {s' : Seen} {to : ℕ} → 0 < at → s' ≡ noted (has E ((at - 1) / 4) a) (has E ((at - 1) / 4) b) (has E ((at - 1) / 4) c) s → to ≡ get_or index (links_at + (at - 1)) 0 → Tally E k v a b c s' to
    unfolding noted
    tally_next l e g = rw e (record { all = next (holds_three E a b c) t.all l g; ab = next (holds_two E a b) t.ab l g; ac = next (holds_two E a c) t.ac l g; bc = next (holds_two E b c) t.bc l g })

    pub tally_falls : {to : ℕ} → 0 < at → to ≡ get_or index (links_at + (at - 1)) 0 → to < at
    tally_falls l e = rw (e, link (holds_three E a b c) t.all l) (omega (arith, latest_below (slot E) v (at - 1)))

    pub tally_end : k < E.count → at ≤ 0 → Counted E k v a b c s
    tally_end h z = record { all = total (holds_three E a b c) h t.all z; ab = total (holds_two E a b) h t.ab z; ac = total (holds_two E a c) h t.ac z; bc = total (holds_two E b c) h t.bc z }

pub ruleset tallying = (tally_start, tally_few, tally_next, tally_falls, tally_end)
