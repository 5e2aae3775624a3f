-- What one round splits, or two, need not be closed: W7 (01) as a counterexample.
use mathlib.Core.Path.{◌≡◌, refl}
use mathlib.Core.List.{List, [], ◌∷◌}
use Prim.Native.Nat.{ℕ, zero, suc, ◌≤◌, ◌<◌}
use native.Mathlib.Omega.{arith}
use lib.ListN.{length}
use Rattle.split.specs.Split.{three, corners, at, Side, right, second}
use Rattle.forest.specs.Element.{Element, el, shape_at, HoldsEdge}
use Rattle.forest.specs.Start.{Rising, Started, Coloured, arranged}
use Rattle.forest.specs.Closed.{ClosedAsDemanded}
use Rattle.forest.specs.Shallow.{DepthBelow}
use Rattle.forest.specs.W7.{w7, w7_root}

-- the second child of root 1 is 0 1 3 and a midpoint, so it keeps both ends of the edge 0 3 that splitting root 0 halves
keeps : HoldsEdge w7 (el 1 (right ∷ [])) (el 0 [])
unfolding shape_at second
keeps = record { near = record { place = 0; inside = omega arith; is = refl }; away = record { place = 2; inside = omega arith; is = refl } }

-- and its second child is 1 3 and two midpoints, so it keeps both ends of the edge 1 3 that splitting the second child of root 0 halves
keeps_still : HoldsEdge w7 (el 1 (right ∷ right ∷ [])) (el 0 (right ∷ []))
unfolding shape_at second
keeps_still = record { near = record { place = 0; inside = omega arith; is = refl }; away = record { place = 1; inside = omega arith; is = refl } }

-- d rounds leave unsplit what they make in the last of them
unclosed : {d : ℕ} (k : ℕ) (s : Side) (p : List Side) (u : Element) → k < 3 → suc (length p) ≡ d → DepthBelow w7 d u → HoldsEdge w7 (el k (s ∷ p)) u → ClosedAsDemanded w7 (DepthBelow w7 d) → ⊥
unclosed k s p u root last m h c = c.conforming (el k (s ∷ p)) u (record { present = record { root = root; shallow = omega arith }; unsplit = λ x. omega (arith, x.shallow) }) m h

-- so one round is not closed (02, L9: "single rounds need not")
pub one_round_open : ClosedAsDemanded w7 (DepthBelow w7 1) → ⊥
one_round_open = unclosed 1 right [] (el 0 []) (omega arith) (omega arith) (record { root = omega arith; shallow = omega arith }) keeps

-- nor are two
pub two_rounds_open : ClosedAsDemanded w7 (DepthBelow w7 2) → ⊥
two_rounds_open = unclosed 1 right (right ∷ []) (el 0 (right ∷ [])) (omega arith) (omega arith) (record { root = omega arith; shallow = omega arith }) keeps_still

-- the counterexample is a mesh of ours: W7's rows stand in the order of Definition 2, each vertex's number being its colour (000; 01, W7)
rising : (a b c d : ℕ) → (a < b) × (b < c) × (c < d) × (d ≤ 4) → Rising three 4 (λ v. v) (corners a b c d)
rising a b c d h = record { rises = rises; most = h.3 }
  where
    rises : (p : ℕ) → p < 3 → at (corners a b c d) p < at (corners a b c d) (suc p)
    rises zero q = h.0
    rises (suc zero) q = h.1
    rises (suc (suc zero)) q = h.2
    rises (suc (suc (suc p))) q = absurd (omega arith)

pub w7_coloured : Coloured w7 4 (λ v. v)
unfolding arranged
w7_coloured = record { small = omega arith; started = started }
  where
    started : (k : ℕ) → k < 3 → Started three 4 (λ v. v) (w7_root k)
    started zero h = record { sorted = corners 0 1 2 3; rising = rising 0 1 2 3 (omega arith); is = refl }
    started (suc zero) h = record { sorted = corners 0 1 3 4; rising = rising 0 1 3 4 (omega arith); is = refl }
    started (suc (suc k)) h = record { sorted = corners 0 1 2 4; rising = rising 0 1 2 4 (omega arith); is = refl }
