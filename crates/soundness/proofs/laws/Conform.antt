-- Clause 7: a leaf by its six pairs of vertices.
use mathlib.Core.Path.{◌≡◌, sym}
use mathlib.Core.Bool.{Bool, true, false}
use mathlib.Core.List.{List, [], ◌∷◌}
use lib.ListN.{get_or}
use Rattle.std.specs.Bool.{MatchBool}
use Rattle.std.specs.List.{AllWithin, HoldsAt}
use mathlib.Core.Logic.{◌⊎◌, inl, inr}
use Prim.Native.Nat.{ℕ, zero, suc, zero-le, ◌≤◌, ◌<◌, min, max}
use native.Mathlib.Omega.{arith}
use Rattle.split.specs.declared.row.Row.{Row}
use Rattle.split.specs.Split.{at, Holds}
use Rattle.split.specs.Row.{corners_of}
use Rattle.split.proofs.laws.Places.{le_or_lt}
use Rattle.tables.specs.Layout.{record_at, row_at}
use Rattle.sound.specs.Check.{Decides}
use Rattle.soundness.specs.Check.{Rising, Has, Untaken, Whole}
use Rattle.sound.proofs.laws.Deciding.{decides_true, decides_false, decides_same}

-- x and y are the parents of no midpoint, in either order
abbrev pub Unpaired : List ℕ → ℕ → ℕ → ℕ → ℕ → Type 0
Unpaired r i n x y = Untaken r i n (min x y) (max x y)

abbrev pub Apart : List ℕ → ℕ → ℕ → ℕ × ℕ → Type 0
Apart r i n p = Unpaired r i n p.0 p.1

-- the pairs of vertices of a row
abbrev pub six : Row → List (ℕ × ℕ)
six h = (h.v0, h.v1) ∷ (h.v0, h.v2) ∷ (h.v0, h.v3) ∷ (h.v1, h.v2) ∷ (h.v1, h.v3) ∷ (h.v2, h.v3) ∷ []

module _ {r : List ℕ} {i n : ℕ} (rising : Rising r i n) where
  -- a midpoint whose parents are x and y, in the order of their places or against it
  met : {x y : ℕ} → Unpaired r i n x y → (v : ℕ) → i ≤ v → v < n → (record_at r v).first ≡ x → (record_at r v).second ≡ y → ⊥
  met u v h l e f = u.none v h l (record { first = omega (arith, rising.rises v h l); second = omega (arith, rising.rises v h l) })

  met_turned : {x y : ℕ} → Unpaired r i n x y → (v : ℕ) → i ≤ v → v < n → (record_at r v).first ≡ y → (record_at r v).second ≡ x → ⊥
  met_turned u v h l e f = u.none v h l (record { first = omega (arith, rising.rises v h l); second = omega (arith, rising.rises v h l) })

  module _ {w : List ℕ} {q : ℕ} {held : Row} (e : held ≡ row_at w q) where
    module _ (z : held.child ≡ 0) where
      apart_at : Whole r w i n q → (p k : ℕ) → p ≤ 3 → k ≤ 3 → Unpaired r i n (at (corners_of held) p) (at (corners_of held) k)
      apart_at x p k s t = record { none = λ v h l m. go v h l m (le_or_lt (at (corners_of held) p) (at (corners_of held) k)) }
        where
          held_at : {v : ℕ} (p : ℕ) → p ≤ 3 → at (corners_of held) p ≡ v → Holds 3 (corners_of (row_at w q)) v
          held_at p s f = rw (← e) (record { place = p; inside = s; is = f })

          go : (v : ℕ) → i ≤ v → v < n → Has r v (min (at (corners_of held) p) (at (corners_of held) k)) (max (at (corners_of held) p) (at (corners_of held) k)) → (at (corners_of held) p ≤ at (corners_of held) k) ⊎ (at (corners_of held) k < at (corners_of held) p) → ⊥
          go v h l m (inl a) = x.leaf (rw e at z) v h l (held_at p s (omega (arith, m.first))) (held_at k t (omega (arith, m.second)))
          go v h l m (inr a) = x.leaf (rw e at z) v h l (held_at k t (omega (arith, m.first))) (held_at p s (omega (arith, m.second)))

      -- where five pairs pass, the sixth decides
      whole_last : {b : Bool} → Unpaired r i n held.v0 held.v1 → Unpaired r i n held.v0 held.v2 → Unpaired r i n held.v0 held.v3 → Unpaired r i n held.v1 held.v2 → Unpaired r i n held.v1 held.v3
          → Decides (Unpaired r i n held.v2 held.v3) b → Decides (Whole r w i n q) b
      whole_last a₁ a₂ a₃ b₂ b₃ = decides_same (λ c₃. record { leaf = λ x v h l f g. go c₃ v h l f.place g.place (rw e f.is) (rw e g.is) }) (λ x. apart_at x 2 3 (omega arith) (omega arith))
        where
          same : {x : ℕ} (v : ℕ) → i ≤ v → v < n → (record_at r v).first ≡ x → (record_at r v).second ≡ x → ⊥
          same v h l f g = omega (arith, rising.rises v h l)

          go : Unpaired r i n held.v2 held.v3 → (v : ℕ) → i ≤ v → v < n → (p k : ℕ) → at (corners_of held) p ≡ (record_at r v).first → at (corners_of held) k ≡ (record_at r v).second → ⊥
          go c₃ v h l zero zero f g = same v h l (sym f) (sym g)
          go c₃ v h l zero (suc zero) f g = met a₁ v h l (sym f) (sym g)
          go c₃ v h l zero (suc (suc zero)) f g = met a₂ v h l (sym f) (sym g)
          go c₃ v h l zero (suc (suc (suc k))) f g = met a₃ v h l (sym f) (sym g)
          go c₃ v h l (suc zero) zero f g = met_turned a₁ v h l (sym f) (sym g)
          go c₃ v h l (suc zero) (suc zero) f g = same v h l (sym f) (sym g)
          go c₃ v h l (suc zero) (suc (suc zero)) f g = met b₂ v h l (sym f) (sym g)
          go c₃ v h l (suc zero) (suc (suc (suc k))) f g = met b₃ v h l (sym f) (sym g)
          go c₃ v h l (suc (suc zero)) zero f g = met_turned a₂ v h l (sym f) (sym g)
          go c₃ v h l (suc (suc zero)) (suc zero) f g = met_turned b₂ v h l (sym f) (sym g)
          go c₃ v h l (suc (suc zero)) (suc (suc zero)) f g = same v h l (sym f) (sym g)
          go c₃ v h l (suc (suc zero)) (suc (suc (suc k))) f g = met c₃ v h l (sym f) (sym g)
          go c₃ v h l (suc (suc (suc p))) zero f g = met_turned a₃ v h l (sym f) (sym g)
          go c₃ v h l (suc (suc (suc p))) (suc zero) f g = met_turned b₃ v h l (sym f) (sym g)
          go c₃ v h l (suc (suc (suc p))) (suc (suc zero)) f g = met_turned c₃ v h l (sym f) (sym g)
          go c₃ v h l (suc (suc (suc p))) (suc (suc (suc k))) f g = same v h l (sym f) (sym g)

      whole_one : Whole r w i n q → (k : ℕ) → k < 6 → Apart r i n (get_or (six held) k (0, 0))
      whole_one x zero h = apart_at x 0 1 (omega arith) (omega arith)
      whole_one x (suc zero) h = apart_at x 0 2 (omega arith) (omega arith)
      whole_one x (suc (suc zero)) h = apart_at x 0 3 (omega arith) (omega arith)
      whole_one x (suc (suc (suc zero))) h = apart_at x 1 2 (omega arith) (omega arith)
      whole_one x (suc (suc (suc (suc zero)))) h = apart_at x 1 3 (omega arith) (omega arith)
      whole_one x (suc (suc (suc (suc (suc zero))))) h = apart_at x 2 3 (omega arith) (omega arith)
      whole_one x (suc (suc (suc (suc (suc (suc k)))))) h = absurd (omega arith)

      pub whole_six : (b : Bool) → MatchBool b (AllWithin (Apart r i n) (six held) 0 6) ((k : ℕ) × (k < 6) × HoldsAt (λ p. Apart r i n p → ⊥) (six held) k) → Decides (Whole r w i n q) b
      whole_six true h =
          let a = λ (k : ℕ) (l : k < 6). h k (0, 0) zero-le l in
          whole_last (a 0 (omega arith)) (a 1 (omega arith)) (a 2 (omega arith)) (a 3 (omega arith)) (a 4 (omega arith)) (decides_true (a 5 (omega arith)))
      whole_six false (k, l, h) = decides_false (λ x. h (0, 0) (whole_one x k l))
