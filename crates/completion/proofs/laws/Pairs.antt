-- A leaf holds both parents of a midpoint exactly if a midpoint records two of its corners (02, L10): so a child's two corners at a time are asked for.
use mathlib.Core.Path.{◌≡◌, refl, sym, ap}
use Prim.Native.Nat.{ℕ, ◌≤◌, ◌<◌}
use native.Mathlib.Omega.{arith}
use Rattle.split.specs.declared.row.Row.{Row}
use Rattle.split.specs.Split.{at, Holds}
use Rattle.split.specs.Row.{corners_of, pair, ends}
use Rattle.split.proofs.laws.Places.{Against, less, equal, more, against}
use Rattle.split.proofs.laws.Ends.{ends_rising, ends_falling}
use Rattle.tables.specs.Mesh.{Mesh}
use Rattle.sound.specs.Sound.{rows, record_of, row_of, Records, Grown}
use Rattle.sound.proofs.laws.Names.{kept, swapped, sorted_ends}
use Rattle.completion.proofs.laws.Ripe.{Hanging}

-- two corners of the row are the parents of a midpoint
pub record Recorded (m : Mesh) (i : ℕ) (r : Row) : Type 0 where
  pub low : ℕ
  pub high : ℕ
  pub apart : low < high
  pub inside : high ≤ 3
  pub vertex : ℕ
  pub records : Records m i vertex (ends (at (corners_of r) low) (at (corners_of r) high))

module _ {m : Mesh} {i t : ℕ} (g : Grown m i t) (q : ℕ) where
  pub hanging_recorded : Hanging m i q → Recorded m i (row_of m q)
  hanging_recorded w = go (against w.first.place w.second.place)
    where
      rising : (record_of m w.vertex).first < (record_of m w.vertex).second
      rising = (g.midpoint w.vertex w.midpoint w.below).rising

      recorded : (a b : ℕ) → a < b → b ≤ 3 → pair (record_of m w.vertex).first (record_of m w.vertex).second ≡ ends (at (corners_of (row_of m q)) a) (at (corners_of (row_of m q)) b) → Recorded m i (row_of m q)
      recorded a b l h e = record { low = a; high = b; apart = l; inside = h; vertex = w.vertex; records = record { midpoint = w.midpoint; there = w.below; ends = e } }

      go : Against w.first.place w.second.place → Recorded m i (row_of m q)
      go (less l) = recorded _ _ l w.second.inside (rw (w.first.is, w.second.is) (sym (ends_rising (omega (arith, rising)))))
      go (more l) = recorded _ _ l w.first.inside (rw (w.first.is, w.second.is) (sym (ends_falling (omega (arith, rising)))))
      go (equal e) = absurd (omega (arith, rising, w.first.is, w.second.is, ap (at (corners_of (row_of m q))) e))

  pub recorded_hanging : q < rows m → (row_of m q).child ≡ 0 → Recorded m i (row_of m q) → Hanging m i q
  recorded_hanging h l w = elim (sorted_ends _ _ _ _ w.records.ends) [
    | kept x y ↦ record { there = h; leaf = l; vertex = w.vertex; midpoint = w.records.midpoint; below = w.records.there; first = rw x here; second = rw y there }
    | swapped x y ↦ record { there = h; leaf = l; vertex = w.vertex; midpoint = w.records.midpoint; below = w.records.there; first = rw x there; second = rw y here }
  ]
    where
      here : Holds 3 (corners_of (row_of m q)) (at (corners_of (row_of m q)) w.low)
      here = record { place = w.low; inside = omega (arith, w.apart, w.inside); is = refl }

      there : Holds 3 (corners_of (row_of m q)) (at (corners_of (row_of m q)) w.high)
      there = record { place = w.high; inside = w.inside; is = refl }
