-- Each later row of sound tables is one child of exactly one earlier row (01, "Sound tables").
use mathlib.Core.Path.{◌≡◌, refl, sym, ap, ◌∙◌}
use Prim.Native.Nat.{ℕ, ◌≤◌, ◌<◌}
use Rattle.tables.specs.Mesh.{Mesh}
use Rattle.sound.specs.Sound.{rows, row_of, place, Grown}
use Rattle.sound.specs.Follows.{OneParent}
use Rattle.sound.proofs.laws.Offspring.{place_apart, place_below}

-- a split row's children name it, so each pair that leads to r is the one that r names
pub one_parent : {m : Mesh} {i t : ℕ} → Grown m i t → (r : ℕ) → t ≤ r → r < rows m → OneParent m r
one_parent {m} g r past there =
    let c = g.child r past there in
    record {
      row = (row_of m r).parent;
      side = c.side;
      older = c.older;
      split = c.split;
      here = c.here;
      named = refl;
      only = λ q s l split e.
          let same : (row_of m r).parent ≡ q = ap (λ (n : ℕ). (row_of m n).parent) e ∙ (place_below g q l split s).parent in
          (sym same, place_apart s c.side (row_of m q).child (sym e ∙ c.here ∙ ap (λ (n : ℕ). place c.side (row_of m n).child) same));
    }
