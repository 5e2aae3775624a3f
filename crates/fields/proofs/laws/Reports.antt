-- What a read line reports: it tells the line, and a refused line reports the place that it was read at.
use mathlib.Core.Path.{◌≡◌, refl, ap}
use mathlib.Core.List.{List, [], ◌∷◌}
use Prim.Native.Nat.{ℕ}
use native.Mathlib.Omega.{arith}
use lib.Ieee.{Float}
use Rattle.fields.specs.declared.line.Line.{Line}
use Rattle.fields.specs.declared.line.Line.TheVariants.{Vertex, Element, Mark, Refused}
use Rattle.fields.specs.Line.{line_of, ReadLine, reported}
use Rattle.fields.proofs.Inverse.{Written, line_written}
use Rattle.fields.proofs.Inverse as inverse

abbrev letter : ReadLine → ℕ
letter r = r.letter

abbrev floats : ReadLine → List Float
floats r = r.floats

abbrev numbers : ReadLine → List ℕ
numbers r = r.numbers

-- two lines with the same report are equal: its number and values tell the case (01, "Which shape goes where")
pub report_tells : (l m : Line) → reported l ≡ reported m → l ≡ m
report_tells (Vertex x y z) (Vertex p q r) e = let f : x ∷ y ∷ z ∷ [] ≡ p ∷ q ∷ r ∷ [] = ap floats e in cc
report_tells (Vertex x y z) (Element a b c d) e = absurd (omega (arith, ap letter e))
report_tells (Vertex x y z) (Mark r) e = absurd (omega (arith, ap letter e))
report_tells (Vertex x y z) (Refused p) e = absurd (omega (arith, ap letter e))
report_tells (Element a b c d) (Vertex x y z) e = absurd (omega (arith, ap letter e))
report_tells (Element a b c d) (Element i j k l) e = let f : a ∷ b ∷ c ∷ d ∷ [] ≡ i ∷ j ∷ k ∷ l ∷ [] = ap numbers e in cc
report_tells (Element a b c d) (Mark r) e = absurd (omega (arith, ap letter e))
report_tells (Element a b c d) (Refused p) e = absurd (omega (arith, ap letter e))
report_tells (Mark r) (Vertex x y z) e = absurd (omega (arith, ap letter e))
report_tells (Mark r) (Element a b c d) e = absurd (omega (arith, ap letter e))
report_tells (Mark r) (Mark s) e = let f : r ∷ [] ≡ s ∷ [] = ap numbers e in cc
report_tells (Mark r) (Refused p) e = absurd (omega (arith, ap letter e))
report_tells (Refused p) (Vertex x y z) e = absurd (omega (arith, ap letter e))
report_tells (Refused p) (Element a b c d) e = absurd (omega (arith, ap letter e))
report_tells (Refused p) (Mark r) e = absurd (omega (arith, ap letter e))
report_tells (Refused p) (Refused q) e = λ i. Refused (e i).place

-- line k is reported well formed, or by 12 and the place k
pub line_reported : (l : List ℕ) (k : ℕ) → ((reported (line_of l k)).number ≡ 0 → ⊥) → ((reported (line_of l k)).number ≡ 12) × ((reported (line_of l k)).place ≡ k)
line_reported l k = go (line_written l k)
  where
    go : {v : Line} → Written l k v → ((reported v).number ≡ 0 → ⊥) → ((reported v).number ≡ 12) × ((reported v).place ≡ k)
    go (inverse.vertex a b c ha hb hc e) n = absurd (n refl)
    go (inverse.element a b c d ha hb hc hd e) n = absurd (n refl)
    go (inverse.mark a ha e) n = absurd (n refl)
    go inverse.refused n = (refl, refl)
