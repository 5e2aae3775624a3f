-- The points of a skeleton's vertices: one for each record, and those of the first records stay.
use mathlib.Core.Path.{◌≡◌, refl, ap, ◌∙◌}
use mathlib.Core.List.{List, [], ◌∷◌, ◌++◌}
use Prim.Native.Nat.{ℕ, ◌+◌, ◌≤◌}
use native.Mathlib.Omega.{arith}
use lib.ListN.{length, get_or, drop, length-append, length-drop}
use lib.Seq.{drop-append-le, drop-length}
use Rattle.split.specs.declared.point.Point.{Point}
use Rattle.split.specs.Midpoint.{between}
use Rattle.tables.specs.declared.record.Record.{Record}
use Rattle.tables.specs.Layout.{no_point}
use Rattle.run.specs.Skeleton.{Skeleton, extended, meshed}

-- the point of a midpoint by its record
abbrev pub halfway : List Point → Record → Point
halfway P r = between (get_or P r.first no_point) (get_or P r.second no_point)

extended_append : (P : List Point) (rs : List Record) (r : Record) → extended P (rs ++ (r ∷ [])) ≡ extended P rs ++ (halfway (extended P rs) r ∷ [])
unfolding extended
extended_append P [] r = refl
extended_append P (x ∷ rs) r = extended_append (P ++ (halfway P x ∷ [])) rs r

length_extended : (P : List Point) (rs : List Record) → length (extended P rs) ≡ length P + length rs
unfolding extended
length_extended P [] = omega arith
length_extended P (x ∷ rs) = length_extended (P ++ (halfway P x ∷ [])) rs ∙ omega (arith, length-append P (halfway P x ∷ []))

module _ (P : List Point) (S : Skeleton) (based : length P ≤ length S.records) where
  pub points_length : length (meshed P S).points ≡ length S.records
  points_length = length_extended P (drop (length P) S.records) ∙ omega (arith, length-drop (length P) S.records, based)

  -- one record more is one point more
  pub points_next : (r : Record) → extended P (drop (length P) (S.records ++ (r ∷ []))) ≡ (meshed P S).points ++ (halfway (meshed P S).points r ∷ [])
  points_next r = ap (extended P) (drop-append-le (length P) S.records (r ∷ []) based) ∙ extended_append P (drop (length P) S.records) r

-- a mesh with one point for each record is that of its own points and skeleton
pub points_own : (P : List Point) (S : Skeleton) → length P ≡ length S.records → (meshed P S).points ≡ P
unfolding extended
points_own P S e = ap (λ (n : ℕ). extended P (drop n S.records)) e ∙ ap (extended P) (drop-length S.records)
