-- The rebuild from what is kept (02, L13): "an opened mesh, refined by the kept elements, named by root and sides, in ascending old row".
use Rattle.std.specs.Prelude.{◌≡◌, List, [], ◌∷◌, map, ℕ, suc, take}
use Rattle.split.specs.declared.row.Row.{Row}
use Rattle.split.specs.declared.point.Point.{Point}
use Rattle.split.specs.Split.{Side}
use Rattle.tables.specs.declared.layout.Size.{Size}
use Rattle.tables.specs.Mesh.{Mesh}
use Rattle.forest.specs.Element.{Element, el}
use Rattle.forest.specs.Closed.{Forced}
use Rattle.sound.specs.Sound.{row_of, childless, place}
use Rattle.sound.specs.Forest.{forest_of}
use Rattle.run.specs.Skeleton.{Skeleton, row_in, meshed}
use Rattle.run.specs.Run.{RunAll, Within, Over, StuckAll}
use Rattle.salvage_theory.specs.Kept.{Kept, KeptIn}

-- what the rebuilt mesh splits: "the smallest closed set holding those" (02, L13)
abbrev pub Salvaged : Mesh → ℕ → Element → Type 0
Salvaged m t = Forced (forest_of m t) (KeptIn m t)

-- the opened mesh: the leading records, and the roots without children
abbrev pub opened : Mesh → ℕ → ℕ → Skeleton
opened m i t = record { records = take i m.records; rows = map childless (take t m.rows) }

-- its points
abbrev pub initials : Mesh → ℕ → List Point
initials m i = take i m.points

-- a rebuilt mesh: the old points of the initial vertices, and those of midpoints by the rule
abbrev pub mesh_from : Mesh → ℕ → Skeleton → Mesh
mesh_from m i T = meshed (initials m i) T

-- the row of an element, from its root by its sides (02, L13: "named by root and sides")
unfoldable pub find_below : List Row → ℕ → List Side → ℕ
find_below W k [] = k
find_below W k (s ∷ p) = place s (row_in W (find_below W k p)).child

abbrev pub find : List Row → Element → ℕ
find W (el k p) = find_below W k p

-- T is what the kept rows below n have made of the opened mesh, each as a call with the one mark that its element has by then (02, L13: "refined by the kept elements .. in ascending old row")
pub data Rebuilt (m : Mesh) (i t : ℕ) : ℕ → Skeleton → Type 0 where
  start : {T : Skeleton} → T ≡ opened m i t → Rebuilt m i t 0 T
  passed : {n : ℕ} {T : Skeleton} → Rebuilt m i t n T → ((e : Element) → Kept m t n e → ⊥) → Rebuilt m i t (suc n) T
  refined : {n : ℕ} {e : Element} {T U : Skeleton} → Rebuilt m i t n T → Kept m t n e → RunAll T (find T.rows e ∷ []) U → Rebuilt m i t (suc n) U

-- a kept row of depth 60: number 11 (02, L13)
pub record KeptDeep (m : Mesh) (t : ℕ) : Type 0 where
  pub row : ℕ
  pub element : Element
  pub kept : Kept m t row element
  pub deep : (row_of m row).depth ≡ 60

-- the opened mesh has no room, or the rebuild comes to a patch whose split has none (02, L13: 2)
pub data Stalled (room : Size) (m : Mesh) (i t : ℕ) : Type 0 where
  start : Over room (opened m i t) → Stalled room m i t
  stuck : {n : ℕ} {e : Element} {T : Skeleton} → Rebuilt m i t n T → Within room T → Kept m t n e → StuckAll room T (find T.rows e ∷ []) → Stalled room m i t
