-- The state in which closure works, and what falls while it does.
use Rattle.std.specs.Prelude.{◌≡◌, List, [], ℕ, ◌≤◌, ◌<◌, eqb, length, get_or}
use Rattle.split.specs.declared.point.Point.{Point}
use Rattle.tables.specs.Layout.{no_record}
use Rattle.tables.specs.Mesh.{Mesh}
use Rattle.forest.specs.Element.{shape}
use Rattle.forest.specs.Generation.{rank, edge_gen}
use Rattle.intake.specs.Search.{count}
use Rattle.sound.specs.Sound.{Grown, Conforming}
use Rattle.sound.specs.Forest.{forest_of, colour_in, largest_in, element_of}
use Rattle.run.specs.Skeleton.{Skeleton, row_in, meshed}
use Rattle.run.specs.Run.{Run}

-- sound but for the lent tables, with the points P of the first vertices
pub record Ready (P : List Point) (i t : ℕ) (S : Skeleton) : Type 0 where
  pub based : length P ≤ length S.records
  pub grown : Grown (meshed P S) i t
  pub conforming : Conforming (meshed P S) i

-- the same but for clause 7, as between the splits of single leaves (02, L10)
pub record Growing (P : List Point) (i t : ℕ) (S : Skeleton) : Type 0 where
  pub based : length P ≤ length S.records
  pub grown : Grown (meshed P S) i t

-- a leaf of depth below 60, so that it may be split
pub record Open (S : Skeleton) (r : ℕ) : Type 0 where
  pub there : r < length S.rows
  pub leaf : (row_in S.rows r).child ≡ 0
  pub shallow : (row_in S.rows r).depth < 60

-- T is reached from S by refining leaves
pub data Reach (S : Skeleton) : Skeleton → Type 0 where
  here : {T : Skeleton} → T ≡ S → Reach S T
  onward : {T U : Skeleton} {r : ℕ} → Reach S T → Open T r → Run T r U → length U.records < 4294967295 → Reach S U

-- the rank of a row's edge (000, gen♯)
abbrev pub edge_rank : Mesh → ℕ → ℕ → ℕ → ℕ
edge_rank m i t r = rank (edge_gen (largest_in m i) (colour_in m i) (shape (forest_of m t) (element_of m t r)))

-- the same of a skeleton: how many vertices are initial and how many rows are roots can be told from it
unfoldable pub rank_in : Skeleton → ℕ → ℕ
rank_in S r = edge_rank (meshed [] S) (count (λ v. eqb (get_or S.records v no_record).second 4294967295) (length S.records)) (count (λ q. eqb (row_in S.rows q).parent q) (length S.rows)) r
