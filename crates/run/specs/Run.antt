-- Closure (01, "Closure"; 000, Algorithm 3, with an order), on records and rows.
use Rattle.std.specs.Prelude.{◌≡◌, Bool, ◌&&◌, ◌||◌, cond, List, [], ◌∷◌, ◌++◌, ℕ, zero, suc, ◌≤◌, ◌<◌, eqb, length, set, None, Option, Some}
use Rattle.split.specs.declared.row.Row.{Row}
use Rattle.split.specs.declared.row.Ends.{Ends}
use Rattle.split.specs.Row.{edge_of, with_child, first_of, second_of}
use Rattle.tables.specs.declared.layout.Size.{Size}
use Rattle.tables.specs.declared.record.Record.{Record}
use Rattle.run.specs.Skeleton.{Skeleton, row_in}

-- ---- the patch of an edge

-- v is one of the row's vertices
unfoldable pub has : Row → ℕ → Bool
has r v = eqb r.v0 v || eqb r.v1 v || eqb r.v2 v || eqb r.v3 v

-- the row is a leaf holding both ends of e
unfoldable pub holding : Ends → Row → Bool
holding e r = eqb r.child 0 && has r e.small && has r e.large

-- of the d rows from the given one on, those that are leaves holding both ends of e, in ascending row order
unfoldable pub holders_from : List Row → Ends → ℕ → ℕ → List ℕ
holders_from W e zero r = []
holders_from W e (suc d) r = cond (holding e (row_in W r)) (r ∷ holders_from W e d (suc r)) (holders_from W e d (suc r))

-- the leaves holding both ends of e, in ascending row order (01, "Closure")
abbrev pub holders : List Row → Ends → List ℕ
holders W e = holders_from W e (length W) 0

unfoldable pub same_ends : Ends → Ends → Bool
same_ends e f = eqb e.small f.small && eqb e.large f.large

-- the first of the given leaves whose own edge is not e
unfoldable pub other_in : List Row → Ends → List ℕ → Option ℕ
other_in W e [] = None
other_in W e (r ∷ rs) = cond (same_ends (edge_of (row_in W r)) e) (other_in W e rs) (Some r)

-- the leaf that is refined before r, if any (01, "Closure")
abbrev pub blocking : List Row → ℕ → Option ℕ
blocking W r = other_in W (edge_of (row_in W r)) (holders W (edge_of (row_in W r)))

-- ---- the split of a patch

-- leaf s split at vertex v: its first child and then its second are appended (01, "Closure")
unfoldable pub cut : ℕ → List Row → ℕ → List Row
cut v W s = set W s (with_child (row_in W s) (length W)) ++ (first_of (row_in W s) s v ∷ second_of (row_in W s) s v ∷ [])

-- leaves split one after the other
unfoldable pub cut_all : ℕ → List Row → List ℕ → List Row
cut_all v W [] = W
cut_all v W (s ∷ ss) = cut_all v (cut v W s) ss

abbrev pub record_for : Ends → Record
record_for e = record { first = e.small; second = e.large }

-- one vertex appended, the midpoint of r's edge, and all leaves holding both its ends split in ascending row order (01, "Closure")
unfoldable pub split_patch : Skeleton → ℕ → Skeleton
split_patch S r = record {
  records = S.records ++ (record_for (edge_of (row_in S.rows r)) ∷ []);
  rows = cut_all (length S.records) S.rows (holders S.rows (edge_of (row_in S.rows r)));
}

-- ---- the run

-- refining leaf r leads from S to S' (01, "Closure")
pub data Run : Skeleton → ℕ → Skeleton → Type 0 where
  clear : {S S' : Skeleton} {r : ℕ} → blocking S.rows r ≡ None → S' ≡ split_patch S r → Run S r S'
  blocked : {S T S' : Skeleton} {r b : ℕ} → blocking S.rows r ≡ Some b → Run S b T → Run T r S' → Run S r S'

-- the marks in list order: a row already split is passed over (01, "Closure")
pub data RunAll : Skeleton → List ℕ → Skeleton → Type 0 where
  done : {S S' : Skeleton} → S' ≡ S → RunAll S [] S'
  passed : {S S' : Skeleton} {r : ℕ} {rs : List ℕ} → ((row_in S.rows r).child ≡ 0 → ⊥) → RunAll S rs S' → RunAll S (r ∷ rs) S'
  refined : {S T S' : Skeleton} {r : ℕ} {rs : List ℕ} → (row_in S.rows r).child ≡ 0 → Run S r T → RunAll T rs S' → RunAll S (r ∷ rs) S'

-- one call after the other, each given by its marks (01, "Small meshes worked out")
pub data Calls : Skeleton → List (List ℕ) → Skeleton → Type 0 where
  ended : {S S' : Skeleton} → S' ≡ S → Calls S [] S'
  called : {S T S' : Skeleton} {rs : List ℕ} {calls : List (List ℕ)} → RunAll S rs T → Calls T calls S' → Calls S (rs ∷ calls) S'

-- ---- room

pub record Within (room : Size) (S : Skeleton) : Type 0 where
  pub vertices : length S.records ≤ room.vertices
  pub rows : length S.rows ≤ room.rows

pub data Over (room : Size) (S : Skeleton) : Type 0 where
  vertices : room.vertices < length S.records → Over room S
  rows : room.rows < length S.rows → Over room S

-- refining leaf r comes to a patch whose split has no room
pub data Stuck (room : Size) : Skeleton → ℕ → Type 0 where
  full : {S : Skeleton} {r : ℕ} → blocking S.rows r ≡ None → Over room (split_patch S r) → Stuck room S r
  below : {S : Skeleton} {r b : ℕ} → blocking S.rows r ≡ Some b → Stuck room S b → Stuck room S r
  after : {S T : Skeleton} {r b : ℕ} → blocking S.rows r ≡ Some b → Run S b T → Within room T → Stuck room T r → Stuck room S r

pub data StuckAll (room : Size) : Skeleton → List ℕ → Type 0 where
  here : {S : Skeleton} {r : ℕ} {rs : List ℕ} → (row_in S.rows r).child ≡ 0 → Stuck room S r → StuckAll room S (r ∷ rs)
  passed : {S : Skeleton} {r : ℕ} {rs : List ℕ} → ((row_in S.rows r).child ≡ 0 → ⊥) → StuckAll room S rs → StuckAll room S (r ∷ rs)
  refined : {S T : Skeleton} {r : ℕ} {rs : List ℕ} → (row_in S.rows r).child ≡ 0 → Run S r T → Within room T → StuckAll room T rs → StuckAll room S (r ∷ rs)
