-- The second engine (02, L10; 003, section 5): the marked leaves are split in list order; then, while some leaf holds both parents of a midpoint, the lowest such row is split. On records and rows.
use Rattle.std.specs.Prelude.{◌≡◌, Bool, true, false, not, ◌&&◌, List, [], ◌∷◌, ◌++◌, ℕ, eqb, length, get_or, None, Option, Some}
use Rattle.split.specs.declared.row.Row.{Row}
use Rattle.split.specs.declared.row.Ends.{Ends}
use Rattle.split.specs.Row.{pair, edge_of}
use Rattle.tables.specs.declared.layout.Size.{Size}
use Rattle.tables.specs.declared.record.Record.{Record}
use Rattle.tables.specs.Layout.{no_record}
use Rattle.intake.specs.Search.{first, any}
use Rattle.run.specs.Skeleton.{Skeleton, row_in}
use Rattle.run.specs.Run.{has, same_ends, cut, record_for, Within, Over}

-- ---- which leaf comes next

abbrev record_in : List Record → ℕ → Record
record_in R v = get_or R v no_record

-- v is a midpoint: an initial vertex has 4294967295 for its second parent (01, "The tables")
abbrev pub midpoint_in : List Record → ℕ → Bool
midpoint_in R v = not (eqb (record_in R v).second 4294967295)

-- v is a midpoint, and the row holds both its parents (02, L10)
unfoldable pub parents_in : List Record → Row → ℕ → Bool
parents_in R r v = midpoint_in R v && (has r (record_in R v).first && has r (record_in R v).second)

-- row r is a leaf that holds both parents of a midpoint (02, L10)
unfoldable pub ripe : Skeleton → ℕ → Bool
ripe S r = eqb (row_in S.rows r).child 0 && any (parents_in S.records (row_in S.rows r)) (length S.records)

-- the lowest such row (02, L10)
abbrev pub lowest : Skeleton → Option ℕ
lowest S = first (ripe S) (length S.rows)

-- ---- one leaf split

-- v is the midpoint of the edge e
unfoldable pub halves : List Record → Ends → ℕ → Bool
halves R e v = midpoint_in R v && same_ends (pair (record_in R v).first (record_in R v).second) e

-- leaf s split at the vertex found, or else at a new one
abbrev pub split_at : Skeleton → ℕ → Option ℕ → Skeleton
split_at S s (Some v) = record { records = S.records; rows = cut v S.rows s }
split_at S s None = record { records = S.records ++ (record_for (edge_of (row_in S.rows s)) ∷ []); rows = cut (length S.records) S.rows s }

-- leaf s alone is split, at the midpoint of its edge, which is appended if it is not there yet (02, L10)
unfoldable pub split_one : Skeleton → ℕ → Skeleton
split_one S s = split_at S s (first (halves S.records (edge_of (row_in S.rows s))) (length S.records))

-- ---- the call

-- the marked leaves in list order; a row already split is passed over (02, L10; 01, "Closure")
unfoldable pub split_marks : Skeleton → List ℕ → Skeleton
split_marks S [] = S
split_marks S (r ∷ rs) = elim (eqb (row_in S.rows r).child 0) [ true ↦ split_marks (split_one S r) rs | false ↦ split_marks S rs ]

-- while there is such a row the lowest is split, until none is left (02, L10)
pub data Completes : Skeleton → Skeleton → Type 0 where
  complete : {S S' : Skeleton} → lowest S ≡ None → S' ≡ S → Completes S S'
  onward : {S S' : Skeleton} {q : ℕ} → lowest S ≡ Some q → Completes (split_one S q) S' → Completes S S'

-- the marks, then the loop
pub record Completed (S : Skeleton) (marks : List ℕ) (S' : Skeleton) : Type 0 where
  pub loop : Completes (split_marks S marks) S'

-- ---- room

-- the loop comes to a split that has no room
pub data StuckLoop (room : Size) : Skeleton → Type 0 where
  full : {S : Skeleton} {q : ℕ} → lowest S ≡ Some q → Over room (split_one S q) → StuckLoop room S
  onward : {S : Skeleton} {q : ℕ} → lowest S ≡ Some q → Within room (split_one S q) → StuckLoop room (split_one S q) → StuckLoop room S

-- the marks, or the loop after them, come to a split that has no room
pub data Stuck (room : Size) : Skeleton → List ℕ → Type 0 where
  loop : {S : Skeleton} → StuckLoop room S → Stuck room S []
  passed : {S : Skeleton} {r : ℕ} {rs : List ℕ} → ((row_in S.rows r).child ≡ 0 → ⊥) → Stuck room S rs → Stuck room S (r ∷ rs)
  full : {S : Skeleton} {r : ℕ} {rs : List ℕ} → (row_in S.rows r).child ≡ 0 → Over room (split_one S r) → Stuck room S (r ∷ rs)
  split : {S : Skeleton} {r : ℕ} {rs : List ℕ} → (row_in S.rows r).child ≡ 0 → Within room (split_one S r) → Stuck room (split_one S r) rs → Stuck room S (r ∷ rs)
