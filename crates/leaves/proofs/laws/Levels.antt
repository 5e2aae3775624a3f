-- The levels that are listed (02, L1): each is that of document 000, 0 for roots only, and at most 20.
use mathlib.Core.Path.{◌≡◌, refl, sym, ◌∙◌}
use mathlib.Core.List.{List, [], ◌∷◌, map}
use mathlib.Core.Logic.{◌↔◌, inl, inr}
use Prim.Native.Nat.{ℕ, zero, suc, ◌-◌, ◌*◌, ◌≤◌, ◌<◌}
use native.Mathlib.Omega.{arith}
use lib.ListN.{length, get_or, replicate, length-map, get_or-append}
use Rattle.split.specs.declared.row.Row.{Row}
use Rattle.split.proofs.laws.Places.{le_or_lt}
use Rattle.tables.specs.declared.layout.Counts.{Counts}
use Rattle.tables.specs.Mesh.{Lent, Mesh, mesh_of, padded}
use Rattle.sound.specs.Sound.{rows, row_of, Sound}
use Rattle.sound.proofs.laws.Afresh.{root_depth}
use Rattle.sound.proofs.laws.Placed.{placed, row_fits}
use Rattle.closure.proofs.laws.Cutting.{member_at}
use Rattle.std.proofs.Common.{Ok}
use Rattle.leaves.specs.Level.{LevelAt}
use Rattle.leaves.specs.Listing.{level_in, listing}
use Rattle.leaves.specs.Lists.{Accepts, Lists, unsound, sound, short, fits}
use Rattle.leaves.proofs.laws.Promise.{done_same, done_never}
use Rattle.leaves.proofs.laws.Rounding.{rounded_up, fits_level}
use Rattle.leaves.proofs.laws.Sound.{sound_listing}
use Rattle.leaves.proofs.laws.Tree.{below_parent}

-- ---- of a row of sound tables

module _ {t : Lent} {c : Counts} (s : Sound t c) (k : ℕ) (l : k < rows (mesh_of t c)) where
  abbrev m : Mesh
  m = mesh_of t c

  abbrev level : ℕ
  level = level_in m.rows k

  -- it is the level of the row's element
  pub row_level : LevelAt m s.initials s.roots k level
  row_level = fits_level (row_fits s.grown k l)

  -- rounded up: at most n exactly if the depth is at most 3 n
  pub row_rounded : (n : ℕ) → (level ≤ n) ↔ ((row_of m k).depth ≤ 3 * n)
  row_rounded = rounded_up (omega arith) (row_of m k).depth

  pub row_most : level ≤ 20
  row_most = (row_rounded 20).1 (omega (arith, (placed s.grown k l).shallow))

  -- no split element is in the band of the roots
  pub row_band : (level ≡ 0) ↔ ((row_of m k).parent ≡ k)
  row_band = elim (le_or_lt s.roots k) [
    | inl a ↦ (λ e. absurd (omega (arith, below_parent s.grown k a l, (row_rounded 0).0 (omega arith))), λ e. absurd (s.grown.parted.children k a l e))
    | inr a ↦ (λ e. s.grown.parted.roots k a, λ e. omega (arith, (row_rounded 0).1 (omega (arith, root_depth s.grown k a))))
  ]

-- ---- of the call

pub map_at : (f : ℕ → ℕ) (l : List ℕ) (j : ℕ) → j < length l → get_or (map f l) j 0 ≡ f (get_or l j 0)
map_at f [] j h = absurd (omega arith)
map_at f (x ∷ l) zero h = refl
map_at f (x ∷ l) (suc j) h = map_at f l j (omega arith)

pub padded_at : (n : ℕ) (l : List ℕ) (j : ℕ) → j < length l → get_or (padded n 0 l) j 0 ≡ get_or l j 0
padded_at n l j h = get_or-append l (replicate (n - length l) 0) 0 j h

module _ {t : Lent} {c : Counts} (s : Sound t c) {list levels : List ℕ} {n : ℕ} {list' levels' : List ℕ} (x : Lists t c list levels (Ok n) list' levels') where
  abbrev W : List Row
  W = (mesh_of t c).rows

  answered : Accepts W list levels (Ok n) list' levels'
  answered = go x
    where
      go : Lists t c list levels (Ok n) list' levels' → Accepts W list levels (Ok n) list' levels'
      go (unsound f y) = done_never (sym y.answers)
      go (sound s' (short h y)) = done_never (sym y.answers)
      go (sound s' (fits h y)) = y

  module _ (j : ℕ) (h : j < n) where
    -- the j-th listed row, and the level beside it
    abbrev row : ℕ
    row = get_or list' j 0

    abbrev beside : ℕ
    beside = get_or levels' j 0

    inside : j < length (listing W)
    inside = omega (arith, h, done_same answered.answers)

    row_is : row ≡ get_or (listing W) j 0
    row_is = rw answered.list_is (padded_at (length list) (listing W) j inside)

    beside_is : beside ≡ level_in W row
    beside_is = rw (answered.levels_is, row_is) (padded_at (length levels) (map (level_in W) (listing W)) j (omega (arith, inside, length-map (listing W) (level_in W))) ∙ map_at (level_in W) (listing W) j inside)

    there : row < rows (mesh_of t c)
    there = rw row_is (((sound_listing s).are (get_or (listing W) j 0)).0 (member_at (listing W) j inside)).0

    -- it is the level of the row's element in document 000
    pub listed_level : LevelAt (mesh_of t c) s.initials s.roots row beside
    listed_level = rw beside_is (row_level s row there)

    -- 0 for roots only
    pub listed_band : (beside ≡ 0) ↔ ((row_of (mesh_of t c) row).parent ≡ row)
    listed_band = rw beside_is (row_band s row there)

    -- and at most 20
    pub listed_most : beside ≤ 20
    listed_most = rw beside_is (row_most s row there)
