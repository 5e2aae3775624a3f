-- The promise of listing the leaves (01, "What comes back"): the tests 9 and 2 in that order, or the rows and their levels.
use Rattle.std.specs.Prelude.{◌≡◌, List, map, ◌⊎◌, ℕ, ◌<◌, length, Result, Ok, Err}
use Rattle.split.specs.declared.row.Row.{Row}
use Rattle.tables.specs.declared.layout.Counts.{Counts}
use Rattle.tables.specs.Mesh.{Lent, mesh_of, padded}
use Rattle.tables.specs.declared.refusal.Cause.{Cause}
use Rattle.tables.specs.declared.refusal.Cause.TheVariants.{Room, Unsound}
use Rattle.tables.specs.declared.refusal.Refusal.{Refusal}
use Rattle.tables.specs.Refusal.{number_of, refused}
use Rattle.tables.specs.Report.{Tally, unlisted, listed}
use Rattle.sound.specs.Sound.{Sound}
use Rattle.leaves.specs.Listing.{level_in, listing}

-- the numbers that each case of the answer stands for (01, "What comes back")
abbrev pub reported : Result ℕ Refusal → Tally
reported (Ok leaves) = listed leaves
reported (Err e) = unlisted (number_of e.cause) e.place

-- refused for this cause, with both lists as at entry
pub record Refuses (list levels : List ℕ) (cause : Cause) (r : Result ℕ Refusal) (list' levels' : List ℕ) : Type 0 where
  pub answers : r ≡ refused cause 0
  pub reports : reported r ≡ unlisted (number_of cause) 0
  pub list_same : list' ≡ list
  pub levels_same : levels' ≡ levels

-- accepted: the rows in the one list and the levels in the other, zeros after them; the answer is the number of leaves
pub record Accepts (W : List Row) (list levels : List ℕ) (r : Result ℕ Refusal) (list' levels' : List ℕ) : Type 0 where
  pub answers : r ≡ Ok (length (listing W))
  pub reports : reported r ≡ listed (length (listing W))
  pub list_is : list' ≡ padded (length list) 0 (listing W)
  pub levels_is : levels' ≡ padded (length levels) 0 (map (level_in W) (listing W))

-- either list is shorter than the number of leaves
abbrev pub Short : List Row → List ℕ → List ℕ → Type 0
Short W list levels = (length list < length (listing W)) ⊎ (length levels < length (listing W))

-- number 2
pub data OnRoom (W : List Row) (list levels : List ℕ) (r : Result ℕ Refusal) (list' levels' : List ℕ) : Type 0 where
  short : Short W list levels → Refuses list levels Room r list' levels' → OnRoom W list levels r list' levels'
  fits : (Short W list levels → ⊥) → Accepts W list levels r list' levels' → OnRoom W list levels r list' levels'

-- The promise of listing the leaves of the tables t with counts c: the answer r, and the two lists afterwards. Number 9 comes first.
pub data Lists (t : Lent) (c : Counts) (list levels : List ℕ) (r : Result ℕ Refusal) (list' levels' : List ℕ) : Type 0 where
  unsound : (Sound t c → ⊥) → Refuses list levels Unsound r list' levels' → Lists t c list levels r list' levels'
  sound : Sound t c → OnRoom (mesh_of t c).rows list levels r list' levels' → Lists t c list levels r list' levels'
