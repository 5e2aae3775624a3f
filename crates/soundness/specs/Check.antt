-- What the parts of the check decide beside the shape: clauses 3, 6 and 7. Callers are promised nothing of it but `SoundIn`, by `check_in`.
use Rattle.std.specs.Prelude.{◌≡◌, Bool, true, List, [], ℕ, ◌+◌, ◌-◌, ◌*◌, ◌%◌, ◌≤◌, ◌<◌, min, max, length, get_or, Float}
use Rattle.split.specs.Split.{Holds}
use Rattle.split.specs.Row.{corners_of}
use Rattle.split.specs.Midpoint.{between}
use Rattle.chain.specs.Chain.{Indexed}
use Rattle.tables.specs.declared.layout.Counts.{Counts}
use Rattle.tables.specs.Mesh.{Lent, mesh_of, Unused}
use Rattle.tables.specs.Layout.{point_at, record_at, row_at, most_rows, most_vertices}
use Rattle.sound.specs.Sound.{Afresh, Fitting, Sound}
use Rattle.sound.specs.Check.{Decides, lent, bare}
use Rattle.shape.specs.Shape.{Children, Parents, middle_at}
use Rattle.soundness.specs.declared.heads.Heads.{Heads}
use Rattle.soundness.specs.declared.heads.Heads.TheVariants.{Few, Many}

-- the parents of v are smaller than it and in order, and its coordinates follow the rule
pub record Ruled (p : List Float) (r : List ℕ) (v : ℕ) : Type 0 where
  pub rising : (record_at r v).first < (record_at r v).second
  pub older : (record_at r v).second < v
  pub point : point_at p v ≡ between (point_at p (record_at r v).first) (point_at p (record_at r v).second)

-- vertices from i on, below n, for which the index has room
pub record Run (i n : ℕ) : Type 0 where
  pub order : i ≤ n
  pub few : n ≤ most_vertices

-- the keys of the index in small memory, or in more; its links come after as many heads
abbrev pub heads : Heads → ℕ
heads Few = 16382
heads Many = 80000

-- the key of a pair: a remainder by a prime, so that pairs with the same smaller vertex, or the same larger one, seldom have the same key, and never where the prime is above every vertex
unfoldable pub key_of : Heads → ℕ → ℕ → ℕ
key_of h a b = (a * 7919 + b) % (heads h - 1)

-- the key at place s of the index, that of vertex i + s
abbrev pub pair_at : Heads → List ℕ → ℕ → ℕ → ℕ
pair_at h r i s = key_of h (record_at r (i + s)).first (record_at r (i + s)).second

-- the parents of v are a and b
pub record Has (r : List ℕ) (v a b : ℕ) : Type 0 where
  pub first : (record_at r v).first ≡ a
  pub second : (record_at r v).second ≡ b

-- a and b are the parents of no vertex from i on, below n
pub record Untaken (r : List ℕ) (i n a b : ℕ) : Type 0 where
  pub none : (u : ℕ) → i ≤ u → u < n → Has r u a b → ⊥

-- no vertex from i on, before v, has the parents of v
abbrev pub Single : List ℕ → ℕ → ℕ → Type 0
Single r i v = Untaken r i v (record_at r v).first (record_at r v).second

abbrev pub AllSingle : List ℕ → ℕ → ℕ → Type 0
AllSingle r i n = (v : ℕ) → i ≤ v → v < n → Single r i v

-- a scratch table with room for an index of 20,000 places, and no head set
pub record Fresh (h : Heads) (scratch : List ℕ) : Type 0 where
  pub size : heads h + most_vertices ≤ length scratch
  pub clear : (v : ℕ) → v < heads h → get_or scratch v 0 ≡ 0

-- the answer b: no pair stands twice, and then all are in the index
pub record Entered (h : Heads) (r : List ℕ) (i n : ℕ) (b : Bool) (scratch : List ℕ) : Type 0 where
  pub decides : Decides (AllSingle r i n) b
  pub index : b ≡ true → Indexed (pair_at h r i) (n - i) (heads h) scratch

-- the parents of each midpoint stand in order
pub record Rising (r : List ℕ) (i n : ℕ) : Type 0 where
  pub rises : (v : ℕ) → i ≤ v → v < n → (record_at r v).first < (record_at r v).second

-- row q, if it is a leaf, holds both parents of no midpoint from i on, below n
pub record Whole (r w : List ℕ) (i n q : ℕ) : Type 0 where
  pub leaf : (row_at w q).child ≡ 0 → (v : ℕ) → i ≤ v → v < n → Holds 3 (corners_of (row_at w q)) (record_at r v).first → Holds 3 (corners_of (row_at w q)) (record_at r v).second → ⊥

abbrev pub AllWhole : List ℕ → List ℕ → ℕ → ℕ → ℕ → Type 0
AllWhole r w i n count = (q : ℕ) → q < count → Whole r w i n q

-- clauses 1 to 6 and 8, with i and t where the leading runs end
pub record Clauses (p : List Float) (r w : List ℕ) (c : Counts) (i t : ℕ) : Type 0 where
  pub fitting : Fitting (lent p r w) c
  pub unused : Unused (lent p r w) c
  pub midpoints : (v : ℕ) → i ≤ v → v < c.vertices → (record_at r v).second ≡ 4294967295 → ⊥
  pub later : (k : ℕ) → t ≤ k → k < c.rows → (row_at w k).parent ≡ k → ⊥
  pub afresh : Afresh (mesh_of (lent p r w) c) i t
  pub children : Children (bare r w c) i t
  pub parents : Parents (bare [] w c) t
  pub ruled : (v : ℕ) → i ≤ v → v < c.vertices → Ruled p r v
  pub single : AllSingle r i c.vertices
  pub used : (v : ℕ) → i ≤ v → v < c.vertices → (k : ℕ) × (t ≤ k) × (k < c.rows) × (middle_at w k ≡ v)

-- of clause 6: the parents of each midpoint are smaller than it and in order, and its coordinates follow the rule
abbrev pub AllRuled : List Float → List ℕ → Counts → ℕ → Type 0
AllRuled p r c i = (v : ℕ) → i ≤ v → v < c.vertices → Ruled p r v

-- what the index of pairs decides: the rest of clause 6, and clause 7
pub record Pairs (r w : List ℕ) (c : Counts) (i : ℕ) : Type 0 where
  pub single : AllSingle r i c.vertices
  pub whole : AllWhole r w i c.vertices c.rows

-- clauses 6 and 7, but for what the shape has
pub record Rest (p : List Float) (r w : List ℕ) (c : Counts) (i : ℕ) : Type 0 where
  pub ruled : AllRuled p r c i
  pub pairs : Pairs r w c i

-- ---- lent memory

-- how many numbers are enough for the check of so many rows: the index of pairs of a small mesh has 16,382 heads, and 20,000 links, that of opening a head for each vertex and four links for each root
abbrev pub memory_for : ℕ → ℕ
memory_for rows = max 36382 (most_vertices + 4 * min most_rows rows)

-- so many numbers are enough, and the tables are sound
pub record SoundIn (memory : ℕ) (t : Lent) (c : Counts) : Type 0 where
  pub enough : memory_for c.rows ≤ memory
  pub sound : Sound t c
