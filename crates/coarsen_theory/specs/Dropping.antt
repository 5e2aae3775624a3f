-- Which vertices a coarsening drops (02, L5): each vertex of a list in turn, judged on the mesh as those before it left it.
use Rattle.std.specs.Prelude.{Bool, false, not, ◌&&◌, cond, ◌||◌, List, [], ◌∷◌, ℕ, ◌+◌, eqb, leb}
use Rattle.tables.specs.Mesh.{Mesh}
use Rattle.intake.specs.Search.{any}
use Rattle.sound.specs.Sound.{rows, row_of}
use Rattle.sound.specs.Follows.{split_vertex}

-- row r has no children once the vertices that are gone are dropped
unfoldable pub leaf_now : Mesh → (ℕ → Bool) → ℕ → Bool
leaf_now m gone r = eqb (row_of m r).child 0 || gone (split_vertex m r)

-- row r is split at v, and one of its children still is split
unfoldable pub blocks : Mesh → (ℕ → Bool) → ℕ → ℕ → Bool
blocks m gone v r = not (eqb (row_of m r).child 0) && (eqb (split_vertex m r) v && not (leaf_now m gone (row_of m r).child && leaf_now m gone ((row_of m r).child + 1)))

-- v is a midpoint that is not gone yet, and every row split at it has two leaf children (02, L5)
unfoldable pub droppable : Mesh → ℕ → (ℕ → Bool) → ℕ → Bool
droppable m i gone v = leb i v && (not (gone v) && not (any (blocks m gone v) (rows m)))

-- what is gone after v was tried: v too, if it may be dropped
unfoldable pub drop_one : Mesh → ℕ → (ℕ → Bool) → ℕ → ℕ → Bool
drop_one m i gone v u = gone u || (droppable m i gone v && eqb u v)

-- what is gone after a list was tried in turn
unfoldable pub drop_all : Mesh → ℕ → (ℕ → Bool) → List ℕ → ℕ → Bool
drop_all m i gone [] = gone
drop_all m i gone (v ∷ vs) = drop_all m i (drop_one m i gone v) vs

-- how many of the list were passed over (02, L5)
unfoldable pub passed_over : Mesh → ℕ → (ℕ → Bool) → List ℕ → ℕ
passed_over m i gone [] = 0
passed_over m i gone (v ∷ vs) = cond (droppable m i gone v) 0 1 + passed_over m i (drop_one m i gone v) vs

-- nothing is gone at first
abbrev pub none : ℕ → Bool
none v = false

-- what the list drops
abbrev pub gone_by : Mesh → ℕ → List ℕ → ℕ → Bool
gone_by m i vs = drop_all m i none vs
