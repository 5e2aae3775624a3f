-- The level of a row in the sense of document 000, equation (10): the largest level of its element's vertices. Crate forest counts levels from one higher, so that none is negative.
use Rattle.std.specs.Prelude.{ℕ, suc}
use Rattle.tables.specs.Mesh.{Mesh}
use Rattle.forest.specs.Element.{dimension, shape}
use Rattle.forest.specs.Level.{LevelOf}
use Rattle.sound.specs.Forest.{forest_of, colour_in, largest_in, element_of}

-- l is the level of row k's element, where i vertices are initial and t rows are roots
abbrev pub LevelAt : (m : Mesh) (i t k l : ℕ) → Type 0
LevelAt m i t k l = LevelOf (largest_in m i) (colour_in m i) (dimension (forest_of m t)) (shape (forest_of m t) (element_of m t k)) (suc l)
