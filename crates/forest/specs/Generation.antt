-- Level and type of a vertex and of an edge (000, equation (8), section 3.3 and Algorithm 4). An edge's level and type are those of its midpoint.
use Rattle.std.specs.Prelude.{cond, eqb}
use Prim.Native.Nat.{ℕ, suc, ◌+◌, ◌-◌, ◌*◌, min, max, compare, Ordering}
use Rattle.forest.specs.Element.{Name, init, mid, Shape, near, away}

pub record Gen : Type 0 where
  pub level : ℕ
  pub type : ℕ

-- generations in order: types are below 64 (000, equation (8), with 64 in the place of N)
abbrev pub rank : Gen → ℕ
rank g = 64 * g.level + g.type

-- an initial vertex of colour c: gen = -c (000, section 3.3)
unfoldable pub start : ℕ → ℕ → Gen
start N c = cond (eqb c N) (record { level = 0; type = N }) (record { level = 1; type = N - c })

-- the midpoint of an edge whose ends have generations a and b (000, Algorithm 4)
abbrev pub joined : ℕ → Ordering → Gen → Gen → Gen
joined N Ordering.lt a b = record { level = suc b.level; type = b.type }
joined N Ordering.eq a b = record { level = suc a.level; type = N + 1 - (max a.type b.type - min a.type b.type) }
joined N Ordering.gt a b = record { level = suc a.level; type = a.type }

unfoldable pub join : ℕ → Gen → Gen → Gen
join N a b = joined N (compare a.level b.level) a b

-- a vertex's generation is a function of its name, so all splits of one edge agree on it (000, Lemma 15)
unfoldable pub gen : ℕ → (ℕ → ℕ) → Name → Gen
gen N colour (init v) = start N (colour v)
gen N colour (mid a b) = join N (gen N colour a) (gen N colour b)

-- the generation of an element's refinement edge (000, gen♯)
abbrev pub edge_gen : ℕ → (ℕ → ℕ) → Shape → Gen
edge_gen N colour x = join N (gen N colour (near x)) (gen N colour (away x))
