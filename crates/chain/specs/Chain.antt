-- The previous-occurrence index over a sequence of keys: `key i` is the key at place i.
use Rattle.std.specs.Prelude.{◌≡◌, Bool, ◌&&◌, cond, List, ℕ, zero, suc, ◌+◌, ◌≤◌, ◌<◌, eqb, ltb, length, get_or, set}

-- one more than the last place below n that has the key v, or 0 where there is none
unfoldable pub latest : (ℕ → ℕ) → ℕ → ℕ → ℕ
latest key v zero = 0
latest key v (suc i) = cond (eqb (key i) v) (suc i) (latest key v i)

-- a table that indexes the first n places: heads below `base`, links from there on
pub record Indexed (key : ℕ → ℕ) (n base : ℕ) (index : List ℕ) : Type 0 where
  pub room : base + n ≤ length index
  pub heads : (v : ℕ) → v < base → get_or index v 0 ≡ latest key v n
  pub links : (i : ℕ) → i < n → get_or index (base + i) 0 ≡ latest key (key i) i

-- there is a head for the key and a link for place i, and one more than i is a u32
abbrev pub fits : List ℕ → ℕ → ℕ → ℕ → Bool
fits index base i key = ltb key base && ltb (base + i) (length index) && ltb i 4294967295

-- place i with its key appended: its link is the old head, and it is the new head
unfoldable pub pushed : List ℕ → ℕ → ℕ → ℕ → List ℕ
pushed index base i key = cond (fits index base i key) (set (set index (base + i) (get_or index key 0)) key (i + 1)) index
