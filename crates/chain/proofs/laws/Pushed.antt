-- What `pushed` does by its guard: the two stores where place i fits, and nothing where it does not.
use mathlib.Core.Path.{◌≡◌, refl}
use mathlib.Core.Logic.{◌≢◌}
use mathlib.Core.Bool.{Bool, true, false, ◌&&◌, cond}
use mathlib.Core.List.{List}
use Prim.Native.Nat.{ℕ, ◌+◌, ◌≤◌, ◌<◌}
use native.Mathlib.Decide.{dec_lt}
use native.Mathlib.Omega.{arith}
use borrow.Author.Tests.{lt-ltb, le-ltb}
use lib.ListN.{length, get_or, set, length-set}
use lib.Seq.{get_or-set_same, get_or-set_other}
use Rattle.chain.specs.Chain.{fits, pushed}

and_false : (b : Bool) → b && false ≡ false
and_false true = refl
and_false false = refl

-- the guard fails: the table is as it was
pub pushed_keyless : (index : List ℕ) (base i key : ℕ) → base ≤ key → pushed index base i key ≡ index
unfolding pushed
pushed_keyless index base i key h = rw (le-ltb key base h)

pub pushed_roomless : (index : List ℕ) (base i key : ℕ) → length index ≤ base + i → pushed index base i key ≡ index
unfolding pushed
pushed_roomless index base i key h = rw (le-ltb (base + i) (length index) h, and_false)

pub pushed_late : (index : List ℕ) (base i key : ℕ) → 4294967295 ≤ i → pushed index base i key ≡ index
unfolding pushed
pushed_late index base i key h = rw (le-ltb i 4294967295 h, and_false)

-- the guard holds: the link first, then the head
pub pushed_stored : (index : List ℕ) (base i key : ℕ) → key < base → base + i < length index → i < 4294967295 → pushed index base i key ≡ set (set index (base + i) (get_or index key 0)) key (i + 1)
unfolding pushed
pushed_stored index base i key k r m = rw (lt-ltb key base k, lt-ltb (base + i) (length index) r, lt-ltb i 4294967295 m)

module _ (index : List ℕ) (base i key : ℕ) where
  pub pushed_length : length (pushed index base i key) ≡ length index
  unfolding pushed
  pushed_length = go (fits index base i key)
    where
      go : (b : Bool) → length (cond b (set (set index (base + i) (get_or index key 0)) key (i + 1)) index) ≡ length index
      go true = rw (length-set, length-set)
      go false = refl

  -- no other number changes
  pub pushed_other : (j : ℕ) → j ≢ key → j ≢ base + i → get_or (pushed index base i key) j 0 ≡ get_or index j 0
  unfolding pushed
  pushed_other j k l = go (fits index base i key)
    where
      go : (b : Bool) → get_or (cond b (set (set index (base + i) (get_or index key 0)) key (i + 1)) index) j 0 ≡ get_or index j 0
      go true = rw (get_or-set_other, get_or-set_other)
      go false = refl

  -- so other numbers can lie behind the links
  pub pushed_beyond : (j : ℕ) → base + i < j → get_or (pushed index base i key) j 0 ≡ get_or index j 0
  pushed_beyond j h = go (dec_lt key base)
    where
      go : Dec (key < base) → get_or (pushed index base i key) j 0 ≡ get_or index j 0
      go (yes k) = pushed_other j (omega arith) (omega arith)
      go (no k) = rw (pushed_keyless index base i key (omega arith))

  module _ (k : key < base) (r : base + i < length index) (m : i < 4294967295) where
    pub pushed_head : get_or (pushed index base i key) key 0 ≡ i + 1
    pushed_head = rw (pushed_stored index base i key k r m) (get_or-set_same (set index (base + i) (get_or index key 0)) key (i + 1) 0 (rw length-set (omega arith)))

    pub pushed_link : get_or (pushed index base i key) (base + i) 0 ≡ get_or index key 0
    pushed_link =
        let d : base + i ≢ key = omega arith in
        rw (pushed_stored index base i key k r m, get_or-set_other) (get_or-set_same index (base + i) (get_or index key 0) 0 r)
