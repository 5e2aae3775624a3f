-- A slot entered. The counts of uses are the last numbers of the scratch table: the index and the patch lie before them.
use mathlib.Core.Path.{◌≡◌, sym, ap, ◌∙◌}
use mathlib.Core.List.{List}
use mathlib.Core.Logic.{◌⊎◌, inl, inr}
use Prim.Native.Nat.{ℕ, ◌+◌, ◌-◌, ◌*◌, ◌≤◌, ◌<◌, min}
use native.Mathlib.Omega.{arith}
use borrow.Author.Tests.{lt-ltb, le-ltb}
use lib.ListN.{length, get_or, set, length-set}
use lib.Seq.{get_or-set_other, set_out}
use borrow.Author.Rules.{rules}
use Rattle.split.specs.declared.row.Row.{Row}
use Rattle.split.specs.Split.{at}
use Rattle.split.proofs.laws.Places.{le_or_lt}
use Rattle.split.specs.Row.{corners_of}
use Rattle.chain.specs.Chain.{Indexed, pushed}
use Rattle.chain.proofs.laws.Pushed.{pushed_length, pushed_beyond, pushed_keyless, pushed_stored}
use Rattle.chain.proofs.laws.Index.{indexed_push_one}
use Rattle.opening.proofs.laws.Indexing.{indexed_kept}
use Rattle.tables.specs.Layout.{most_rows}
use Rattle.closure.specs.State.{links_at, bumped, counted, entered, row_pushed}

-- ---- one use more

-- a sum that stops at the largest number
bump_is : (u : ℕ) {x : ℕ} → u < 4294967296 → x ≡ min (u + 1) 4294967295 → x ≡ bumped u
bump_is u {x} h e = go (le_or_lt 4294967295 u)
  where
    go : (4294967295 ≤ u) ⊎ (u < 4294967295) → x ≡ bumped u
    go (inl a) = rw (le-ltb u 4294967295 a) (omega (arith, e, h, a))
    go (inr a) = rw (lt-ltb u 4294967295 a) (omega (arith, e, a))

module _ (s : List ℕ) (v : ℕ) where
  counted_length : length (counted s v) ≡ length s
  unfolding counted
  counted_length = length-set s (length s - links_at + v) _

  -- a place of the index or of the patch
  counted_other : (j : ℕ) → links_at + j < length s → get_or (counted s v) j 0 ≡ get_or s j 0
  unfolding counted
  counted_other j h = get_or-set_other s (length s - links_at + v) j _ 0 (λ q. omega arith)

-- ---- one slot more

module _ (s : List ℕ) (i v : ℕ) where
  pub entered_length : length (entered s i v) ≡ length s
  unfolding entered
  entered_length = counted_length (pushed s links_at i v) v ∙ pushed_length s links_at i v

  -- the patch stays
  pub entered_between : (j : ℕ) → links_at + i < j → links_at + j < length s → get_or (entered s i v) j 0 ≡ get_or s j 0
  unfolding entered
  entered_between j l h = counted_other (pushed s links_at i v) v j (rw (pushed_length s links_at i v) h) ∙ pushed_beyond s links_at i v j l

-- a slot with the key v is in the index then
pub entered_indexed : {key : ℕ → ℕ} {i v : ℕ} {s : List ℕ} → Indexed key i links_at s → key i ≡ v → v < links_at → 2 * links_at + i < length s → i < 4 * most_rows → Indexed key (i + 1) links_at (entered s i v)
unfolding entered
entered_indexed {key} {i} {v} {s} x e k r m =
    indexed_kept (counted_length (pushed s links_at i v) v) (λ (j : ℕ) (h : j < links_at + (i + 1)). counted_other (pushed s links_at i v) v j (rw (pushed_length s links_at i v) (omega (arith, h, r))))
    (rw e at (indexed_push_one x (rw e k) (omega arith) (omega arith)))

-- ---- what the code does

pub link_stored : (s : List ℕ) (i k : ℕ) → k < links_at → i < 4 * most_rows → links_at + i < length s → set (set s (links_at + i) (get_or s k 0)) k (i + 1) ≡ pushed s links_at i k
link_stored s i k h m r = sym (pushed_stored s links_at i k h r (omega arith))

pub count_one : (s : List ℕ) (k : ℕ) {u : ℕ} → get_or s (length s - links_at + k) 0 < 4294967296 → u ≡ min (get_or s (length s - links_at + k) 0 + 1) 4294967295 → set s (length s - links_at + k) u ≡ counted s k
unfolding counted
count_one s k h e = rw (bump_is (get_or s (length s - links_at + k) 0) h e)

module _ (s : List ℕ) (i : ℕ) {v k : ℕ} (e : k ≡ v) (r : 2 * links_at + i < length s) where
  pub enter_none : links_at ≤ k → s ≡ entered s i v
  unfolding entered counted
  enter_none h = rw (pushed_keyless s links_at i v (rw e at h)) (sym (set_out s (length s - links_at + v) _ (omega (arith, e, h))))

pub enter_one : (s : List ℕ) (i : ℕ) {v k : ℕ} {a b : List ℕ} → k ≡ v → a ≡ pushed s links_at i k → b ≡ counted a k → b ≡ entered s i v
unfolding entered
enter_one s i e p q = q ∙ rw (p, e)

pub ruleset entering = (enter_none, enter_one, rules)

-- ---- a row

pub row_pushed_lem : (s : List ℕ) (n : ℕ) (r : Row) {a b c d : List ℕ} → a ≡ entered s (4 * n) r.v0 → b ≡ entered a (4 * n + 1) r.v1 → c ≡ entered b (4 * n + 2) r.v2 → d ≡ entered c (4 * n + 3) r.v3 → d ≡ row_pushed s n r
unfolding row_pushed
row_pushed_lem s n r ea eb ec ed = ed ∙ rw (ec, eb, ea)

module _ (s : List ℕ) (n : ℕ) (r : Row) where
  abbrev first : List ℕ
  first = entered s (4 * n) r.v0

  abbrev second : List ℕ
  second = entered first (4 * n + 1) r.v1

  abbrev third : List ℕ
  third = entered second (4 * n + 2) r.v2

  second_length : length second ≡ length s
  second_length = entered_length first (4 * n + 1) r.v1 ∙ entered_length s (4 * n) r.v0

  third_length : length third ≡ length s
  third_length = entered_length second (4 * n + 2) r.v2 ∙ second_length

  pub row_pushed_length : length (row_pushed s n r) ≡ length s
  unfolding row_pushed
  row_pushed_length = entered_length third (4 * n + 3) r.v3 ∙ third_length

  -- what stands between links and uses
  pub row_pushed_between : {m : ℕ} → length s ≡ m → (j : ℕ) → links_at + 4 * (n + 1) ≤ j → links_at + j < m → get_or (row_pushed s n r) j 0 ≡ get_or s j 0
  unfolding row_pushed
  row_pushed_between e j l h =
      entered_between third (4 * n + 3) r.v3 j (omega arith) (rw (third_length, e) h)
      ∙ entered_between second (4 * n + 2) r.v2 j (omega arith) (rw (second_length, e) h)
      ∙ entered_between first (4 * n + 1) r.v1 j (omega arith) (rw (entered_length s (4 * n) r.v0, e) h)
      ∙ entered_between s (4 * n) r.v0 j (omega arith) (rw e h)

  -- its corners are in the index
  pub row_pushed_indexed : {key : ℕ → ℕ} → ((q : ℕ) → q ≤ 3 → key (4 * n + q) ≡ at (corners_of r) q) → ((q : ℕ) → q ≤ 3 → at (corners_of r) q < links_at) → 2 * links_at + 4 * n + 3 < length s → n < most_rows → Indexed key (4 * n) links_at s → Indexed key (4 * (n + 1)) links_at (row_pushed s n r)
  unfolding row_pushed
  row_pushed_indexed {key} is low room few i =
      let zero : 4 * n + 0 ≡ 4 * n = omega arith in
      let one_more : 4 * n + 1 + 1 ≡ 4 * n + 2 = omega arith in
      let two_more : 4 * n + 2 + 1 ≡ 4 * n + 3 = omega arith in
      let all : 4 * n + 3 + 1 ≡ 4 * (n + 1) = omega arith in
      let a : Indexed key (4 * n + 1) links_at first = entered_indexed i (ap key (sym zero) ∙ is 0 (omega arith)) (low 0 (omega arith)) (omega arith) (omega arith) in
      let b : Indexed key (4 * n + 2) links_at second = rw one_more at (entered_indexed a (is 1 (omega arith)) (low 1 (omega arith)) (omega (arith, entered_length s (4 * n) r.v0)) (omega arith)) in
      let c : Indexed key (4 * n + 3) links_at third = rw two_more at (entered_indexed b (is 2 (omega arith)) (low 2 (omega arith)) (omega (arith, second_length)) (omega arith)) in
      rw all at (entered_indexed c (is 3 (omega arith)) (low 3 (omega arith)) (omega (arith, third_length)) (omega arith))
