-- The index of pairs: the walk along the places of one key, and the pairs entered one after the other.
use mathlib.Core.Path.{◌≡◌, refl, sym, ◌∙◌}
use mathlib.Core.Bool.{Bool, true, false, true≢false}
use mathlib.Core.List.{List}
use Prim.Native.Nat.{ℕ, ◌+◌, ◌-◌, ◌≤◌, ◌<◌}
use native.Mathlib.Nat.{add-sub_of_le}
use native.Mathlib.Omega.{arith}
use lib.ListN.{length, get_or}
use Rattle.chain.specs.Chain.{Indexed, pushed}
use Rattle.chain.proofs.laws.Index.{indexed_none, indexed_push_one}
use Rattle.chain.proofs.laws.Pushed.{pushed_length}
use Rattle.tables.specs.declared.record.Record.{Record}
use Rattle.tables.specs.Layout.{record_at}
use Rattle.sound.specs.Check.{Decides}
use Rattle.soundness.specs.declared.heads.Heads.{Heads}
use Rattle.soundness.specs.declared.heads.Heads.TheVariants.{Few, Many}
use Rattle.soundness.specs.Check.{Run, heads, key_of, pair_at, Has, Untaken, Single, Fresh, Entered}
use Rattle.sound.proofs.laws.Deciding.{decides_true, Swept, swept_none, swept_on, swept_all, swept_failed}
use Rattle.soundness.proofs.laws.Chains.{Walked, walked_less, walked_on}

pub key_low : (hs : Heads) (a b : ℕ) → key_of hs a b < heads hs
unfolding key_of
key_low Few a b = omega arith
key_low Many a b = omega arith

-- ---- the walk along the places of the key of a and b

module _ (hs : Heads) (r : List ℕ) (i n a b : ℕ) where
  -- a walk that is at x: no place from there on is of a vertex with the parents a and b
  abbrev pub Seeking : ℕ → Type 0
  Seeking x = Walked (pair_at hs r i) (λ (s : ℕ). Has r (i + s) a b) (n - i) (key_of hs a b) x

  module _ {scratch : List ℕ} {x next links : ℕ} (t : Indexed (pair_at hs r i) (n - i) (heads hs) scratch) (w : Seeking x) (more : 0 < x) (q : links ≡ heads hs) (e : next ≡ get_or scratch (links + (x - 1)) 0) where
    abbrev link : next ≡ get_or scratch (heads hs + (x - 1)) 0
    link = rw q at e

    pub seek_less : next < x
    seek_less = walked_less t w more link

    -- the place x - 1 is asked, and the walk goes on
    pub seek_on : {y : Bool} → Decides (Has r (i + (x - 1)) a b) y → y ≡ false → Seeking next
    seek_on d f = walked_on t w more link (d.no f)

module _ (hs : Heads) {r : List ℕ} {i n a b x : ℕ} (h : Run i n) (w : Seeking hs r i n a b x) where
  pub seek_done : x ≤ 0 → Decides (Untaken r i n a b) true
  seek_done l = decides_true (record { none = passed })
    where
      passed : (u : ℕ) → i ≤ u → u < n → Has r u a b → ⊥
      passed u f m k =
          let same : i + (u - i) ≡ u = add-sub_of_le f in
          w.behind (u - i) (omega arith) (omega arith) (rw (same, k.first, k.second)) (rw same k)

-- ---- the pairs entered one after the other

-- those of the vertices below v are in the index, and none stands twice
pub record Entering (hs : Heads) (r : List ℕ) (i n v : ℕ) (before scratch : List ℕ) : Type 0 where
  pub swept : Swept (Single r i) i v
  pub within : v ≤ n
  pub size : length scratch ≡ length before
  pub index : Indexed (pair_at hs r i) (v - i) (heads hs) scratch

module _ {hs : Heads} {r : List ℕ} {i n : ℕ} (h : Run i n) where
  pub entering_none : {scratch : List ℕ} → Fresh hs scratch → Entering hs r i n i scratch scratch
  entering_none {scratch} f =
      let none : i - i ≡ 0 = omega arith in
      record { swept = swept_none i; within = h.order; size = refl; index = rw none (indexed_none (pair_at hs r i) (heads hs) scratch (omega (arith, f.size)) f.clear) }

  module _ {v : ℕ} {before scratch : List ℕ} (k : Entering hs r i n v before scratch) where
    pub entering_run : Run i v
    entering_run = record { order = k.swept.reached; few = omega (arith, k.within, h.few) }

    pub entered_all : n ≤ v → Entered hs r i n true scratch
    entered_all l =
        let all : v ≡ n = omega (arith, k.within) in
        record { decides = swept_all k.swept l; index = λ e. rw all at k.index }

    -- the pair of v, as it was read
    module _ (l : v < n) {held : Record} (e : held ≡ record_at r v) where
      pub entered_twice : {y : Bool} → Decides (Untaken r i v held.first held.second) y → y ≡ false → Entered hs r i n false scratch
      entered_twice d t = record { decides = swept_failed k.swept l (λ s. d.no t (rw e s)); index = λ f. absurd (true≢false (sym f)) }

      pub entering_on : {next : List ℕ} {y : Bool} {base x : ℕ} → Decides (Untaken r i v held.first held.second) y → y ≡ true → Fresh hs before → base ≡ heads hs → x ≡ key_of hs held.first held.second → next ≡ pushed scratch base (v - i) x → Entering hs r i n (v + 1) before next
      entering_on d t room a b f =
          let g = rw (a, b) at f in
          let q = key_of hs held.first held.second in
          let u : Untaken r i v held.first held.second = d.yes t in
          let same : i + (v - i) ≡ v = add-sub_of_le k.swept.reached in
          let key : q ≡ pair_at hs r i (v - i) = rw (same, e) in
          let more : (v + 1) - i ≡ (v - i) + 1 = omega (arith, k.swept.reached) in
          let low : pair_at hs r i (v - i) < heads hs = key_low hs _ _ in
          record {
            swept = swept_on k.swept (rw e at u);
            within = omega arith;
            size = rw g (pushed_length scratch (heads hs) (v - i) q ∙ k.size);
            index = rw (more, g, key) (indexed_push_one k.index low (omega (arith, k.size, h.few, room.size)) (omega (arith, h.few)));
          }
