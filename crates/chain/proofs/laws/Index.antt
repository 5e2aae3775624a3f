-- A table that indexes n places: the link that a walk follows, the table of none, and one place more.
use mathlib.Core.Path.{◌≡◌, sym, ◌∙◌}
use mathlib.Core.List.{List}
use Prim.Native.Nat.{ℕ, suc, ◌+◌, ◌≤◌, ◌<◌}
use native.Mathlib.Decide.{ℕ_discrete}
use native.Mathlib.Numerals.{add-one}
use native.Mathlib.Omega.{arith}
use lib.ListN.{length, get_or}
use Rattle.chain.specs.Chain.{latest, Indexed, pushed}
use Rattle.chain.proofs.laws.Pushed.{pushed_length, pushed_other, pushed_head, pushed_link}
use Rattle.chain.proofs.laws.Walk.{latest_hit, latest_miss, latest_same}

-- from place i a walk goes on with the last place below i of the same key
pub next_link : {key : ℕ → ℕ} {n base : ℕ} {index : List ℕ} {i v : ℕ} → Indexed key n base index → i < n → key i ≡ v → get_or index (base + i) 0 ≡ latest key v i
next_link {i = i} x h e = rw (← e) (x.links i h)

-- no place yet, and one more
pub indexed_none : (key : ℕ → ℕ) (base : ℕ) (index : List ℕ) → base ≤ length index → ((v : ℕ) → v < base → get_or index v 0 ≡ 0) → Indexed key 0 base index
unfolding latest
indexed_none key base index r z = record { room = omega arith; heads = z; links = λ i h. absurd (omega arith) }

pub indexed_push : {key : ℕ → ℕ} {n base : ℕ} {index : List ℕ} → Indexed key n base index → key n < base → base + n < length index → n < 4294967295 → Indexed key (suc n) base (pushed index base n (key n))
indexed_push {key} {n} {base} {index} x k r m = record { room = rw pushed_length (omega arith); heads = λ v h. head v h (ℕ_discrete (key n) v); links = λ i h. link i h (ℕ_discrete i n) }
  where
    head : (v : ℕ) → v < base → Dec (key n ≡ v) → get_or (pushed index base n (key n)) v 0 ≡ latest key v (suc n)
    head v h (yes e) = rw (latest_hit key v n e, ← e, ← add-one n) (pushed_head index base n (key n) k r m)
    head v h (no d) = rw (latest_miss key v n d, pushed_other index base n (key n) v (λ q. d (sym q)) (omega arith)) (x.heads v h)

    link : (i : ℕ) → i < suc n → Dec (i ≡ n) → get_or (pushed index base n (key n)) (base + i) 0 ≡ latest key (key i) i
    link i h (yes e) = rw e (pushed_link index base n (key n) k r m ∙ x.heads (key n) k)
    link i h (no d) = pushed_other index base n (key n) (base + i) (omega arith) (omega arith) ∙ x.links i (omega arith)

pub indexed_push_one : {key : ℕ → ℕ} {n base : ℕ} {index : List ℕ} → Indexed key n base index → key n < base → base + n < length index → n < 4294967295 → Indexed key (n + 1) base (pushed index base n (key n))
indexed_push_one x k r m = rw add-one (indexed_push x k r m)

-- only the keys below n matter
pub indexed_same : {key key' : ℕ → ℕ} {n base : ℕ} {index : List ℕ} → ((i : ℕ) → i < n → key i ≡ key' i) → Indexed key n base index → Indexed key' n base index
indexed_same {key} {key'} {n} {base} {index} s x = record { room = x.room; heads = λ v h. x.heads v h ∙ latest_same key key' v n s; links = link }
  where
    link : (i : ℕ) → i < n → get_or index (base + i) 0 ≡ latest key' (key' i) i
    link i h = rw (← s i h) (x.links i h ∙ latest_same key key' (key i) i (λ j l. s j (omega arith)))
