-- The index while slots are pushed: the first i of them are in it.
use mathlib.Core.Path.{◌≡◌, sym, ◌∙◌}
use mathlib.Core.List.{List}
use Prim.Native.Nat.{ℕ, ◌+◌, ◌*◌, ◌/◌, ◌%◌, ◌≤◌, ◌<◌}
use native.Mathlib.Nat.{add-zero, add_assoc}
use native.Mathlib.Omega.{arith}
use lib.ListN.{length, get_or, replicate, length-replicate}
use Rattle.chain.specs.Chain.{Indexed, pushed}
use Rattle.chain.proofs.laws.Clearing.{zeros_at}
use Rattle.chain.proofs.laws.Pushed.{pushed_length}
use Rattle.chain.proofs.laws.Index.{indexed_none, indexed_push_one}
use Rattle.intake.specs.Cells.{Cells}
use Rattle.intake.specs.Causes.{vertex}
use Rattle.opening.specs.Scratch.{links_at, slot, Plain, Filled, Clear}

-- numbers behind the links do not matter to the index
pub indexed_kept : {key : ℕ → ℕ} {n base : ℕ} {index next : List ℕ} → length next ≡ length index → ((j : ℕ) → j < base + n → get_or next j 0 ≡ get_or index j 0) → Indexed key n base index → Indexed key n base next
indexed_kept {base = base} l same x = record { room = rw l x.room; heads = λ v h. same v (omega arith) ∙ x.heads v h; links = λ i h. same (base + i) (omega arith) ∙ x.links i h }

-- ---- tables of zeros, over any length, so that none is ever written out

pub zeros_count : (n : ℕ) → n ≡ length (replicate {A = ℕ} n 0)
zeros_count n = sym (length-replicate n 0)

pub zeros_clear : (n : ℕ) → Clear (replicate n 0)
zeros_clear n = record { zeros = zeros_at n }

pub zeros_filled : (n : ℕ) (E : Cells) → links_at + 4 * E.count ≤ n → Filled E 0 (replicate n 0)
zeros_filled n E h =
    record {
      room = rw length-replicate h;
      index = indexed_none (slot E) links_at (replicate n 0) (rw length-replicate (omega arith)) (λ v l. zeros_at n v);
    }

-- ---- one corner slot more

slot_at : (E : Cells) (k q : ℕ) → q < 4 → slot E (4 * k + q) ≡ vertex E k q
slot_at E k q h =
    let j : (4 * k + q) / 4 ≡ k = omega arith in
    let p : (4 * k + q) % 4 ≡ q = omega arith in
    rw (j, p)

pub filling_start : {E : Cells} {index : List ℕ} (k : ℕ) → Filled E (4 * k) index → Filled E (4 * k + 0) index
filling_start k f = rw add-zero f

pub filling_next : {vertices : ℕ} {E : Cells} {index next : List ℕ} (k q : ℕ) {key : ℕ} → Plain vertices E → Filled E (4 * k + q) index → k < E.count → q < 4 → key ≡ vertex E k q → next ≡ pushed index links_at (4 * k + q) key → Filled E (4 * k + (q + 1)) next
filling_next {E = E} k q x f h l e g =
    rw (g, e, ← slot_at E k q l, ← add_assoc (4 * k) q 1)
    (record {
      room = rw pushed_length f.room;
      index = indexed_push_one f.index (omega (arith, slot_at E k q l, x.there k q h l, x.most)) (omega (arith, f.room)) (omega (arith, x.few));
    })

-- the four slots of element k are pushed
pub filling_end : {E : Cells} {index : List ℕ} (k q : ℕ) → Filled E (4 * k + q) index → q ≤ 4 → 4 ≤ q → Filled E (4 * (k + 1)) index
filling_end k q f h l = let e : 4 * (k + 1) ≡ 4 * k + q = omega arith in rw e f
