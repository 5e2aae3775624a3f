-- A loop that puts one thing after the other into a table.
use mathlib.Core.Path.{◌≡◌, refl, ap, ◌∙◌}
use mathlib.Core.List.{List, ◌++◌}
use Prim.Native.Nat.{ℕ, zero, suc, ◌+◌, ◌-◌, ◌*◌, ◌≤◌, ◌<◌}
use native.Mathlib.Nat.{zero-add, mul-zero, mul-suc, mul-le-mul_left, sub-zero}
use native.Mathlib.Numerals.{add-one}
use native.Mathlib.Omega.{arith}
use lib.ListN.{length, replicate, length-replicate}
use Rattle.tables.specs.Steps.{stepped, over}
use Rattle.tables.specs.Mesh.{up_to, flat, padded}
use Rattle.tables.proofs.laws.Table.{Table, length_put}
use Rattle.tables.proofs.laws.View.{up_to_next, length_up_to, length_flat}
use Rattle.tables.proofs.laws.Append.{put_next}

-- of n things f 0, f 1, .. the first k stand in a table, and z after them
pub record Filled {A B : Type 0} (w : ℕ) (cells : A → List B) (z : B) (f : ℕ → A) (size n k : ℕ) (now : List B) : Type 0 where
  pub is : now ≡ flat cells (up_to f k) ++ replicate (size - w * k) z
  pub length_is : length now ≡ size
  pub room : w * n ≤ size
  pub within : k ≤ n

pub length_cleared : {B : Type 0} (z : B) (size : ℕ) {now : List B} → now ≡ replicate size z → length now ≡ size
length_cleared z size e = ap length e ∙ length-replicate size z

module _ {A B : Type 0} {w : ℕ} {cells : A → List B} {from : List B → ℕ → A} {none : A} {at : List B → ℕ → A} {put : List B → ℕ → A → List B} (t : Table w cells from none at put) {z : B} {f : ℕ → A} {n : ℕ} where
  fill_start : (size : ℕ) {now : List B} → now ≡ replicate size z → w * n ≤ size → Filled w cells z f (length now) n 0 now
  unfolding up_to flat
  fill_start size {now} e h = record { is = rw (mul-zero w, sub-zero (length now), length_cleared z size e) e; length_is = refl; room = rw (length_cleared z size e) h; within = omega arith }

  fill_next : {size k : ℕ} {now next : List B} {x : A} → Filled w cells z f size n k now → k < n → x ≡ f k → next ≡ put now k x → Filled w cells z f size n (k + 1) next
  fill_next {size} {k} {now} {next} {x} b h e g =
      record {
        is = rw (g, e, up_to_next f k, left) (rw (length_up_to f k) at (put_next t z now (up_to f k) (size - w * k) (f k) b.is (omega (arith, more, fits))));
        length_is = rw g (length_put t now k x ∙ b.length_is);
        room = b.room;
        within = omega arith;
      }
    where
      more : w * (k + 1) ≡ w * k + w
      more = rw (add-one k) (mul-suc w k)

      fits : w * (k + 1) ≤ w * n
      fits = mul-le-mul_left w (omega arith)

      left : size - w * (k + 1) ≡ size - w * k - w
      left = omega (arith, more)

  fill_end : (size : ℕ) {k : ℕ} {start now : List B} → start ≡ replicate size z → Filled w cells z f (length start) n k now → n ≤ k → now ≡ padded size z (flat cells (up_to f n))
  fill_end size {k} {start} {now} c b h =
      let e : k ≡ n = omega arith in
      b.is ∙ rw (e, length_cleared z size c, length_flat cells w t.length_cells (up_to f n), length_up_to f n)

-- a cleared table with n things put into it, one after the other
pub stored : {A B : Type 0} {w : ℕ} {cells : A → List B} {from : List B → ℕ → A} {none : A} {at : List B → ℕ → A} {put : List B → ℕ → A → List B} (t : Table w cells from none at put) (z : B) (f : ℕ → A) (n size : ℕ) {start now : List B} → start ≡ replicate size z → w * n ≤ size → now ≡ over (λ (l : List B) (k : ℕ). put l k (f k)) start 0 n → now ≡ padded size z (flat cells (up_to f n))
unfolding stepped
stored {A} {B} {w} {cells} {put = put} t z f n size {start} {now} c h e =
    let full : Filled w cells z f (length start) n n now = rw (e, sub-zero n) (go n (omega arith)) in
    fill_end t size c full (omega arith)
  where
    go : (k : ℕ) → k ≤ n → Filled w cells z f (length start) n k (stepped (λ (l : List B) (k : ℕ). put l k (f k)) start 0 k)
    go zero b = fill_start t size c h
    go (suc k) b = rw (zero-add k, ← add-one k) (fill_next t (go k (omega (arith, b))) (omega (arith, b)) refl refl)
