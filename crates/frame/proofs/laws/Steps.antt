-- A loop over a range leaves what the steps over that range leave, and what every step keeps true holds of it.
use mathlib.Core.Path.{◌≡◌, refl, sym, ap, ◌∙◌}
use mathlib.Core.List.{List}
use mathlib.Core.Logic.{◌⊎◌, inl, inr}
use Prim.Native.Nat.{ℕ, zero, suc, ◌+◌, ◌-◌, ◌/◌, ◌≤◌, ◌<◌, min}
use native.Mathlib.Nat.{eq-or-lt_of_le, le_of_suc-le-suc}
use native.Mathlib.Omega.{arith}
use Rattle.split.proofs.laws.Places.{le_or_lt}
use lib.ListN.{length}
use Rattle.tables.specs.Layout.{point_width, record_width, row_width, no_row, no_record, row_at, record_at}
use Rattle.tables.proofs.laws.Table.{length_put, put_past}
use Rattle.tables.proofs.laws.Rows.{rows, records, points}
use Rattle.tables.specs.Steps.{stepped, over}
use Rattle.frame.specs.Points.{halfway_at, with_point}
use Rattle.frame.specs.Undo.{restored, with_restored, without_row, without_record}

-- the steps below k are taken; a range that ends before it starts has none
pub record Stepping {B : Type 0} (f : List B → ℕ → List B) (l : List B) (from to : ℕ) (l' : List B) (k : ℕ) : Type 0 where
  pub size : length l' ≡ length l
  pub above : from ≤ k
  pub within : from < k → k ≤ to
  pub is : l' ≡ stepped f l from (k - from)

module _ {L : Type 0} (f : L → ℕ → L) (l : L) (from : ℕ) where
  none : (n : ℕ) → n ≡ 0 → l ≡ stepped f l from n
  unfolding stepped
  none zero e = refl
  none (suc n) e = absurd (omega (arith, e))

  -- a range that ends where it starts, or before, has no step
  pub none_over : (to : ℕ) → to ≤ from → over f l from to ≡ l
  none_over to h = sym (none (to - from) (omega (arith, h)))

  more : (n j k : ℕ) → j ≡ suc n → k ≡ from + n → f (stepped f l from n) k ≡ stepped f l from j
  unfolding stepped
  more n j k e h = rw (e, h)

  -- what holds at first and is kept by each step holds at the end
  pub over_keeps : (to : ℕ) → from ≤ to → (P : L → ℕ → Type 0) → P l from → ((l' : L) (k : ℕ) → k < to → P l' k → P (f l' k) (k + 1)) → P (over f l from to) to
  unfolding stepped
  over_keeps to h P start next = go (to - from) to (omega (arith, h)) (omega arith)
    where
      go : (n k : ℕ) → k ≡ from + n → k ≤ to → P (stepped f l from n) k
      go zero k e b =
          let here : k ≡ from = omega (arith, e) in
          rw here start
      go (suc n) k e b =
          let last : k ≡ from + n + 1 = omega (arith, e) in
          rw last (next (stepped f l from n) (from + n) (omega (arith, b, e)) (go n (from + n) refl (omega (arith, b, e))))

-- a step that leaves the table as long as it was
pub record Lasting {B : Type 0} (f : List B → ℕ → List B) : Type 0 where
  pub size : (l : List B) (k : ℕ) → length (f l k) ≡ length l

-- a step that does nothing past the end of a table of things that are w numbers wide
pub record Ending {B : Type 0} (w : ℕ) (f : List B → ℕ → List B) : Type 0 where
  pub lasting : Lasting f
  pub past : (l : List B) (k : ℕ) → length l / w ≤ k → f l k ≡ l

module _ {B : Type 0} {w : ℕ} {f : List B → ℕ → List B} (t : Ending w f) (l : List B) (from : ℕ) where
  stepped_size : (n : ℕ) → length (stepped f l from n) ≡ length l
  unfolding stepped
  stepped_size zero = refl
  stepped_size (suc n) = t.lasting.size (stepped f l from n) (from + n) ∙ stepped_size n

  stepped_past : (n m : ℕ) → n ≤ m → length l / w ≤ from + n → stepped f l from m ≡ stepped f l from n
  unfolding stepped
  stepped_past n zero h g = let z : n ≡ zero = omega (arith, h) in rw z
  stepped_past n (suc m) h g =
      elim (eq-or-lt_of_le h) [
        | inl e ↦ rw e
        | inr b ↦ t.past (stepped f l from m) (from + m) (rw (stepped_size m) (omega (arith, b, g))) ∙ stepped_past n m (le_of_suc-le-suc b) g
      ]

  -- a range that goes on past the table's end
  pub over_short : (to end : ℕ) → end ≡ min to (length l / w) → over f l from end ≡ over f l from to
  over_short to end e = go (le_or_lt to (length l / w))
    where
      go : (to ≤ length l / w) ⊎ (length l / w < to) → over f l from end ≡ over f l from to
      go (inl h) = let z : end ≡ to = omega (arith, e, h) in rw z
      go (inr h) = sym (stepped_past (end - from) (to - from) (omega (arith, e, h)) (omega (arith, e, h)))

module _ {B : Type 0} {f : List B → ℕ → List B} {l : List B} {from to : ℕ} where
  pub stepping_start : Stepping f l from to l from
  stepping_start = record { size = refl; above = omega arith; within = λ h. absurd (omega arith); is = none f l from (from - from) (omega arith) }

  module _ {l' : List B} {k : ℕ} (s : Stepping f l from to l' k) where
    pub stepping_next : {l'' : List B} → Lasting f → k < to → l'' ≡ f l' k → Stepping f l from to l'' (k + 1)
    stepping_next t h e = record {
      size = ap length e ∙ t.size l' k ∙ s.size;
      above = omega (arith, s.above);
      within = λ a. omega (arith, h);
      is = e ∙ ap (λ (x : List B). f x k) s.is ∙ more f l from (k - from) (k + 1 - from) k (omega (arith, s.above)) (omega (arith, s.above));
    }

    steps_taken : to ≤ k → l' ≡ over f l from to
    steps_taken h = s.is ∙ ap (stepped f l from) (go (le_or_lt k from))
      where
        go : (k ≤ from) ⊎ (from < k) → k - from ≡ to - from
        go (inl a) = omega (arith, h)
        go (inr a) = omega (arith, h, s.within a)

    -- the loop ends with the range, or with the table
    pub stepping_end : {w : ℕ} (all : ℕ) → Ending w f → to ≡ min all (length l / w) → to ≤ k → l' ≡ over f l from all
    stepping_end all t e h = steps_taken h ∙ over_short t l from all to e

-- ---- the steps of a call

pub point_lasting : (r : List ℕ) → Lasting (with_point r)
point_lasting r = record { size = λ p v. length_put points p v (halfway_at p (record_at r v)) }

pub point_ending : (r : List ℕ) → Ending point_width (with_point r)
point_ending r = record { lasting = point_lasting r; past = λ p v. put_past points p v (halfway_at p (record_at r v)) }

pub restored_lasting : (n : ℕ) → Lasting (with_restored n)
restored_lasting n = record { size = λ w k. length_put rows w k (restored n (row_at w k)) }

pub restored_ending : (n : ℕ) → Ending row_width (with_restored n)
restored_ending n = record { lasting = restored_lasting n; past = λ w k. put_past rows w k (restored n (row_at w k)) }

pub row_lasting : Lasting without_row
row_lasting = record { size = λ w k. length_put rows w k no_row }

pub row_ending : Ending row_width without_row
row_ending = record { lasting = row_lasting; past = λ w k. put_past rows w k no_row }

pub record_lasting : Lasting without_record
record_lasting = record { size = λ r k. length_put records r k no_record }

pub record_ending : Ending record_width without_record
record_ending = record { lasting = record_lasting; past = λ r k. put_past records r k no_record }

pub ruleset stepping = (stepping_start, stepping_next, stepping_end, point_lasting, restored_lasting, row_lasting, record_lasting, point_ending, restored_ending, row_ending, record_ending)
