-- A refused call undone: children released, things cleared.
use mathlib.Core.Path.{◌≡◌, refl, sym, ap, ◌∙◌}
use mathlib.Core.Bool.{Bool, true, false, ◌&&◌, cond, and-false}
use mathlib.Core.List.{List}
use mathlib.Core.Logic.{◌⊎◌, inl, inr}
use Prim.Native.Nat.{ℕ, ◌+◌, ◌/◌, ◌≤◌, ◌<◌}
use native.Mathlib.Decide.{ℕ_discrete}
use native.Mathlib.Omega.{arith}
use borrow.Author.Tests.{lt-ltb, le-ltb, le-leb, lt-leb}
use lib.Dec.{leb, ltb}
use lib.ListN.{length}
use Rattle.split.proofs.laws.Places.{le_or_lt}
use Rattle.tables.specs.Layout.{row_width, record_width, no_row, no_record, row_at, record_at, put_row}
use Rattle.tables.proofs.laws.Table.{Table, at_put, length_put}
use Rattle.tables.proofs.laws.Rows.{rows, records}
use Rattle.tables.specs.Steps.{over}
use Rattle.frame.specs.Undo.{restored, with_restored, without_row, without_record, released, emptied_records, undone}
use Rattle.frame.proofs.laws.Steps.{over_keeps, none_over}
use Rattle.closure.proofs.laws.Tables.{put_other}

-- ---- a range

inside : (a b j : ℕ) → a ≤ j → j < b → (leb a j && ltb j b) ≡ true
inside a b j h l = rw (le-leb a j h, lt-ltb j b l)

outside : (a b j : ℕ) → (a ≤ j → j < b → ⊥) → (leb a j && ltb j b) ≡ false
outside a b j d = elim (le_or_lt a j) [
  | inr l ↦ rw (lt-leb a j l)
  | inl l ↦ elim (le_or_lt b j) [
    | inl m ↦ rw (le-ltb j b m, and-false)
    | inr m ↦ absurd (d l m)
  ]
]

-- only k is below k + 1 and not below k
ltb_next : (j k : ℕ) → (j ≡ k → ⊥) → ltb j k ≡ ltb j (k + 1)
ltb_next j k d = elim (le_or_lt k j) [
  | inr l ↦ lt-ltb j k l ∙ sym (lt-ltb j (k + 1) (omega arith))
  | inl l ↦ le-ltb j k l ∙ sym (le-ltb j (k + 1) (omega arith))
]

-- ---- what is left

-- the first n rows are restored
pub record Released (w : List ℕ) (n : ℕ) (w' : List ℕ) : Type 0 where
  pub size : length w' ≡ length w
  pub rows : (k : ℕ) → row_at w' k ≡ cond (ltb k n) (restored n (row_at w k)) (row_at w k)

-- in a table whose k-th thing is `at` k, zeros stand from `from` on, below `to`
pub record Emptied {A B : Type 0} (at : List B → ℕ → A) (none : A) (l : List B) (from to : ℕ) (l' : List B) : Type 0 where
  pub size : length l' ≡ length l
  pub things : (k : ℕ) → at l' k ≡ cond (leb from k && ltb k to) none (at l k)

-- of `end` rows the first n can be restored and the others cleared
pub record Undoable (w : List ℕ) (n end : ℕ) : Type 0 where
  pub old : n ≤ length w / row_width
  pub all : end ≤ length w / row_width

-- they are
pub record Undone (w : List ℕ) (n end : ℕ) (w' : List ℕ) : Type 0 where
  pub size : length w' ≡ length w
  pub rows : (k : ℕ) → k < n → row_at w' k ≡ restored n (row_at w k)
  pub blank : ((k : ℕ) → end ≤ k → row_at w k ≡ no_row) → (k : ℕ) → n ≤ k → row_at w' k ≡ no_row

-- ---- things cleared one after the other, in a table of any width

-- those from `from` on, below k, are cleared; a range that ends before it starts has none
pub record Emptying {A B : Type 0} (at : List B → ℕ → A) (none : A) (l : List B) (from to : ℕ) (l' : List B) (k : ℕ) : Type 0 where
  pub size : length l' ≡ length l
  pub above : from ≤ k
  pub within : from < k → k ≤ to
  pub things : (j : ℕ) → at l' j ≡ cond (leb from j && ltb j k) none (at l j)

module _ {A B : Type 0} {w : ℕ} {cells : A → List B} {from : List B → ℕ → A} {none : A} {at : List B → ℕ → A} {put : List B → ℕ → A → List B} (t : Table w cells from none at put) where
  module _ {l : List B} {start to : ℕ} where
    pub emptying_start : Emptying at none l start to l start
    emptying_start = record { size = refl; above = omega arith; within = λ h. absurd (omega arith); things = λ j. sym (ap (λ (b : Bool). cond b none (at l j)) (outside start start j (λ a b. omega arith))) }

    module _ {l' : List B} {k : ℕ} (room : to ≤ length l / w) (e : Emptying at none l start to l' k) (h : k < to) where
      here : k < length l' / w
      here = rw e.size (omega (arith, room, h))

      pub emptying_next : {l'' : List B} → l'' ≡ put l' k none → Emptying at none l start to l'' (k + 1)
      emptying_next f = rw f (record {
        size = length_put t l' k none ∙ e.size;
        above = omega (arith, e.above);
        within = λ b. omega (arith, h);
        things = λ j. go j (ℕ_discrete j k);
      })
        where
          go : (j : ℕ) → Dec (j ≡ k) → at (put l' k none) j ≡ cond (leb start j && ltb j (k + 1)) none (at l j)
          go j (yes q) = rw q (at_put t l' k none here ∙ sym (ap (λ (b : Bool). cond b none (at l k)) (inside start (k + 1) k e.above (omega arith))))
          go j (no d) = put_other t l' k none here j d ∙ e.things j ∙ ap (λ (b : Bool). cond (leb start j && b) none (at l j)) (ltb_next j k d)

    pub emptying_end : {l' : List B} {k : ℕ} → Emptying at none l start to l' k → to ≤ k → Emptied at none l start to l'
    emptying_end {l'} {k} e h = record { size = e.size; things = λ j. e.things j ∙ ap (λ (b : Bool). cond b none (at l j)) (go j (le_or_lt start j)) }
      where
        go : (j : ℕ) → start ≤ j ⊎ j < start → (leb start j && ltb j k) ≡ (leb start j && ltb j to)
        go j (inr b) = outside start k j (λ x y. omega arith) ∙ sym (outside start to j (λ x y. omega arith))
        go j (inl b) = elim (le_or_lt k j) [
          | inl c ↦ outside start k j (λ x y. omega arith) ∙ sym (outside start to j (λ x y. omega arith))
          | inr c ↦ inside start k j b c ∙ sym (inside start to j b (omega (arith, c, e.within (omega arith))))
        ]

  module _ (step : List B → ℕ → List B) (is : (l : List B) (k : ℕ) → step l k ≡ put l k none) where
    pub emptied_all : (l : List B) (start to : ℕ) → to ≤ length l / w → Emptied at none l start to (over step l start to)
    emptied_all l start to room = elim (le_or_lt start to) [
      | inl h ↦ emptying_end (over_keeps step l start to h (Emptying at none l start to) emptying_start (λ l' k b e. emptying_next room e b (is l' k))) (omega arith)
      | inr h ↦ rw (none_over step l start to (omega arith)) (emptying_end emptying_start (omega arith))
    ]

-- ---- rows released one after the other

pub record Releasing (w : List ℕ) (n : ℕ) (w' : List ℕ) (k : ℕ) : Type 0 where
  pub size : length w' ≡ length w
  pub within : k ≤ n
  pub rows : (j : ℕ) → row_at w' j ≡ cond (ltb j k) (restored n (row_at w j)) (row_at w j)

module _ {w : List ℕ} {n : ℕ} where
  pub releasing_start : Releasing w n w 0
  releasing_start = record { size = refl; within = omega arith; rows = λ j. rw (le-ltb j 0 (omega arith)) }

  module _ {w' : List ℕ} {k : ℕ} (room : n ≤ length w / row_width) (x : Releasing w n w' k) (h : k < n) where
    row_here : k < length w' / row_width
    row_here = rw x.size (omega (arith, room, h))

    pub releasing_next : {w'' : List ℕ} → w'' ≡ put_row w' k (restored n (row_at w' k)) → Releasing w n w'' (k + 1)
    releasing_next e = rw e (record {
      size = length_put rows w' k (restored n (row_at w' k)) ∙ x.size;
      within = omega arith;
      rows = λ j. go j (ℕ_discrete j k);
    })
      where
        old : row_at w' k ≡ row_at w k
        old = x.rows k ∙ rw (le-ltb k k (omega arith))

        go : (j : ℕ) → Dec (j ≡ k) → row_at (put_row w' k (restored n (row_at w' k))) j ≡ cond (ltb j (k + 1)) (restored n (row_at w j)) (row_at w j)
        go j (yes q) = rw (q, lt-ltb k (k + 1) (omega arith)) (at_put rows w' k (restored n (row_at w' k)) row_here ∙ ap (restored n) old)
        go j (no d) = put_other rows w' k (restored n (row_at w' k)) row_here j d ∙ x.rows j ∙ ap (λ (b : Bool). cond b (restored n (row_at w j)) (row_at w j)) (ltb_next j k d)

  pub releasing_end : {w' : List ℕ} {k : ℕ} → Releasing w n w' k → n ≤ k → Released w n w'
  releasing_end {w'} {k} x h =
      let all : k ≡ n = omega (arith, x.within) in
      record { size = x.size; rows = rw all at x.rows }

-- ---- both

module _ {w : List ℕ} {n end : ℕ} (u : Undoable w n end) where
  released_right : Released w n (released w n)
  released_right = releasing_end (over_keeps (with_restored n) w 0 n (omega arith) (Releasing w n) releasing_start (λ l k h x. releasing_next u.old x h refl)) (omega arith)

  emptied_right : Emptied row_at no_row (released w n) n end (undone w n end)
  emptied_right = emptied_all rows without_row (λ l k. refl) (released w n) n end (rw released_right.size u.all)

  pub undone_right : {w' : List ℕ} → w' ≡ undone w n end → Undone w n end w'
  undone_right e = rw e (both released_right emptied_right)
    where
      both : {a b : List ℕ} → Released w n a → Emptied row_at no_row a n end b → Undone w n end b
      both r e = record {
        size = e.size ∙ r.size;
        rows = λ k h. e.things k ∙ rw (outside n end k (λ c d. omega arith)) (r.rows k ∙ rw (lt-ltb k n h));
        blank = λ z k h. elim (le_or_lt end k) [
          | inr l ↦ e.things k ∙ rw (inside n end k h l)
          | inl l ↦ e.things k ∙ rw (outside n end k (λ c d. omega arith)) (r.rows k ∙ rw (le-ltb k n h) (z k l))
        ];
      }

pub records_emptied : {r r' : List ℕ} {from to : ℕ} → to ≤ length r / record_width → r' ≡ emptied_records r from to → Emptied record_at no_record r from to r'
records_emptied {r} {from = from} {to = to} h e = rw e (emptied_all records without_record (λ l k. refl) r from to h)
