-- Tables that hold what opening gives: what the comparing functions return, and what it means that they return true.
use mathlib.Core.Path.{◌≡◌, refl, sym, ap, ◌∙◌}
use mathlib.Core.Logic.{inl, inr}
use mathlib.Core.Bool.{Bool, true, false, not, ◌&&◌, true≢false}
use mathlib.Core.List.{List}
use Prim.Native.Nat.{ℕ, zero, suc, ◌+◌, ◌*◌, ◌/◌, ◌≤◌, ◌<◌}
use native.Mathlib.Nat.{eq-or-lt_of_le, le_of_suc-le-suc}
use native.Mathlib.Numerals.{add-one}
use native.Mathlib.Omega.{arith}
use borrow.Author.Tests.{eqb-true, eq-eqb, le-leb, leb-true}
use lib.Dec.{eqb, leb}
use lib.ListN.{length, replicate, length-replicate}
use lib.Ieee.{Float}
use Rattle.std.specs.Prelude.{Ok, Err, is_ok, map}
use Rattle.std.specs.List.{list_all, range_with_len}
use Rattle.std.proofs.Math.Bool.{and-true}
use Rattle.std.proofs.lemmas.List.FromFn.{map-range_with_len_more}
use Rattle.std.proofs.lemmas.List.Folds.{list_all-append, list_all-map}
use Rattle.split.specs.Row.{same_row}
use Rattle.split.proofs.laws.Tests.{fails, holds, both}
use Rattle.tables.specs.declared.record.Record.{Record}
use Rattle.tables.specs.Layout.{record_at, row_at, most_rows, most_vertices, point_width}
use Rattle.intake.specs.Cells.{Cells}
use Rattle.intake.specs.Verdict.{Verdict, plain}
use Rattle.opening.specs.Colours.{colours, largest}
use Rattle.opening.specs.Order.{root_of}
use Rattle.opening.specs.Opening.{initial, late}
use Rattle.opening.specs.Scratch.{links_at, Moderate, Filled, Passing, colour_in}
use Rattle.opening.specs.Agree.{every, same_record, records_agree, rows_agree, paint, agreed, workable}
use Rattle.opening.proofs.laws.Opened.{colours_stored}
use Rattle.opening.proofs.laws.Indexing.{zeros_filled}

-- ---- two records

record_same : (a b : Record) → same_record a b ≡ true → a ≡ b
unfolding same_record
record_same a b e =
    let (p, q) = both (eqb a.first b.first) (eqb a.second b.second) e in
    λ i. record { first = eqb-true a.first b.first p i; second = eqb-true a.second b.second q i }

same_record_lem : (a b : Record) → a ≡ b → same_record a b ≡ true
unfolding same_record
same_record_lem a b e = rw (e, eq-eqb b.first _ refl, eq-eqb b.second _ refl)

-- ---- a test at all places below n

module _ (test : ℕ → Bool) where
  every_all : (n : ℕ) → every test n ≡ true → (k : ℕ) → k < n → test k ≡ true
  unfolding every
  every_all zero e k h = absurd (omega arith)
  every_all (suc n) e k h =
      let (p, q) = both (every test n) (test n) e in
      elim (eq-or-lt_of_le (le_of_suc-le-suc h)) [ inl i ↦ rw i q | inr l ↦ every_all n p k l ]

  all_every : (n : ℕ) → ((k : ℕ) → k < n → test k ≡ true) → every test n ≡ true
  unfolding every
  all_every zero h = refl
  all_every (suc n) h = rw (every, all_every n (λ k l. h k (omega arith)), h n (omega arith))

  -- `all` over the places below n
  listed_more : (n : ℕ) → list_all (λ b. b) (map test (range_with_len 0 (n + 1))) ≡ list_all (λ b. b) (map test (range_with_len 0 n)) && test n
  listed_more n = rw (map-range_with_len_more test 0 n n (omega arith), list_all-append, and-true)

  listed : (n : ℕ) → list_all (λ b. b) (map test (range_with_len 0 n)) ≡ every test n
  unfolding every
  listed zero = refl
  listed (suc n) = rw add-one at (listed_more n) ∙ ap (λ b. b && test n) (listed n)

  pub every_in : (n : ℕ) {r : Bool} → r ≡ list_all test (range_with_len 0 n) → r ≡ every test n
  every_in n e = e ∙ sym (list_all-map (λ b. b) test (range_with_len 0 n)) ∙ listed n

-- ---- records

module _ (colour : ℕ → ℕ) (R : List ℕ) (n : ℕ) where
  records_same : records_agree colour R n ≡ true → (v : ℕ) → v < n → record_at R v ≡ initial (colour v)
  unfolding records_agree
  records_same e v h = record_same _ _ (every_all (λ u. same_record (record_at R u) (initial (colour u))) n e v h)

  same_records : ((v : ℕ) → v < n → record_at R v ≡ initial (colour v)) → records_agree colour R n ≡ true
  unfolding records_agree
  same_records r = all_every _ n (λ v h. same_record_lem _ _ (r v h))

ok_passed : (r : Verdict) → is_ok r ≡ true → r ≡ Ok tt
ok_passed (Err x) e = absurd (true≢false (sym e))
ok_passed (Ok x) e = refl

-- b is the answer of `is_err`
pub no_err : {r : Verdict} {b : Bool} → is_ok r ≡ not b → b ≡ false → r ≡ Ok tt
no_err {r} e f = ok_passed r (e ∙ ap not f)

-- ---- lengths

module _ (coordinates elements memory : ℕ) where
  pub record Workable : Type 0 where
    pub moderate : Moderate coordinates elements
    pub some : 1 ≤ elements
    pub room : links_at + 4 * elements ≤ memory

  pub workable_means : workable coordinates elements memory ≡ true → Workable
  unfolding workable
  workable_means e =
      let (a, e1) = both (leb coordinates (point_width * most_vertices)) _ e in
      let (b, e2) = both (leb 1 elements) _ e1 in
      let (c, d) = both (leb elements most_rows) _ e2 in
      record { moderate = record { few_coordinates = leb-true _ _ a; few_elements = leb-true _ _ c }; some = leb-true _ _ b; room = leb-true _ _ d }

  pub means_workable : Workable → workable coordinates elements memory ≡ true
  unfolding workable
  means_workable w = rw (le-leb coordinates (point_width * most_vertices) w.moderate.few_coordinates, le-leb 1 elements w.some, le-leb elements most_rows w.moderate.few_elements, le-leb (links_at + 4 * elements) memory w.room)

-- ---- the whole comparison

module _ (F : List Float) (E : Cells) (R W : List ℕ) where
  -- x is the verdict of tests 3 to 8
  module _ {x : Verdict} {table : List ℕ} (s : Passing F E x table) where
    pub agreed_refused : {b : Bool} → is_ok x ≡ not b → b ≡ true → false ≡ agreed F E R W
    unfolding agreed
    agreed_refused e f = rw (← s.answer, e, f)

    -- r is the answer on the records: the table has the colours of Algorithm 2
    module _ (e : x ≡ Ok tt) {r : Bool} (a : r ≡ records_agree (colour_in table) R (length F / 3)) where
      painted : colour_in table ≡ paint F E
      painted = colours_stored (s.painted e)

      pub agreed_records : r ≡ false → false ≡ agreed F E R W
      unfolding agreed
      agreed_records b = rw (← s.answer, e, ← painted, ← a, b)

      pub agreed_rows : {N : ℕ} {w : Bool} → r ≡ true → N ≡ largest (colours E (length F / 3)) → w ≡ rows_agree N (colour_in table) E W E.count → w ≡ agreed F E R W
      unfolding agreed
      agreed_rows b n d = rw (← s.answer, e, ← painted, ← a, b, ← n, ← d)

  -- what it means that the answer is true
  pub agreed_means : agreed F E R W ≡ true
      → (plain F E (late E (length F / 3)) ≡ Ok tt)
      × ((v : ℕ) → v < length F / 3 → record_at R v ≡ initial (paint F E v))
      × ((k : ℕ) → k < E.count → same_row (row_at W k) (root_of (largest (colours E (length F / 3))) (paint F E) E k) ≡ true)
  unfolding agreed rows_agree
  agreed_means e =
      let (a, b) = both _ _ e in
      let (c, d) = both _ _ b in
      (ok_passed _ a, records_same (paint F E) R (length F / 3) c, every_all _ E.count d)

  pub means_agreed : plain F E (late E (length F / 3)) ≡ Ok tt
      → ((v : ℕ) → v < length F / 3 → record_at R v ≡ initial (paint F E v))
      → ((k : ℕ) → k < E.count → same_row (row_at W k) (root_of (largest (colours E (length F / 3))) (paint F E) E k) ≡ true)
      → agreed F E R W ≡ true
  unfolding agreed rows_agree
  means_agreed e r w = rw (e, same_records (paint F E) R (length F / 3) r, all_every _ E.count w)

-- ---- in lent memory l, which is cleared

module _ (l : List ℕ) {clear : List ℕ} (e : clear ≡ replicate (length l) 0) (coordinates elements : ℕ) {b : Bool} (w : b ≡ workable coordinates elements (length clear)) where
  as_lent : b ≡ workable coordinates elements (length l)
  as_lent = w ∙ ap (workable coordinates elements) (ap length e ∙ length-replicate (length l) 0)

  pub memory_short : (x : Bool) → b ≡ false → false ≡ (workable coordinates elements (length l) && x)
  memory_short x n = fails _ _ (sym as_lent ∙ n)

  pub memory_moderate : b ≡ true → Moderate coordinates elements
  memory_moderate n = (workable_means coordinates elements (length l) (sym as_lent ∙ n)).moderate

  pub memory_empty : (E : Cells) → E.count ≡ elements → b ≡ true → Filled E 0 clear
  memory_empty E q n = rw e (zeros_filled (length l) E (rw q (workable_means coordinates elements (length l) (sym as_lent ∙ n)).room))

  pub memory_same : {r x : Bool} → b ≡ true → r ≡ x → r ≡ (workable coordinates elements (length l) && x)
  memory_same n q = holds _ _ _ (sym as_lent ∙ n) q

pub memory_left : (l used : List ℕ) {left : List ℕ} → left ≡ replicate (length used) 0 → length used ≡ length l → left ≡ replicate (length l) 0
memory_left l used e n = e ∙ ap (λ (k : ℕ). replicate k 0) n
