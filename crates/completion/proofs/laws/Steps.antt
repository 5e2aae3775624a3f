-- What the second engine keeps true (02, L10): clauses 2 to 6 hold, the mesh grows from that at entry, and only elements of a closed set that holds the marks are split. At the end the mesh is sound.
use Rattle.std.proofs.Common.{Some}
use mathlib.Core.Path.{◌≡◌, refl, sym, subst, ◌∙◌}
use mathlib.Core.List.Memᴰ
use mathlib.Core.List.{List, ◌∷◌, Memᴰ}
use mathlib.Core.Logic.{inl, inr}
use Prim.Native.Nat.{ℕ, ◌+◌, ◌*◌, ◌≤◌, ◌<◌}
use native.Mathlib.Omega.{arith}
use lib.ListN.{length}
use Rattle.split.specs.declared.point.Point.{Point}
use Rattle.forest.specs.Element.{Element}
use Rattle.forest.specs.Closed.{Closed}
use Rattle.sound.specs.Forest.{forest_of, element_of}
use Rattle.run.specs.Skeleton.{Skeleton, row_in, meshed}
use Rattle.run.specs.Ready.{Ready, Growing, Open}
use Rattle.run.proofs.laws.Grows.{Grows, grows_same, grows_on}
use Rattle.run.proofs.laws.Needs.{Inside, AllMarkable, markable_open, markable_later}
use Rattle.completion.specs.Completion.{lowest, split_one, split_marks, Completes, complete, onward, Completed}
use Rattle.completion.proofs.laws.Marks.{marks_through}
use Rattle.completion.proofs.laws.One.{one_rows, one_records, one_divided}
use Rattle.completion.proofs.laws.Ripe.{lowest_hanging, hanging_forced, hanging_open, none_conforming}

-- ---- only records are appended

pub marks_records : (S : Skeleton) (rs : List ℕ) → length S.records ≤ length (split_marks S rs).records
marks_records = marks_through (λ S rs T. length S.records ≤ length T.records) (λ S. omega arith) (λ S r rs l h. omega (arith, (one_records S r).least)) (λ S r rs n h. h)

pub loop_records : {S S' : Skeleton} → Completes S S' → length S.records ≤ length S'.records
loop_records (complete k e) = rw e (omega arith)
loop_records (onward {S = S} {q = q} k p) = omega (arith, (one_records S q).least, loop_records p)

-- ---- each split adds two rows

-- T has two rows more than S for each split
pub record Paired (S T : Skeleton) : Type 0 where
  pub splits : ℕ
  pub rows : length T.rows ≡ length S.rows + 2 * splits

pub marks_rows : (S : Skeleton) (rs : List ℕ) → Paired S (split_marks S rs)
marks_rows = marks_through (λ S rs T. Paired S T) (λ S. record { splits = 0; rows = omega arith }) (λ S r rs l w. record { splits = w.splits + 1; rows = omega (arith, one_rows S r) }) (λ S r rs n w. w)

pub loop_rows : {S S' : Skeleton} → Completes S S' → Paired S S'
loop_rows (complete k e) = record { splits = 0; rows = rw e (omega arith) }
loop_rows (onward {S = S} {q = q} k p) = let w = loop_rows p in record { splits = w.splits + 1; rows = omega (arith, w.rows, one_rows S q) }

pub completed_rows : {S S' : Skeleton} {rs : List ℕ} → Completed S rs S' → Paired S S'
completed_rows {S} {rs = rs} p = let a = marks_rows S rs in let b = loop_rows p.loop in record { splits = a.splits + b.splits; rows = omega (arith, a.rows, b.rows) }

-- ---- one split

-- T came from S by splits of single leaves, all in Z
pub record Went (P : List Point) (i t : ℕ) (Z : Element → Type 0) (S T : Skeleton) : Type 0 where
  pub growing : Growing P i t T
  pub grows : Grows (meshed P S) (meshed P T) i t
  pub inside : Inside (meshed P T) t Z

module _ (P : List Point) (i t : ℕ) (Z : Element → Type 0) where
  pub went_none : {S : Skeleton} → Growing P i t S → Inside (meshed P S) t Z → Went P i t Z S S
  went_none {S} y d = record { growing = y; grows = grows_same (meshed P S) i t; inside = d }

  pub went_on : {S T U : Skeleton} → Went P i t Z S T → Went P i t Z T U → Went P i t Z S U
  went_on a b = record { growing = b.growing; grows = grows_on a.grows b.grows; inside = b.inside }

  -- a leaf of Z is split: it alone becomes split
  pub went_one : {S : Skeleton} (s : ℕ) → Growing P i t S → length (split_one S s).records < 4294967295 → Inside (meshed P S) t Z → Open S s → Z (element_of (meshed P S) t s) → Went P i t Z S (split_one S s)
  went_one {S} s y few d o z =
      let w = one_divided s y few o in
      record {
        growing = w.growing;
        grows = w.grows;
        inside = λ e x. elim (w.splits x.row x.there x.split) [
          | inl k ↦ d e (record { row = x.row; there = k.there; split = k.split; is = sym (w.grows.element x.row k.there) ∙ x.is })
          | inr k ↦ subst Z (sym (w.grows.element s o.there) ∙ rw k at x.is) z
        ];
      }

  -- the lowest ripe leaf is of Z, since Z is closed (02, L10: it splits exactly the same elements)
  pub went_lowest : {S : Skeleton} (q : ℕ) → Growing P i t S → length (split_one S q).records < 4294967295 → Closed (forest_of (meshed P S) t) Z → Inside (meshed P S) t Z → lowest S ≡ Some q → Went P i t Z S (split_one S q)
  went_lowest {S} q y few c d k =
      let w = lowest_hanging y.grown q k in
      went_one q y few d (hanging_open y.grown q w) (hanging_forced y.grown q w Z c d)

  -- ---- the marks

  -- what splitting the marks leads to
  pub record MarksSplit (S : Skeleton) (rs : List ℕ) (S' : Skeleton) : Type 0 where
    pub went : Went P i t Z S S'
    pub split : (r : ℕ) → Memᴰ r rs → (row_in S'.rows r).child ≡ 0 → ⊥

  record Leads (S : Skeleton) (rs : List ℕ) (S' : Skeleton) : Type 0 where
    from : Growing P i t S → length S'.records < 4294967295 → AllMarkable S rs → Inside (meshed P S) t Z → ((r : ℕ) → Memᴰ r rs → Z (element_of (meshed P S) t r)) → MarksSplit S rs S'

  -- S leads to T, where r is split, and T by the other marks to S'
  marked_on : {S T S' : Skeleton} {r : ℕ} {rs : List ℕ} → r < length S.rows → Went P i t Z S T → ((row_in T.rows r).child ≡ 0 → ⊥) → MarksSplit T rs S' → MarksSplit S (r ∷ rs) S'
  marked_on {r = r} h u n w = let same = w.went.grows.split r (omega (arith, u.grows.more_rows)) n in record { went = went_on u w.went; split = λ q j. elim (Memᴰ.cases_cons j) [ inl e ↦ rw (e, same) n | inr m ↦ w.split q m ] }

  split_leads : (S : Skeleton) (r : ℕ) (rs : List ℕ) → (row_in S.rows r).child ≡ 0 → Leads (split_one S r) rs (split_marks (split_one S r) rs) → Leads S (r ∷ rs) (split_marks (split_one S r) rs)
  split_leads S r rs l f = record {
    from = λ y few k d z.
        let o = markable_open l (k r (Memᴰ.head refl)) in
        let less : length (split_one S r).records < 4294967295 = omega (arith, marks_records (split_one S r) rs) in
        let u = went_one r y less d o (z r (Memᴰ.head refl)) in
        marked_on o.there u (one_divided r y less o).own (f.from u.growing few (λ x j. markable_later u.grows (k x (Memᴰ.tail j))) u.inside (λ x j. rw (u.grows.element x (k x (Memᴰ.tail j)).there) (z x (Memᴰ.tail j))));
  }

  passed_leads : (S : Skeleton) (r : ℕ) (rs : List ℕ) → ((row_in S.rows r).child ≡ 0 → ⊥) → Leads S rs (split_marks S rs) → Leads S (r ∷ rs) (split_marks S rs)
  passed_leads S r rs n f = record { from = λ y few k d z. marked_on (k r (Memᴰ.head refl)).there (went_none y d) n (f.from y few (λ q j. k q (Memᴰ.tail j)) d (λ q j. z q (Memᴰ.tail j))) }

  pub marks_lead : {S : Skeleton} (rs : List ℕ) → Growing P i t S → length (split_marks S rs).records < 4294967295 → AllMarkable S rs → Inside (meshed P S) t Z → ((r : ℕ) → Memᴰ r rs → Z (element_of (meshed P S) t r)) → MarksSplit S rs (split_marks S rs)
  marks_lead {S} rs = (marks_through Leads (λ T. record { from = λ y few k d z. record { went = went_none y d; split = λ r j. absurd (Memᴰ.not-nil j) } }) split_leads passed_leads S rs).from

  -- ---- the loop

  -- what the loop leads to
  pub record Looped (S S' : Skeleton) : Type 0 where
    pub went : Went P i t Z S S'
    pub ready : Ready P i t S'

  pub loop_lead : {S S' : Skeleton} → Completes S S' → Growing P i t S → length S'.records < 4294967295 → Closed (forest_of (meshed P S) t) Z → Inside (meshed P S) t Z → Looped S S'
  loop_lead {S} (complete k e) y few c d = subst (Looped S) (sym e) (record { went = went_none y d; ready = record { based = y.based; grown = y.grown; conforming = none_conforming y.grown k } })
  loop_lead (onward {q = q} k p) y few c d =
      let u = went_lowest q y (omega (arith, loop_records p)) c d k in
      let w = loop_lead p u.growing few (rw u.grows.forest c) u.inside in
      record { went = went_on u w.went; ready = w.ready }
