-- What each step of a run over marks leads to: sound tables stay so, the row is split, and everything split lies in every closed set that holds what was split before and the marked elements.
use mathlib.Core.Path.{◌≡◌, refl, sym, subst}
use mathlib.Core.List.Memᴰ
use mathlib.Core.List.{List, [], ◌∷◌, Memᴰ}
use mathlib.Core.Logic.{inl, inr}
use Prim.Native.Nat.{ℕ, ◌≤◌, ◌<◌}
use native.Mathlib.Omega.{arith}
use lib.ListN.{length}
use Rattle.split.specs.declared.point.Point.{Point}
use Rattle.forest.specs.Element.{Element}
use Rattle.forest.specs.Closed.{Closed}
use Rattle.sound.specs.Forest.{forest_of, element_of}
use Rattle.run.specs.Ready.{Ready}
use Rattle.run.specs.Skeleton.{Skeleton, row_in, meshed}
use Rattle.run.specs.Run.{Run, RunAll, done, passed, refined}
use Rattle.run.proofs.laws.Grows.{Grows, grows_same, grows_on}
use Rattle.run.proofs.laws.Needs.{Inside, AllMarkable, markable_open, markable_later}
use Rattle.run.proofs.laws.Runs.{run_records, run_refined}

pub record Finished (P : List Point) (i t : ℕ) (S S' : Skeleton) (rs : List ℕ) (Z : Element → Type 0) : Type 0 where
  pub ready : Ready P i t S'
  pub grows : Grows (meshed P S) (meshed P S') i t
  pub inside : Inside (meshed P S') t Z
  pub split : (r : ℕ) → Memᴰ r rs → (row_in S'.rows r).child ≡ 0 → ⊥

-- the run only appends records
pub all_records : {S S' : Skeleton} {rs : List ℕ} → RunAll S rs S' → length S.records ≤ length S'.records
all_records (done e) = rw e (omega arith)
all_records (passed d p) = all_records p
all_records (refined l p q) = omega (arith, run_records p, all_records q)

module _ (P : List Point) (i t : ℕ) (Z : Element → Type 0) where
  -- what a run over marks leads to
  pub record Leads (S : Skeleton) (rs : List ℕ) (S' : Skeleton) : Type 0 where
    pub from : Ready P i t S → length S'.records < 4294967295 → AllMarkable S rs → Closed (forest_of (meshed P S) t) Z → Inside (meshed P S) t Z → ((r : ℕ) → Memᴰ r rs → Z (element_of (meshed P S) t r)) → Finished P i t S S' rs Z

  pub done_leads : {S S' : Skeleton} → S' ≡ S → Leads S [] S'
  done_leads {S} {S'} e = record { from = λ y few k c d z. subst (λ (x : Skeleton). Finished P i t S x [] Z) (sym e) (record { ready = y; grows = grows_same (meshed P S) i t; inside = d; split = λ r j. absurd (Memᴰ.not-nil j) }) }

  -- a row passed over stays split
  pub passed_leads : {S S' : Skeleton} {r : ℕ} {rs : List ℕ} → ((row_in S.rows r).child ≡ 0 → ⊥) → Leads S rs S' → Leads S (r ∷ rs) S'
  passed_leads {S} {S'} {r} {rs} n f = record {
    from = λ y few k c d z.
        let w = f.from y few (λ q j. k q (Memᴰ.tail j)) c d (λ q j. z q (Memᴰ.tail j)) in
        let same = w.grows.split r (k r (Memᴰ.head refl)).there n in
        record { ready = w.ready; grows = w.grows; inside = w.inside; split = λ q j. elim (Memᴰ.cases_cons j) [ inl e ↦ rw (e, same) n | inr h ↦ w.split q h ] };
  }

  pub refined_leads : {S T S' : Skeleton} {r : ℕ} {rs : List ℕ} → (row_in S.rows r).child ≡ 0 → Run S r T → RunAll T rs S' → Leads T rs S' → Leads S (r ∷ rs) S'
  refined_leads {S} {T} {S'} {r} {rs} l p q f = record {
    from = λ y few k c d z.
        let o = k r (Memᴰ.head refl) in
        let u = run_refined P i t Z p y (omega (arith, few, all_records q)) (markable_open l o) c d (z r (Memᴰ.head refl)) in
        let rise : (x : ℕ) → Memᴰ x rs → x < length S.rows = λ x j. (k x (Memᴰ.tail j)).there in
        let w = f.from u.ready few (λ x j. markable_later u.grows (k x (Memᴰ.tail j))) (rw u.grows.forest c) u.inside (λ x j. rw (u.grows.element x (rise x j)) (z x (Memᴰ.tail j))) in
        let same = w.grows.split r (omega (arith, u.grows.more_rows, o.there)) u.split in
        record { ready = w.ready; grows = grows_on u.grows w.grows; inside = w.inside; split = λ x j. elim (Memᴰ.cases_cons j) [ inl e ↦ rw (e, same) u.split | inr h ↦ w.split x h ] };
  }
