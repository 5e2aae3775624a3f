-- The split of one leaf in a growing mesh (02, L10): it adds two rows and at most one vertex, keeps clauses 2 to 6, and splits that leaf alone.
use Rattle.std.proofs.Common.{None, Option, Some}
use mathlib.Core.Path.{◌≡◌, refl, sym, subst, ◌∙◌}
use mathlib.Core.Bool.{Bool, true, false}
use mathlib.Core.List.Memᴰ
use mathlib.Core.List.{List, [], ◌∷◌, ◌++◌}
use mathlib.Core.Logic.{◌⊎◌, inl, inr}
use Prim.Native.Nat.{ℕ, ◌+◌, ◌≤◌, ◌<◌}
use native.Mathlib.Omega.{arith}
use borrow.Author.Tests.{eqb-false, ne_eqb, not-true}
use lib.ListN.{length, length-append}
use Rattle.split.specs.declared.row.Ends.{Ends}
use Rattle.split.specs.declared.point.Point.{Point}
use Rattle.split.specs.Row.{edge_of}
use Rattle.split.proofs.laws.Places.{le_or_lt}
use Rattle.tables.specs.Mesh.{Mesh}
use Rattle.intake.specs.Search.{first}
use Rattle.intake.proofs.laws.Search.{first_none}
use Rattle.sound.specs.Sound.{Records}
use Rattle.sound.proofs.laws.Searches.{and_both}
use Rattle.run.specs.Skeleton.{Skeleton, row_in, meshed}
use Rattle.run.specs.Ready.{Growing, Open}
use Rattle.run.specs.Run.{cut, record_for}
use Rattle.run.proofs.laws.Cuts.{Cuts, cut_grown}
use Rattle.run.proofs.laws.Grows.{Grows}
use Rattle.run.proofs.laws.Holders.{same_ends_lem, ends_same}
use Rattle.run.proofs.laws.Listed.{cut_length}
use Rattle.run.proofs.laws.Patched.{Split, patched_none, patched_cut}
use Rattle.run.proofs.laws.Points.{points_next}
use Rattle.run.proofs.laws.Single.{Ripe, cuts_again, wider, cuts_new}
use Rattle.completion.specs.Completion.{halves, split_at, split_one}
use Rattle.intake.proofs.laws.First.{first_found}

-- ---- counts

-- each split adds two rows (02, L10: it must end, since room is finite)
pub one_rows : (S : Skeleton) (s : ℕ) → length (split_one S s).rows ≡ length S.rows + 2
unfolding split_one
one_rows S s = go (first (halves S.records (edge_of (row_in S.rows s))) (length S.records))
  where
    go : (f : Option ℕ) → length (split_at S s f).rows ≡ length S.rows + 2
    go (Some v) = cut_length v S.rows s
    go None = cut_length (length S.records) S.rows s

-- and at most one vertex
pub record Counted (S T : Skeleton) : Type 0 where
  pub least : length S.records ≤ length T.records
  pub most : length T.records ≤ length S.records + 1

pub one_records : (S : Skeleton) (s : ℕ) → Counted S (split_one S s)
unfolding split_one
one_records S s = go (first (halves S.records (edge_of (row_in S.rows s))) (length S.records))
  where
    go : (f : Option ℕ) → Counted S (split_at S s f)
    go (Some v) = record { least = omega arith; most = omega arith }
    go None = let e = length-append S.records (record_for (edge_of (row_in S.rows s)) ∷ []) in record { least = omega (arith, e); most = omega (arith, e) }

-- ---- the vertex that records an edge

module _ {P : List Point} {i t : ℕ} {S : Skeleton} (y : Growing P i t S) (e : Ends) where
  pub halves_is : (v : ℕ) → v < length S.records → halves S.records e v ≡ true → Records (meshed P S) i v e
  unfolding halves
  halves_is v h k =
      let (a, b) = and_both _ _ k in
      record {
        midpoint = elim (le_or_lt i v) [ inl l ↦ l | inr l ↦ absurd (eqb-false _ _ (not-true _ a) (y.grown.parted.initial v l)) ];
        there = h;
        ends = same_ends_lem _ e b;
      }

  pub is_halves : (v : ℕ) → Records (meshed P S) i v e → halves S.records e v ≡ true
  unfolding halves
  is_halves v w = rw (ne_eqb _ _ (y.grown.parted.midpoints v w.midpoint w.there), w.ends) (ends_same e)

-- ---- the split

-- T is S with the leaf s split, and no other
pub record Divided (P : List Point) (i t : ℕ) (S : Skeleton) (s : ℕ) (T : Skeleton) : Type 0 where
  pub growing : Growing P i t T
  pub grows : Grows (meshed P S) (meshed P T) i t
  pub own : (row_in T.rows s).child ≡ 0 → ⊥
  pub splits : (q : ℕ) → q < length T.rows → ((row_in T.rows q).child ≡ 0 → ⊥) → Split (meshed P S) q ⊎ (q ≡ s)

divided : {P : List Point} {i t : ℕ} {S T : Skeleton} {s v : ℕ} → Growing P i t S → length P ≤ length T.records → Cuts (meshed P S) (meshed P T) i t s v → Divided P i t S s T
divided {P} {i} {t} {S} {T} {s} {v} y based c =
    let p = patched_cut y.grown c (patched_none v (cut_grown y.grown c)) Memᴰ.not-nil (λ q k. absurd (Memᴰ.not-nil k)) in
    record {
      growing = record { based = based; grown = p.grown };
      grows = p.grows;
      own = p.gone s (Memᴰ.head refl);
      splits = λ q h d. elim (p.splits q h d) [ inl w ↦ inl w | inr k ↦ elim (Memᴰ.cases_cons k) [ inl e ↦ inr e | inr j ↦ absurd (Memᴰ.not-nil j) ] ];
    }

pub one_divided : {P : List Point} {i t : ℕ} {S : Skeleton} (s : ℕ) → Growing P i t S → length (split_one S s).records < 4294967295 → Open S s → Divided P i t S s (split_one S s)
unfolding split_one
one_divided {P} {i} {t} {S} s y few o = go (first (halves S.records (edge_of (row_in S.rows s))) (length S.records)) refl few
  where
    ready : Ripe (meshed P S) (edge_of (row_in S.rows s)) s
    ready = record { there = o.there; leaf = o.leaf; shallow = o.shallow; edge = refl }

    go : (f : Option ℕ) → first (halves S.records (edge_of (row_in S.rows s))) (length S.records) ≡ f → length (split_at S s f).records < 4294967295 → Divided P i t S s (split_at S s f)
    go (Some v) k less =
        let w = first_found _ _ v k in
        divided y y.based (cuts_again y.grown less (halves_is y _ v w.below w.holds) ready)
    go None k less =
        let total = length-append S.records (record_for (edge_of (row_in S.rows s)) ∷ []) in
        let free : (u : ℕ) → Records (meshed P S) i u (edge_of (row_in S.rows s)) → ⊥ = λ u w. let z : ◌≡◌ {A = Bool} true false = sym (is_halves y _ u w) ∙ first_none _ _ k u w.there in let x : ◌≡◌ {A = ℕ} 0 1 = cc in absurd (omega arith) in
        let same : meshed P (split_at S s None) ≡ wider P S (edge_of (row_in S.rows s)) (cut (length S.records) S.rows s)
        = λ j. record { points = points_next P S y.based (record_for (edge_of (row_in S.rows s))) j; records = S.records ++ (record_for (edge_of (row_in S.rows s)) ∷ []); rows = cut (length S.records) S.rows s } in
        divided y (omega (arith, y.based, total)) (subst (λ (n : Mesh). Cuts (meshed P S) n i t s (length S.records)) (sym same) (cuts_new y (omega (arith, less, total)) (edge_of (row_in S.rows s)) s free ready))
