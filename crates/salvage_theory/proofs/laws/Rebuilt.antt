-- The rebuilt mesh splits exactly the smallest closed set that holds the kept elements (02, L13).
use mathlib.Core.Path.{◌≡◌, refl, sym, ap, subst, ◌∙◌}
use mathlib.Core.List.Memᴰ
use mathlib.Core.List.{[], ◌∷◌, Memᴰ}
use mathlib.Core.Logic.{◌↔◌, inl, inr}
use Prim.Native.Nat.{ℕ, suc, ◌<◌}
use native.Mathlib.Omega.{arith}
use lib.ListN.{length}
use Rattle.split.proofs.laws.Places.{le_or_lt}
use Rattle.tables.specs.Mesh.{Mesh}
use Rattle.forest.specs.Element.{Element, depth}
use Rattle.forest.specs.Closed.{Present, Closed, marked, Smallest}
use Rattle.forest.proofs.Forced.{forced_closed, forced_least}
use Rattle.forest.proofs.Smallest.{smallest_along}
use Rattle.sound.specs.Sound.{rows}
use Rattle.sound.specs.Forest.{forest_of, element_of, SplitOf}
use Rattle.sound.proofs.laws.Placed.{placed}
use Rattle.sound.proofs.laws.Splits.{present_grown, splits_closed}
use Rattle.run.specs.Skeleton.{Skeleton}
use Rattle.run.specs.Ready.{Ready}
use Rattle.run.specs.Run.{RunAll}
use Rattle.run.proofs.laws.Grows.{Grows, grows_same, grows_on}
use Rattle.run.proofs.laws.Needs.{Inside, split_later, AllMarkable}
use Rattle.run.proofs.laws.Marks.{Finished, all_records, run_all}
use Rattle.salvage_theory.specs.Kept.{Intact, Kept, KeptIn}
use Rattle.salvage_theory.specs.Rebuild.{Salvaged, opened, initials, mesh_from, find, Rebuilt, start, passed, refined, KeptDeep}
use Rattle.salvage_theory.proofs.laws.Names.{Reaching, top, under, reaching, kept_there, one_element}
use Rattle.salvage_theory.proofs.laws.Opened.{opened_ready, opened_whole, opened_forest}
use Rattle.salvage_theory.proofs.laws.Depths.{kept_shallow}
use Rattle.salvage_theory.proofs.laws.Find.{Found, found}

-- what T is after the kept rows below x
pub record Built (m : Mesh) (i t x : ℕ) (T : Skeleton) : Type 0 where
  pub ready : Ready (initials m i) i t T
  pub grows : Grows (mesh_from m i (opened m i t)) (mesh_from m i T) i t
  pub held : (r : ℕ) (e : Element) → r < x → Kept m t r e → SplitOf (mesh_from m i T) t e
  pub inside : Inside (mesh_from m i T) t (Salvaged m t)

module _ {m : Mesh} {i t : ℕ} (n : Intact m i t) where
  pub built_forest : {x : ℕ} {T : Skeleton} → Built m i t x T → forest_of (mesh_from m i T) t ≡ forest_of m t
  built_forest b = b.grows.forest ∙ opened_forest n

  -- a kept row's element is there when its turn comes: it is a root, or its parent is kept and smaller
  pub kept_found : {x : ℕ} {T : Skeleton} {e : Element} → Built m i t x T → Kept m t x e → Found (mesh_from m i T) t e
  kept_found {x} {T} {e} b w = found b.ready.grown e (go (reaching w.reached))
    where
      go : Reaching m t x e → Present (forest_of (mesh_from m i T) t) (SplitOf (mesh_from m i T) t) e
      go (top l q) = rw q l
      go (under u) = rw u.is (present_grown (mesh_from m i T) t u.side u.element (b.held u.up u.element u.placed.later u.kept))

  pub built_closed : {x : ℕ} {T : Skeleton} → Built m i t x T → Closed (forest_of (mesh_from m i T) t) (Salvaged m t)
  built_closed b = rw (built_forest b) forced_closed

  pub kept_forced : {x : ℕ} {T : Skeleton} {e : Element} → Built m i t x T → Kept m t x e → (r : ℕ) → Memᴰ r (find T.rows e ∷ []) → Salvaged m t (element_of (mesh_from m i T) t r)
  kept_forced {x} b w r j = rw (Memᴰ.eq_of_singleton j, (kept_found b w).is) (marked (record { row = x; kept = w }))

  module _ (never : KeptDeep m t → ⊥) where
    pub kept_markable : {x : ℕ} {T : Skeleton} {e : Element} → Built m i t x T → Kept m t x e → AllMarkable T (find T.rows e ∷ [])
    kept_markable {x} {T} {e} b w r j =
        let f = kept_found b w in
        rw (Memᴰ.eq_of_singleton j) (record { there = f.there; shallow = λ l. omega (arith, (placed b.ready.grown (find T.rows e) f.there).depth, ap depth f.is, kept_shallow n never w) })

    -- what refining it does
    pub kept_finished : {x : ℕ} {T U : Skeleton} {e : Element} → Built m i t x T → Kept m t x e → RunAll T (find T.rows e ∷ []) U → length U.records < 4294967295 → Finished (initials m i) i t T U (find T.rows e ∷ []) (Salvaged m t)
    kept_finished b w p few = run_all (initials m i) i t (Salvaged m t) p b.ready few (kept_markable b w) (built_closed b) b.inside (kept_forced b w)

    -- what a rebuild leads to
    record Builds (x : ℕ) (T : Skeleton) : Type 0 where
      from : length T.records < 4294967295 → Built m i t x T

    start_builds : {T : Skeleton} → T ≡ opened m i t → Builds 0 T
    start_builds {T} q = record {
      from = λ few. subst (Built m i t 0) (sym q) (record { ready = opened_ready n; grows = grows_same _ i t; held = λ r e h w. absurd (omega arith); inside = λ e s. absurd (opened_whole n e s) });
    }

    passed_builds : {x : ℕ} {T : Skeleton} → ((e : Element) → Kept m t x e → ⊥) → Builds x T → Builds (suc x) T
    passed_builds {x} {T} none f = record {
      from = λ few.
          let b = f.from few in
          record {
            ready = b.ready;
            grows = b.grows;
            held = λ r e h w. elim (le_or_lt x r) [
              | inr l ↦ b.held r e l w
              | inl l ↦ let same : r ≡ x = omega arith in absurd (none e (rw same at w))
            ];
            inside = b.inside;
          };
    }

    refined_builds : {x : ℕ} {e : Element} {T U : Skeleton} → Kept m t x e → RunAll T (find T.rows e ∷ []) U → Builds x T → Builds (suc x) U
    refined_builds {x} {e} {T} {U} w p f = record {
      from = λ few.
          let b = f.from (omega (arith, few, all_records p)) in
          let d = kept_finished b w p few in
          let own = kept_found b w in
          record {
            ready = d.ready;
            grows = grows_on b.grows d.grows;
            held = λ r a h v. elim (le_or_lt x r) [
              | inr l ↦ split_later d.grows a (b.held r a l v)
              | inl l ↦ let same : r ≡ x = omega arith in
                  let name : e ≡ a = one_element n w.reached (rw same at v.reached) in
                  record {
                    row = find T.rows e;
                    there = omega (arith, own.there, d.grows.more_rows);
                    split = d.split (find T.rows e) (Memᴰ.head refl);
                    is = d.grows.element (find T.rows e) own.there ∙ own.is ∙ name;
                  }
            ];
            inside = d.inside;
          };
    }

    builds : {x : ℕ} {T : Skeleton} → Rebuilt m i t x T → Builds x T
    builds (start q) = start_builds q
    builds (passed p none) = passed_builds none (builds p)
    builds (refined p w q) = refined_builds w q (builds p)

    pub rebuilt_built : {x : ℕ} {T : Skeleton} → Rebuilt m i t x T → length T.records < 4294967295 → Built m i t x T
    rebuilt_built p = (builds p).from

    -- the rebuilt set lies in every closed set that holds the kept elements
    pub rebuilt_least : {T : Skeleton} {Z : Element → Type 0} → Rebuilt m i t (rows m) T → length T.records < 4294967295 → Closed (forest_of m t) Z → ((e : Element) → KeptIn m t e → Z e) → (e : Element) → SplitOf (mesh_from m i T) t e → Z e
    rebuilt_least p few c h e s = forced_least c h e ((rebuilt_built p few).inside e s)

    -- "it rebuilds into fresh tables the smallest closed set holding those" (02, L13)
    pub rebuilt_forced : {T : Skeleton} → Rebuilt m i t (rows m) T → length T.records < 4294967295 → (e : Element) → SplitOf (mesh_from m i T) t e ↔ Salvaged m t e
    rebuilt_forced {T} p few e =
        let b = rebuilt_built p few in
        (b.inside e, forced_least (rw (built_forest b) at (splits_closed b.ready.grown b.ready.conforming)) (λ a k. b.held k.row a (kept_there k.kept) k.kept) e)

    -- the same in the words of demand 3
    pub rebuilt_smallest : {T : Skeleton} → Rebuilt m i t (rows m) T → length T.records < 4294967295 → Smallest (forest_of m t) (KeptIn m t) (SplitOf (mesh_from m i T) t)
    rebuilt_smallest p few = smallest_along (rebuilt_forced p few)
