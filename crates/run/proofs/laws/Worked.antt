-- The small meshes worked out come out as the table says (01, "Small meshes worked out"): one computed test, and what it says of each case in the words of the promise.
use Rattle.std.proofs.Common.{Option, Some, None}
use mathlib.Core.Path.{◌≡◌, refl, sym, ap, ◌∙◌}
use mathlib.Core.List.Memᴰ
use mathlib.Core.List.{List, [], ◌∷◌, map, Memᴰ}
use mathlib.Core.Logic.{inl, inr}
use Prim.Native.Nat.{ℕ}
use native.Mathlib.Omega.{arith}
use lib.Ieee.{of_bits}
use Rattle.split.specs.Split.{first, second}
use Rattle.split.specs.Row.{read_tag, edge_of, deeper, below, first_of, second_of}
use Rattle.tables.specs.Layout.{room_of}
use Rattle.tables.specs.Mesh.{up_to}
use Rattle.forest.specs.Start.{arranged}
use Rattle.intake.specs.Search.{any, count, free, first as smallest}
use Rattle.intake.specs.Causes.{wrong_input, wrong_lent, has_no_room, usable, unusable, missing, twice, same, third, has as held}
use Rattle.intake.specs.Verdict.{plain, fitting}
use Rattle.opening.specs.Colours.{taken, colours, largest}
use Rattle.opening.specs.Order.{sorted, root_of}
use Rattle.opening.specs.Opening.{late, judged, opened_mesh}
use Rattle.sound.specs.Forest.{element_within}
use Rattle.run.specs.Skeleton.{Skeleton}
use Rattle.run.specs.Run.{has, holding, holders_from, same_ends, other_in, cut, cut_all, split_patch}
use Rattle.run.specs.Compute.{refine, refine_all, refine_calls}
use Rattle.run.specs.Worked.{Case, worked, start, end, splits_below, splits_of, Comes, Outcome, seen, computed, expected}
use Rattle.run.proofs.laws.Compute.{refine_calls_runs}

pub worked_out : map computed worked ≡ map expected worked
unfolding worked computed expected splits_below refine_calls refine_all refine split_patch cut_all cut other_in same_ends holders_from holding has element_within opened_mesh root_of sorted largest colours taken free any held arranged up_to first_of second_of below deeper edge_of read_tag first second judged fitting plain late wrong_input wrong_lent has_no_room usable unusable missing twice same third count smallest room_of of_bits
worked_out = refl

-- ---- of each case

same_at : {A B : Type 0} (f g : A → B) (xs : List A) → map f xs ≡ map g xs → (x : A) → Memᴰ x xs → f x ≡ g x
same_at f g [] e x k = absurd (Memᴰ.not-nil k)
same_at f g (y ∷ ys) e x k = elim (Memᴰ.cases_cons k) [ inl i ↦ rw i (cc) | inr j ↦ same_at f g ys (cc) x j ]

same_outcome : {A B : Outcome} → Some A ≡ Some B → A ≡ B
same_outcome e = cc

comes : (c : Case) → computed c ≡ expected c → Comes c
unfolding computed expected
comes c e = go (refine_calls 4 (start c) c.calls) refl e
  where
    go : (o : Option Skeleton) → refine_calls 4 (start c) c.calls ≡ o → seen c o ≡ expected c → Comes c
    go None k h = let z : ◌≡◌ {A = ℕ} 0 1 = cc in absurd (omega arith)
    go (Some S) k h =
        let outcome = same_outcome h in
        let tables : S ≡ end c = ap (λ (o : Outcome). o.tables) outcome in
        record {
          opens = ap (λ (o : Outcome). o.opens) outcome;
          runs = refine_calls_runs 4 (start c) (end c) c.calls (k ∙ ap Some tables);
          splits = ap (splits_of c) (sym tables) ∙ ap (λ (o : Outcome). o.splits) outcome;
        }

-- every case of the table comes out as it says
pub worked_runs : (c : Case) → Memᴰ c worked → Comes c
worked_runs c k = comes c (same_at computed expected worked worked_out c k)
