-- Histories of calls on tables: what is split is what the splits at the start and the calls' marks force (demand 3).
use mathlib.Core.Path.{◌≡◌, subst, ◌∙◌}
use mathlib.Core.List.Memᴰ
use mathlib.Core.List.{List, [], ◌∷◌, Memᴰ}
use mathlib.Core.Logic.Iff
use mathlib.Core.Logic.{◌↔◌, inl, inr}
use Prim.Native.Nat.{ℕ, ◌<◌}
use lib.ListN.{length}
use Rattle.split.specs.declared.point.Point.{Point}
use Rattle.tables.specs.Mesh.{Mesh}
use Rattle.forest.specs.Element.{Forest, Element}
use Rattle.forest.specs.Closed.{Forced}
use Rattle.forest.specs.Union.{Either}
use Rattle.forest.specs.History.{called_since}
use Rattle.forest.proofs.Forced.{forced_monotone}
use Rattle.sound.specs.Forest.{forest_of, element_of, SplitOf}
use Rattle.run.specs.Ready.{Ready}
use Rattle.run.specs.Skeleton.{Skeleton, meshed}
use Rattle.run.specs.Run.{RunAll}
use Rattle.run.specs.Demand.{MarkedIn, marked_elements, Needed}
use Rattle.run.proofs.laws.Needs.{AllMarkable}
use Rattle.run.proofs.laws.Demanded.{run_finished, demanded}

-- m has the roots F, and its split elements are those after the calls, the newest first, where B was split before them
pub record After (m : Mesh) (t : ℕ) (F : Forest) (B : Element → Type 0) (calls : List (List Element)) : Type 0 where
  pub forest : forest_of m t ≡ F
  pub splits : (e : Element) → SplitOf m t e ↔ called_since F B calls e

-- no call yet
pub after_start : {m : Mesh} {t : ℕ} {F : Forest} {B : Element → Type 0} → forest_of m t ≡ F → ((e : Element) → SplitOf m t e ↔ B e) → After m t F B []
unfolding called_since
after_start f s = record { forest = f; splits = s }

listed_marked : (m : Mesh) (t : ℕ) (rs : List ℕ) (e : Element) → Memᴰ e (marked_elements m t rs) → MarkedIn m t rs e
listed_marked m t rs e k = let (r, j, q) = Memᴰ.of_map (element_of m t) rs k in record { row = r; listed = j; is = q }

marked_listed : (m : Mesh) (t : ℕ) (rs : List ℕ) (e : Element) → MarkedIn m t rs e → Memᴰ e (marked_elements m t rs)
marked_listed m t rs e k = subst (λ (x : Element). Memᴰ x (marked_elements m t rs)) k.is (Memᴰ.map (element_of m t) k.listed)

module _ {m : Mesh} {t : ℕ} {F : Forest} {B : Element → Type 0} {calls : List (List Element)} (a : After m t F B calls) where
  -- what a call needs after calls is what is split after it and them
  pub needed_called : (rs : List ℕ) (e : Element) → Needed m t rs e ↔ called_since F B (marked_elements m t rs ∷ calls) e
  unfolding called_since
  needed_called rs e = subst (λ (X : Forest). Needed m t rs e ↔ Forced X (Either (called_since F B calls) (λ y. Memᴰ y (marked_elements m t rs))) e) a.forest (forced_monotone there e, forced_monotone back e)
    where
      there : (x : Element) → Either (SplitOf m t) (MarkedIn m t rs) x → Either (called_since F B calls) (λ y. Memᴰ y (marked_elements m t rs)) x
      there x (inl s) = inl ((a.splits x).0 s)
      there x (inr k) = inr (marked_listed m t rs x k)

      back : (x : Element) → Either (called_since F B calls) (λ y. Memᴰ y (marked_elements m t rs)) x → Either (SplitOf m t) (MarkedIn m t rs) x
      back x (inl s) = inl ((a.splits x).1 s)
      back x (inr k) = inr (listed_marked m t rs x k)

  -- one call more, however it is made: exactly what it needs is split
  pub after_needed : {n : Mesh} {rs : List ℕ} → forest_of n t ≡ forest_of m t → ((e : Element) → SplitOf n t e ↔ Needed m t rs e) → After n t F B (marked_elements m t rs ∷ calls)
  after_needed {n} {rs} f s = record { forest = f ∙ a.forest; splits = λ e. Iff.trans (s e) (needed_called rs e) }

-- and by a run
pub after_call : (P : List Point) (i t : ℕ) {S S' : Skeleton} {rs : List ℕ} → RunAll S rs S' → Ready P i t S → length S'.records < 4294967295 → AllMarkable S rs
    → {F : Forest} {B : Element → Type 0} {calls : List (List Element)} → After (meshed P S) t F B calls → After (meshed P S') t F B (marked_elements (meshed P S) t rs ∷ calls)
after_call P i t p y few k a = after_needed a (run_finished P i t p y few k).grows.forest (demanded P i t p y few k)
