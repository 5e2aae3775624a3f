-- The rebuild and the list have one result each, and a row is listed exactly when no element reaches it (02, L13).
use mathlib.Core.Path.{◌≡◌, refl, sym, ◌∙◌}
use mathlib.Core.List.{List, [], ◌∷◌, ◌++◌}
use mathlib.Core.Logic.{inl, inr}
use Prim.Native.Nat.{ℕ, suc, ◌<◌}
use native.Mathlib.Omega.{arith}
use Rattle.split.proofs.laws.Places.{le_or_lt, less, equal, more, against}
use Rattle.tables.specs.Mesh.{Mesh}
use Rattle.forest.specs.Element.{Element, el}
use Rattle.sound.specs.Sound.{rows}
use Rattle.sound.specs.Forest.{grown}
use Rattle.run.specs.Skeleton.{Skeleton}
use Rattle.run.specs.Run.{RunAll}
use Rattle.run.proofs.laws.Unique.{run_all_unique}
use Rattle.salvage_theory.specs.Kept.{Intact, Reached, root, child, Kept, Listed, ListedBelow, none, passed, listed}
use Rattle.salvage_theory.specs.Rebuild.{opened, find, Rebuilt, start, passed as left, refined}
use Rattle.salvage_theory.proofs.laws.Names.{Reaching, top, under, reaching, one_element}

-- ---- the leading runs

-- which vertices and rows lead is told by the mesh
pub intact_one : {m : Mesh} {i t j u : ℕ} → Intact m i t → Intact m j u → (i ≡ j) × (t ≡ u)
intact_one {m} {i} {t} {j} {u} a b = (
  elim (against i j) [ less h ↦ absurd (a.vertices_end (omega (arith, b.vertices_in)) (b.initial i h)) | equal e ↦ e | more h ↦ absurd (b.vertices_end (omega (arith, a.vertices_in)) (a.initial j h)) ],
  elim (against t u) [ less h ↦ absurd (a.rows_end (omega (arith, b.rows_in)) (b.roots t h)) | equal e ↦ e | more h ↦ absurd (b.rows_end (omega (arith, a.rows_in)) (a.roots u h)) ],
)

-- ---- listed rows

-- a listed row is not reached
pub listed_lost : {m : Mesh} {t r : ℕ} {e : Element} → Listed m t r → Reached m t r e → ⊥
listed_lost {m} {t} {r} {e} l w = go (reaching w)
  where
    go : Reaching m t r e → ⊥
    go (top h q) = omega (arith, l.past)
    go (under u) = l.lost u.up u.element u.side u.kept u.here

-- and a row that is not reached is listed
pub lost_listed : {m : Mesh} {t r : ℕ} → r < rows m → ((e : Element) → Reached m t r e → ⊥) → Listed m t r
lost_listed {m} {t} {r} h never = record {
  there = h;
  past = elim (le_or_lt t r) [ inl l ↦ l | inr l ↦ absurd (never (el r []) (root l refl)) ];
  lost = λ p e s k q. never (grown s e) (child s k.reached k.follows q refl);
}

-- ---- one list

record OneList (m : Mesh) (t x : ℕ) (a : List ℕ) : Type 0 where
  only : (b : List ℕ) → ListedBelow m t x b → a ≡ b

none_list : {m : Mesh} {t : ℕ} {a : List ℕ} → a ≡ [] → OneList m t 0 a
none_list {m} {t} {a} q = record { only = λ b. go }
  where
    go : {b : List ℕ} → ListedBelow m t 0 b → a ≡ b
    go (none z) = q ∙ sym z

passed_list : {m : Mesh} {t x : ℕ} {a : List ℕ} → (Listed m t x → ⊥) → OneList m t x a → OneList m t (suc x) a
passed_list {m} {t} {x} {a} h f = record { only = λ b. go }
  where
    go : {b : List ℕ} → ListedBelow m t (suc x) b → a ≡ b
    go {b} (passed w k) = f.only b w
    go (listed w k z) = absurd (h k)

listed_list : {m : Mesh} {t x : ℕ} {a a' : List ℕ} → Listed m t x → a' ≡ a ++ (x ∷ []) → OneList m t x a → OneList m t (suc x) a'
listed_list {m} {t} {x} {a} {a'} h q f = record { only = λ b. go }
  where
    go : {b : List ℕ} → ListedBelow m t (suc x) b → a' ≡ b
    go (passed w k) = absurd (k h)
    go (listed {l = l} w k z) = q ∙ rw (f.only l w) (sym z)

one_list : {m : Mesh} {t x : ℕ} {a : List ℕ} → ListedBelow m t x a → OneList m t x a
one_list (none q) = none_list q
one_list (passed w h) = passed_list h (one_list w)
one_list (listed w h q) = listed_list h q (one_list w)

pub list_unique : {m : Mesh} {t x : ℕ} {a b : List ℕ} → ListedBelow m t x a → ListedBelow m t x b → a ≡ b
list_unique {b = b} v w = (one_list v).only b w

-- ---- one rebuilt mesh

module _ {m : Mesh} {i t : ℕ} (n : Intact m i t) where
  record OneMesh (x : ℕ) (A : Skeleton) : Type 0 where
    only : (B : Skeleton) → Rebuilt m i t x B → A ≡ B

  start_mesh : {A : Skeleton} → A ≡ opened m i t → OneMesh 0 A
  start_mesh {A} q = record { only = λ B. go }
    where
      go : {B : Skeleton} → Rebuilt m i t 0 B → A ≡ B
      go (start z) = q ∙ sym z

  left_mesh : {x : ℕ} {A : Skeleton} → ((e : Element) → Kept m t x e → ⊥) → OneMesh x A → OneMesh (suc x) A
  left_mesh {x} {A} h f = record { only = λ B. go }
    where
      go : {B : Skeleton} → Rebuilt m i t (suc x) B → A ≡ B
      go {B} (left p k) = f.only B p
      go (refined {e = e} p k q) = absurd (h e k)

  refined_mesh : {x : ℕ} {e : Element} {T A : Skeleton} → Kept m t x e → RunAll T (find T.rows e ∷ []) A → OneMesh x T → OneMesh (suc x) A
  refined_mesh {x} {e} {T} {A} k q f = record { only = λ B. go }
    where
      go : {B : Skeleton} → Rebuilt m i t (suc x) B → A ≡ B
      go (left p h) = absurd (h e k)
      go {B} (refined {e = d} {T = S} p h z) = run_all_unique q (rw (f.only S p, one_element n k.reached h.reached) z)

  one_mesh : {x : ℕ} {A : Skeleton} → Rebuilt m i t x A → OneMesh x A
  one_mesh (start q) = start_mesh q
  one_mesh (left p h) = left_mesh h (one_mesh p)
  one_mesh (refined p k q) = refined_mesh k q (one_mesh p)

  pub rebuilt_unique : {x : ℕ} {A B : Skeleton} → Rebuilt m i t x A → Rebuilt m i t x B → A ≡ B
  rebuilt_unique {B = B} p q = (one_mesh p).only B q
