-- What is split after a history of calls is the smallest closed set that holds what was split at its start and every element marked in an accepted call, so order, grouping and repetition of marks do not matter (demand 3).
use mathlib.Core.Path.{◌≡◌, sym, subst, ◌∙◌}
use mathlib.Core.List.{List, [], ◌∷◌}
use mathlib.Core.Logic.Iff
use mathlib.Core.Logic.{◌↔◌, ⊎_elim, inl, inr}
use Prim.Native.Nat.{ℕ, ◌<◌}
use Rattle.tables.specs.declared.layout.Counts.{Counts}
use Rattle.tables.specs.Mesh.{Lent, Mesh, mesh_of}
use Rattle.tables.proofs.laws.View.{mesh_row}
use Rattle.forest.specs.Element.{Forest, Element}
use Rattle.forest.specs.Closed.{Closed, Forced, Smallest}
use Rattle.forest.specs.Union.{Either}
use Rattle.forest.specs.History.{Marked}
use Rattle.forest.proofs.Smallest.{closed_along, smallest_along, smallest_same}
use Rattle.forest.proofs.History.{since_forced, nothing_before}
use Rattle.sound.specs.Sound.{row_of, Sound}
use Rattle.sound.specs.Forest.{forest_of, SplitOf}
use Rattle.sound.proofs.laws.Splits.{splits_closed}
use Rattle.run.specs.Demand.{marked_elements}
use Rattle.run.proofs.laws.Calls.{After, after_start, after_call}
use Rattle.run.proofs.laws.LeafSum.{split_told}
use Rattle.closure.specs.Refine.{refined_to, Refines}
use Rattle.closure.specs.History.{Since, opened, started, accepted, refused, History}
use Rattle.closure.proofs.laws.Promise.{refused_same}
use Rattle.closure.proofs.laws.Taken.{taken, sound_mesh, sound_ready, sound_rows}
use Rattle.closure.proofs.laws.Accepted.{accepted_few, accepted_markable, accepted_mesh, accepted_sound}
use Rattle.closure.proofs.laws.Opened.{Unsplit, opens_unsplit}

-- what a history leads to
pub record Held (F : Forest) (o : Counts) (B : Element → Type 0) (t : Lent) (c : Counts) (calls : List (List Element)) : Type 0 where
  pub sound : Sound t c
  pub initials_are : sound.initials ≡ o.vertices
  pub roots_are : sound.roots ≡ o.rows
  pub base : Closed F B
  pub after : After (mesh_of t c) o.rows F B calls

opened_held : {F : Forest} {B : Element → Type 0} {t : Lent} {c : Counts} → Unsplit t c → forest_of (mesh_of t c) c.rows ≡ F → ((e : Element) → B e → ⊥) → Held F c B t c []
opened_held {F} {B} {t} {c} u e none = record {
  sound = u.sound;
  initials_are = u.initials_are;
  roots_are = u.roots_are;
  base = record { parents = λ k s p h. absurd (none _ h); edges = λ x y p h g. absurd (none y h) };
  after = after_start e (λ x. (λ s. absurd (s.split (unsplit s.row (rw (sound_rows u.sound) at s.there))), λ b. absurd (none x b)));
}
  where
    unsplit : (k : ℕ) → k < c.rows → (row_of (mesh_of t c) k).child ≡ 0
    unsplit k l = rw (mesh_row t c k l) (u.leaves k l)

started_held : {F : Forest} {o : Counts} {B : Element → Type 0} {t : Lent} {c : Counts} (s : Sound t c) → s.initials ≡ o.vertices → s.roots ≡ o.rows → forest_of (mesh_of t c) o.rows ≡ F
    → ((e : Element) → SplitOf (mesh_of t c) o.rows e ↔ B e) → Held F o B t c []
started_held {F} {o} {B} {t} {c} s i r f b = record {
  sound = s;
  initials_are = i;
  roots_are = r;
  base = subst (λ (X : Forest). Closed X B) f (closed_along (λ e. Iff.symm (b e)) (subst (λ (k : ℕ). Closed (forest_of (mesh_of t c) k) (SplitOf (mesh_of t c) k)) r (splits_closed s.grown s.conforming)));
  after = after_start f b;
}

accepted_held : {F : Forest} {o : Counts} {B : Element → Type 0} {t : Lent} {c : Counts} {calls : List (List Element)} {marks : List ℕ} {d : Counts} {n : ℕ} {t' : Lent}
    → Held F o B t c calls → Refines t c marks (refined_to d n) t' → Held F o B t' d (marked_elements (mesh_of t c) o.rows marks ∷ calls)
accepted_held {F} {o} {B} {t} {c} {calls} {marks} {d} {n} {t'} h x =
    let on = accepted_sound h.sound x in
    record {
      sound = on.sound;
      initials_are = on.initials ∙ h.initials_are;
      roots_are = on.roots ∙ h.roots_are;
      base = h.base;
      after = subst (λ (k : ℕ). After (mesh_of t' d) k F B (marked_elements (mesh_of t c) k marks ∷ calls)) h.roots_are (further (subst (λ (k : ℕ). After (mesh_of t c) k F B calls) (sym h.roots_are) h.after));
    }
  where
    further : After (mesh_of t c) h.sound.roots F B calls → After (mesh_of t' d) h.sound.roots F B (marked_elements (mesh_of t c) h.sound.roots marks ∷ calls)
    further a =
        let s = h.sound in
        subst (λ (m : Mesh). After m s.roots F B (marked_elements (mesh_of t c) s.roots marks ∷ calls)) (sym (accepted_mesh s x))
        (rw (sound_mesh s) at (after_call (mesh_of t c).points s.initials s.roots (taken s x).accepts.run (sound_ready s) (accepted_few s x) (accepted_markable s x) {F = F} {B = B} {calls = calls} (rw (sound_mesh s) a)))

-- the tables stay sound, over the initial vertices and roots of the start
pub since_held : {F : Forest} {o : Counts} {B : Element → Type 0} {t : Lent} {c : Counts} {calls : List (List Element)} → Since F o B t c calls → Held F o B t c calls
since_held (opened x e none) = opened_held (opens_unsplit x) e none
since_held (started s i r f b) = started_held s i r f b
since_held (accepted h x) = accepted_held (since_held h) x
since_held (refused h x) = rw (refused_same x) (since_held h)

module _ {F : Forest} {o : Counts} {B : Element → Type 0} {t : Lent} {c : Counts} {calls : List (List Element)} (h : Since F o B t c calls) where
  -- an element is split exactly if the splits at the start and the marks of the accepted calls force it
  since_split : (e : Element) → SplitOf (mesh_of t c) o.rows e ↔ Forced F (Either B (Marked calls)) e
  since_split e = let w = since_held h in Iff.trans (w.after.splits e) (since_forced F B w.base calls e)

  -- the split elements are the smallest closed set holding those split at the start and every element marked in an accepted call since (demand 3; 02, L5)
  pub since_smallest : Smallest F (Either B (Marked calls)) (SplitOf (mesh_of t c) o.rows)
  since_smallest = smallest_along since_split

-- from an opened mesh on, they are the smallest closed set holding every element marked in an accepted call (demand 3)
pub history_smallest : {F : Forest} {o : Counts} {t : Lent} {c : Counts} {calls : List (List Element)} → History F o t c calls → Smallest F (Marked calls) (SplitOf (mesh_of t c) o.rows)
history_smallest h = smallest_along (λ e. Iff.trans (since_split h e) (nothing_before e))

-- so order, grouping and repetition of marks do not matter, nor do refused calls: two histories over the same roots that start with the same splits and mark the same elements split the same ones (demand 3)
pub history_free : {F : Forest} {o o' : Counts} {B : Element → Type 0} {t u : Lent} {c d : Counts} {calls calls' : List (List Element)}
    → Since F o B t c calls → Since F o' B u d calls' → ((e : Element) → Marked calls e ↔ Marked calls' e) → (e : Element) → SplitOf (mesh_of t c) o.rows e ↔ SplitOf (mesh_of u d) o'.rows e
history_free {o = o} {o' = o'} {t = t} {u = u} {c = c} {d = d} h k same =
    smallest_same (λ e. (⊎_elim inl (λ m. inr ((same e).0 m)), ⊎_elim inl (λ m. inr ((same e).1 m)))) (split_told (mesh_of t c) o.rows) (split_told (mesh_of u d) o'.rows) (since_smallest h) (since_smallest k)
