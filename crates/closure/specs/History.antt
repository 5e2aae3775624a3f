-- Histories of calls on tables (demand 3): an accepted opening, or any sound tables, then any refining calls, the refused ones included, with the elements that each accepted call marked.
use Rattle.std.specs.Prelude.{◌≡◌, List, [], ◌∷◌, ◌↔◌, ◌⊎◌, ℕ, Float, Result, Ok, Err}
use Rattle.tables.specs.declared.refusal.Cause.TheVariants.{Depth, Room}
use Rattle.tables.specs.declared.refusal.Refusal.{Refusal}
use Rattle.tables.specs.Refusal as refusal
use Rattle.tables.specs.declared.layout.Counts.{Counts}
use Rattle.tables.specs.declared.layout.Size.{Size}
use Rattle.tables.specs.Mesh.{Lent, mesh_of}
use Rattle.forest.specs.Element.{Forest, Element}
use Rattle.forest.specs.Closed.{Forced}
use Rattle.forest.specs.Union.{Either}
use Rattle.forest.specs.History.{Marked, Nothing}
use Rattle.opening.specs.Opening.{Opens}
use Rattle.sound.specs.Sound.{Sound}
use Rattle.sound.specs.Forest.{forest_of, SplitOf}
use Rattle.run.specs.Demand.{DeepIn, OutgrowsIn, marked_elements}
use Rattle.closure.specs.declared.answer.Refined.{Refined}
use Rattle.closure.specs.Refine.{refined_to, Refines}

-- The tables t with the counts c after refining calls on tables over the roots F, of which o counts the initial vertices and the roots, and where B was split at the start; the accepted ones marked these elements, the newest first.
-- It starts with an accepted opening, where nothing is split, or with any sound tables and what is split in them (02, L5: demands 2 and 3 start again there). A refused call, whatever counts it was given, leaves the counts as they were.
pub data Since (F : Forest) (o : Counts) (B : Element → Type 0) : Lent → Counts → List (List Element) → Type 0 where
  opened : {coordinates : List Float} {elements : List ℕ} {t t' : Lent} → Opens coordinates elements t (Ok o) t' → forest_of (mesh_of t' o) o.rows ≡ F → ((e : Element) → B e → ⊥) → Since F o B t' o []
  started : {t : Lent} {c : Counts} (s : Sound t c) → s.initials ≡ o.vertices → s.roots ≡ o.rows → forest_of (mesh_of t c) o.rows ≡ F → ((e : Element) → SplitOf (mesh_of t c) o.rows e ↔ B e) → Since F o B t c []
  accepted : {t : Lent} {c : Counts} {calls : List (List Element)} {marks : List ℕ} {d : Counts} {n : ℕ} {t' : Lent}
      → Since F o B t c calls → Refines t c marks (refined_to d n) t' → Since F o B t' d (marked_elements (mesh_of t c) o.rows marks ∷ calls)
  refused : {t : Lent} {c given : Counts} {calls : List (List Element)} {marks : List ℕ} {e : Refusal} {t' : Lent}
      → Since F o B t c calls → Refines t given marks (Err e) t' → Since F o B t' c calls

-- from an opened mesh on, or from sound tables in which nothing is split (demand 3)
abbrev pub History : Forest → Counts → Lent → Counts → List (List Element) → Type 0
History F o t c calls = Since F o Nothing t c calls

-- the smallest closed set that holds what was split at the start and every element marked in an accepted call of the history, with the marks of one more call added (demand 3; 02, L5)
abbrev pub SinceMarks : Forest → Counts → (Element → Type 0) → Lent → Counts → List (List Element) → List ℕ → Element → Type 0
SinceMarks F o B t c calls marks = Forced F (Either B (Marked (marked_elements (mesh_of t c) o.rows marks ∷ calls)))

-- the same from an opened mesh on: every element marked (demand 3)
abbrev pub WithMarks : Forest → Counts → Lent → Counts → List (List Element) → List ℕ → Element → Type 0
WithMarks F o t c calls marks = Forced F (Marked (marked_elements (mesh_of t c) o.rows marks ∷ calls))

-- the answer r of a call whose marks are all rows, in tables with this room, is refused by depth or room exactly if the set W would split an element of depth 60 or outgrow the tables (demand 3; 01, numbers 11 and 2)
pub record RefusedExactly (F : Forest) (o : Counts) (room : Size) (W : Element → Type 0) (r : Result Refined Refusal) : Type 0 where
  pub deep : r ≡ refusal.refused Depth 0 ↔ DeepIn W
  pub either : ((r ≡ refusal.refused Depth 0) ⊎ (r ≡ refusal.refused Room 0)) ↔ (DeepIn W ⊎ OutgrowsIn room F o.vertices W)
  pub full : (DeepIn W → ⊥) → r ≡ refusal.refused Room 0 ↔ OutgrowsIn room F o.vertices W
  pub done : (DeepIn W → ⊥) → (OutgrowsIn room F o.vertices W → ⊥) → (d : Counts) × (n : ℕ) × (r ≡ refined_to d n)
