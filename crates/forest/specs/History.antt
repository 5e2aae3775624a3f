-- The split elements after a history of accepted calls, each call given by its marks, taken as elements and not as row numbers (demand 3).
use mathlib.Core.List.{List, [], ◌∷◌, Memᴰ}
use Rattle.forest.specs.Element.{Forest, Element}
use Rattle.forest.specs.Closed.{Forced}
use Rattle.forest.specs.Union.{Either}

-- e is marked in one of the calls (demand 3, "every element marked in an accepted call")
pub record Marked (calls : List (List Element)) (e : Element) : Type 0 where
  pub call : List Element
  pub accepted : Memᴰ call calls
  pub mark : Memᴰ e call

-- what is split in an opened mesh (demand 3)
abbrev pub Nothing : Element → Type 0
Nothing e = ⊥

-- what is split after the calls, the newest first, where B was split before them: a call splits what its marks and the splits before it force (demand 3; 02, L5: "the elements still split and all later marks")
unfoldable pub called_since : Forest → (Element → Type 0) → List (List Element) → Element → Type 0
called_since F B [] e = B e
called_since F B (m ∷ ms) e = Forced F (Either (called_since F B ms) (λ x. Memᴰ x m)) e
