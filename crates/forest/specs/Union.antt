-- The union of two sets of elements.
use Rattle.std.specs.Prelude.{◌⊎◌}
use Rattle.forest.specs.Element.{Element}

abbrev pub Either : (Element → Type 0) → (Element → Type 0) → Element → Type 0
Either A B e = A e ⊎ B e
