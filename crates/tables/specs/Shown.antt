-- How a refusal is shown.
use Rattle.std.specs.Prelude.{List, [], ◌∷◌, ℕ}
use Rattle.split.specs.Shown.{spaced}
use Rattle.tables.specs.Refusal.{number_of}
use Rattle.tables.specs.declared.refusal.Refusal.{Refusal}

-- the number of the cause (01, "What comes back") and the place
abbrev pub refusal_text : Refusal → List ℕ
refusal_text e = spaced (number_of e.cause ∷ e.place ∷ [])
