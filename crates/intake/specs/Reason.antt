-- What a test comes to, whatever a refusal is: by its cause or by its number (01, "What comes back").
use Rattle.std.specs.Prelude.{⊤, ℕ, Option, Some, None, Result, Err}
use Rattle.intake.specs.declared.reason.Numbered.{Numbered}

-- a number and its place
abbrev pub numbered_at : ℕ → ℕ → Numbered
numbered_at number place = record { number = number; place = place }

-- the refusal of the place found, else what comes next
abbrev pub decided : {E : Type 0} → (ℕ → E) → Option ℕ → Result ⊤ E → Result ⊤ E
decided refusal (Some p) next = Err (refusal p)
decided refusal None next = next
