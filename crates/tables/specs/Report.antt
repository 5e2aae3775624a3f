-- What a call comes back with, as the numbers of document 01; each answer enum has one definition that gives them.
use Rattle.std.specs.Prelude.{ℕ}
use Rattle.tables.specs.declared.layout.Counts.{Counts}
use Rattle.tables.specs.Layout.{no_counts}

-- what opening and refining come back with (01, "What comes back")
pub record Report : Type 0 where
  pub number : ℕ
  pub place : ℕ
  pub counts : Counts
  pub splits : ℕ

-- its number and place, zero counts and zero splits (01, "What comes back")
abbrev pub refusal : ℕ → ℕ → Report
refusal number place = record { number = number; place = place; counts = no_counts; splits = 0 }

-- number 0, place 0, the counts and the splits (01, "What comes back", its row for done)
abbrev pub done : Counts → ℕ → Report
done c splits = record { number = 0; place = 0; counts = c; splits = splits }

-- what listing comes back with: it changes no count and splits nothing (01, "What comes back")
pub record Tally : Type 0 where
  pub number : ℕ
  pub place : ℕ
  pub leaves : ℕ

-- its number and place, and no leaves (01, "What comes back")
abbrev pub unlisted : ℕ → ℕ → Tally
unlisted number place = record { number = number; place = place; leaves = 0 }

-- number 0, place 0, the number of leaves (01, "What comes back")
abbrev pub listed : ℕ → Tally
listed leaves = record { number = 0; place = 0; leaves = leaves }
