-- What the parts of the reader do with the lists that they fill. Nothing here is promised to callers.
use Rattle.std.specs.Prelude.{◌≡◌, List, ℕ, suc, ◌≤◌, ◌<◌, ◌+◌, ◌++◌, length, drop, Result, Ok, Err}
use Rattle.tables.specs.declared.refusal.Cause.{Cause}
use Rattle.tables.specs.declared.refusal.Cause.TheVariants as cause
use Rattle.tables.specs.declared.refusal.Refusal.{Refusal}
use Rattle.text.specs.declared.input.Lists.{Lists}
use Rattle.fields.specs.Field.{parts}
use Rattle.text.specs.Input.{Input, input, read_from}

-- what the lists hold
abbrev pub input_of : Lists → Input
input_of l = input l.coordinates.items l.elements.items l.marks.items

-- the items stand behind those of a list, which takes so many; where they are too many, the list stays as it is
pub record Appends {T : Type 0} (size : ℕ) (list items : List T) (r : Result (Unit {0}) Cause) (list' : List T) : Type 0 where
  pub fits : length list + length items ≤ size → (r ≡ Ok tt) × (list' ≡ list ++ items)
  pub over : size < length list + length items → (r ≡ Err cause.Lines) × (list' ≡ list)

-- line k, which starts at `at`, after the lines of i; those of j, where it is taken
pub record Turns (l : List ℕ) (at k : ℕ) (i : Input) (r : Result ℕ Refusal) (j : Input) : Type 0 where
  pub next : (a : ℕ) → r ≡ Ok a → (at < a) × (a ≤ length l) × (read_from i k (parts 10 (drop at l)) ≡ read_from j (suc k) (parts 10 (drop a l)))
  pub faults : (e : Refusal) → r ≡ Err e → read_from i k (parts 10 (drop at l)) ≡ Err e
