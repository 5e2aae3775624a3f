-- One read line, by its shape.
use mathlib.Core.Path.{◌≡◌}
use mathlib.Core.List.{List}
use Prim.Native.Nat.{ℕ}
use Rattle.std.specs.Prelude.{None, Some}
use Rattle.fields.specs.declared.line.Line.{Line}
use Rattle.fields.specs.declared.line.Line.TheVariants.{Refused}
use Rattle.fields.specs.Line.{record_of, line_of}

-- the record, where there is one
pub line_record : (l : List ℕ) (p : ℕ) {v : Line} → record_of l ≡ Some v → line_of l p ≡ v
unfolding line_of
line_record l p e = rw e

pub line_refused : (l : List ℕ) (p : ℕ) → record_of l ≡ None → line_of l p ≡ Refused p
unfolding line_of
line_refused l p e = rw e
