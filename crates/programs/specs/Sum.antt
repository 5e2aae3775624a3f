-- A checksum of a list of numbers: one number after the other is mixed in.
use Rattle.std.specs.Prelude.{ℕ, ◌+◌, ◌*◌, ◌%◌, List, fold}

abbrev pub mixed : ℕ → ℕ → ℕ
mixed h x = (h % 1000003 * 31 + x) % 1000003

abbrev pub checksum : List ℕ → ℕ
checksum t = fold mixed 0 t
